use Rattle.std.proofs.Common.{◌≡◌, None, subst}
use Rattle.offer_model.specs.Problems.{ProblemData}
use Rattle.tree_search.specs.Goals.{IsTop}
use Rattle.segment_bound.specs.Tangents.{tangent_rules}
use Rattle.assort_core.proofs.MixedLemmas.{some_top}
use Rattle.assort_core.proofs.optimum.best_mixed.Goals as goal

pub unreachable-requires : goal.unreachable-requires
unreachable-requires g c =
    let g = c.in_ok-goal.goal in
    let top : IsTop (tangent_rules g.problem g.order) c.in_ok-best.field-0 = c.in_ok-best.ensures.top in
    let none = rw c.in-None.is at top in
    let same : g.problem ≡ c.args.p.now = c.in_ok-goal.ensures.goal in
    some_top c.args.p.now g.order (subst (λ (p : ProblemData). IsTop (tangent_rules p g.order) None) same none)

use Rattle.std.proofs.Common.{◌≡◌, ◌∙◌, ap, sym, subst, arith, ◌<◌}
use Rattle.offer_model.specs.Chains.{place_count, least_leaving, least_leaving_below}
use Rattle.chain_moves.proofs.GapLemmas.{some_leaves}
use Rattle.chain_moves.proofs.gap.least_leaving.Goals as goal

pub returns-clause-some : goal.returns-clause-some
returns-clause-some c =
    let each = c.requires.rows.each in
    let last : c.loop-row.row-index ≡ place_count c.args.chain.now = omega (arith, each, c.loop-row-test.false, c.loop-row.auto.row-index-end) in
    let is : c.loop-row.least ≡ least_leaving c.args.chain.now = c.loop-row.invariant ∙ ap (least_leaving_below c.args.chain.now) last in
    subst (λ z. 0 < z) (sym is) (some_leaves c.args.chain.now c.scale-scale.ensures.valid)

use Rattle.std.proofs.Common.{◌≡◌, ◌+◌, ◌∙◌, ap, drop, subst, arith, Some}
use Rattle.std.specs.Prelude.{slice_get}
use Rattle.offer_model.specs.LeafBounds.{ladder_tops}
use Rattle.leaf_bounds.proofs.ListLemmas.{drop_at}
use Rattle.leaf_bounds.proofs.potentials.ladder_tops.Goals as goal

pub loop-k-preserved : goal.loop-k-preserved
loop-k-preserved c =
    let got = subst (λ z. slice_get z c.loop-k.k ≡ Some c.get.result.now) c.limits-in-loop-k.ensures.value c.get.ensures in
    let rest = ap (λ z. ladder_tops c.args.p.now c.args.numbers.now.items z) (drop_at c.args.p.now.limits c.loop-k.k c.get.result.now got) ∙ c.top_under-sum.ensures.value (drop (c.loop-k.k + 1) c.args.p.now.limits) in
    record {
      is = omega (arith, rest, c.loop-k.invariant.is);
      small = omega (arith, c.loop-k.invariant.small, c.top_under-sum.ensures.bound);
    }

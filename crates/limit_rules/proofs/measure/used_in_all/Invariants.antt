use Rattle.std.proofs.Common.{◌≡◌, ◌*◌, ◌≤◌, cond}
use Rattle.offer_model.specs.Assortments.{offers, sum_below}
use Rattle.limit_rules.specs.Measures.{used_of}
use Rattle.limit_rules.proofs.measure.used_in_all.Given as goal

abbrev pub invariant-loop-i : goal.invariant-loop-i
invariant-loop-i g l = record {
  sum : l.total ≡ sum_below l.i (λ i. cond (offers (g.C.Choice.chosen l.x) i) (used_of l.p l.measure i) 0);
  small : l.total ≤ l.i * 1000;
}

use Rattle.std.proofs.Common.{◌≡◌, ℕ, ◌<◌, length}
use Rattle.offer_model.specs.Assortments.{offers}
use Rattle.offer_model.specs.Nodes.{fill_of}
use Rattle.limit_rules.proofs.fill.fill_out.Given as goal

abbrev pub invariant-loop-i : goal.invariant-loop-i
invariant-loop-i l = record {
  long : length l.into ≡ length l.node;
  filled : (k : ℕ) → k < l.i → offers l.into k ≡ offers (fill_of l.node) k;
}

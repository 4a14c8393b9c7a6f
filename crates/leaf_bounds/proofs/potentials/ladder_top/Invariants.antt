use Rattle.std.proofs.Common.{◌≡◌, ◌≤◌, ◌^◌}
use Rattle.offer_model.specs.LeafBounds.{ladder_top}
use Rattle.leaf_bounds.proofs.potentials.ladder_top.Given as goal

abbrev pub invariant-loop-i : goal.invariant-loop-i
invariant-loop-i l = record {
  is : l.top ≡ ladder_top l.p l.numbers.items l.ladder l.i;
  small : l.top ≤ 2 ^ 108;
}

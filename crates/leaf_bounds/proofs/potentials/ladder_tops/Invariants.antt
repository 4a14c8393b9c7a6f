use Rattle.std.proofs.Common.{◌≡◌, ◌+◌, ◌*◌, ◌≤◌, ◌^◌, drop}
use Rattle.offer_model.specs.LeafBounds.{ladder_tops}
use Rattle.leaf_bounds.proofs.potentials.ladder_tops.Given as goal

abbrev pub invariant-loop-k : goal.invariant-loop-k
invariant-loop-k l = record {
  is : ladder_tops l.p l.numbers.items l.p.limits ≡ l.sum + ladder_tops l.p l.numbers.items (drop l.k l.p.limits);
  small : l.sum ≤ l.k * 2 ^ 108;
}

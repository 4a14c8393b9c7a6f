use Rattle.std.proofs.Common.{◌≡◌, ℕ, ◌<◌, length, get_or}
use Rattle.offer_model.specs.Problems.{product_count}
use Rattle.shelf_table.specs.Tables.{space_of}
use Rattle.shelf_table.proofs.room.spaces_of.Given as goal

abbrev pub invariant-loop-i : goal.invariant-loop-i
invariant-loop-i l = record {
  each : length l.spaces.items ≡ product_count l.p;
  is : (j : ℕ) → j < l.i → get_or l.spaces.items j 0 ≡ space_of l.p j;
}

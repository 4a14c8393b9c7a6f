use Rattle.std.proofs.Common.{◌≡◌, ◌+◌, ◌≤◌, length, map, take}
use Rattle.trial_inputs.specs.TrialInputs.{trial_product}
use Rattle.trial_inputs.proofs.products.products_of.Given as goal

abbrev pub invariant-loop-i : goal.invariant-loop-i
invariant-loop-i l = record {
  made : l.products.items ≡ map trial_product (take l.i l.margins.items);
  room : length l.margins.items ≤ l.products.spare + l.i;
}

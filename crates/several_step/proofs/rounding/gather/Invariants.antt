use Rattle.std.proofs.Common.{◌≡◌}
use Rattle.std.specs.Prelude.{vec_capacity}
use Rattle.offer_model.specs.Problems.{product_count}
use Rattle.several_step.specs.ChainFits.{AreBelow}
use Rattle.several_step.proofs.rounding.gather.Given as goal

abbrev pub invariant-loop-j : goal.invariant-loop-j
invariant-loop-j l = record {
  below : AreBelow (product_count l.p) l.members.items;
  room : vec_capacity l.members ≡ vec_capacity l.fn.members;
}

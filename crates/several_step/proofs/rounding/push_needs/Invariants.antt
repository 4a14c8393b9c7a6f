use Rattle.std.proofs.Common.{◌≡◌}
use Rattle.std.specs.Prelude.{vec_capacity}
use Rattle.offer_model.specs.Problems.{product_count}
use Rattle.several_step.specs.ChainFits.{AreBelow}
use Rattle.several_step.proofs.rounding.push_needs.Given as goal

abbrev pub invariant-loop-k : goal.invariant-loop-k
invariant-loop-k l = record {
  below : AreBelow (product_count l.p) l.members.items;
  room : vec_capacity l.members ≡ vec_capacity l.fn.members;
}

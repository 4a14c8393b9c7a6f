use Rattle.std.proofs.Common.{◌≡◌, take, map, length, nat_eq}
use Rattle.assort_core.proofs.commands.eval.read_offer.Given as goal

abbrev pub invariant-loop-i : goal.invariant-loop-i
invariant-loop-i l = record {
  long : length l.offered ≡ length l.digits;
  marks : take l.i l.offered ≡ take l.i (map (nat_eq 49) l.digits);
}

use Rattle.std.proofs.Common.{◌≡◌, ◌+◌, ◌*◌, ◌≤◌, ◌^◌, drop}
use Rattle.segment_bound.proofs.ReachLemmas.{grown}
use Rattle.segment_bound.proofs.greatest.reach.Given as goal

abbrev pub invariant-loop-q : goal.invariant-loop-q
invariant-loop-q l = record {
  so_far : grown l.node l.segment (drop l.q-index l.order) l.sums ≡ grown l.node l.segment l.order l.fn.start;
  gain : l.sums.gain ≤ (256 + l.q-index) * 10 ^ 18;
  weight : l.sums.weight ≤ (257 + l.q-index) * 10 ^ 9;
}

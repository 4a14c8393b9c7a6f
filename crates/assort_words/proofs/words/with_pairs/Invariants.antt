use Rattle.std.proofs.Common.{◌≡◌, ◌+◌, ◌-◌, ◌≤◌, length, drop}
use Rattle.assort_words.specs.Asked.{bare_request, with_pairs}
use Rattle.assort_words.proofs.words.with_pairs.Given as goal

abbrev pub invariant-pairs : goal.invariant-pairs
invariant-pairs l = record {
  inside : l.at ≤ length l.words;
  rest : with_pairs l.request (l.at + 1) (drop l.at l.words) ≡ with_pairs (bare_request l.fn.command) 2 (drop 1 l.words);
}

abbrev pub decreases-pairs : goal.decreases-pairs
decreases-pairs l = length l.words - l.at

use Rattle.std.proofs.Common.{◌≡◌, ◌+◌, ◌++◌, take}
use Rattle.offer_model.proofs.lists.Items+u8.push_slice.Given as goal

abbrev pub invariant-loop-byte : goal.invariant-loop-byte
invariant-loop-byte l = record {
  items : l.self.items ≡ l.initial.self.items ++ take l.byte-index l.piece;
  spare : l.self.spare + l.byte-index ≡ l.initial.self.spare;
}

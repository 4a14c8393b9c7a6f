-- What holds while a piece is written to a writer.
use Rattle.std.proofs.Common.{◌≡◌, refl, ℕ, ◌+◌, ◌-◌, List, ◌++◌, length, take, drop, Option, Some, None, append_assoc}
use Rattle.std.proofs.lemmas.List.{drop-drop, take_rest}
use Rattle.std.proofs.Math.Seq.{take-add}
use Rattle.std.specs.Io.KnownBytes.{Appends}

-- A part of the piece has reached the writer, and the rest is left.
pub record IsWriting (before : Option (List ℕ)) (piece rest : List ℕ) (now : Option (List ℕ)) : Type 0 where
  pub done : ℕ
  pub left : rest ≡ drop done piece
  pub bytes : Appends before now (take done piece)

appends_more : (a b c : Option (List ℕ)) (x y : List ℕ) → Appends a b x → Appends b c y → Appends a c (x ++ y)
appends_more None b c x y p q = tt
appends_more (Some a) None c x y p q = absurd p
appends_more (Some a) (Some b) None x y p q = absurd q
appends_more (Some a) (Some b) (Some c) x y p q = rw (q, p) (append_assoc a x y)

-- After a write of so many bytes, where the rest is cut as a slice from there.
pub goes_on : (before now next : Option (List ℕ)) (piece rest : List ℕ) (n : ℕ)
    → IsWriting before piece rest now
    → Appends now next (take n rest) → IsWriting before piece (take (length rest - n) (drop n rest)) next
goes_on before now next piece rest n was more = rw (take_rest rest n) (record {
  done = was.done + n;
  left = rw (was.left, drop-drop n was.done piece) refl;
  bytes = rw (take-add was.done n piece, ← was.left) (appends_more before now next (take was.done piece) (take n rest) was.bytes more);
})

-- Bytes that are written one piece after another.
use Rattle.std.proofs.Common.{◌≡◌, ◌∙◌, refl, sym, ap, arith, ℕ, zero, suc, ◌≤◌, List, [], ◌∷◌, ◌++◌, take, true, false, Ok, Err, append_assoc, inl, inr, subst, Result}
use Rattle.std.specs.Prelude.{IsErr}
use Rattle.std.proofs.lemmas.List.{append-nil}
use Rattle.offer_io.specs.Causes.{Rose}
use Rattle.offer_io.specs.declared.devices.Failed.{Failed}
use Rattle.offer_io.specs.Stores.{StoreView, Appends, Extends}
use Rattle.offer_io.proofs.CallerLemmas.{extends_whole, extends_part, extends_more}
use Rattle.proof_tree.specs.Puts.{Adds, Puts}

-- A part from the front of a text is one from the front of a longer text.
part_of_longer : (n : ℕ) (a b : List ℕ) → (m : ℕ) × (take n a ≡ take m (a ++ b))
part_of_longer zero a b = (0, refl)
part_of_longer (suc n) [] b = (0, refl)
part_of_longer (suc n) (x ∷ a) b = let rest = part_of_longer n a b in (suc rest.0, ap (λ t. x ∷ t) rest.1)

-- A text and a part of the next are a part of both.
part_of_both : (n : ℕ) (a b : List ℕ) → (m : ℕ) × (a ++ take n b ≡ take m (a ++ b))
part_of_both n [] b = (n, refl)
part_of_both n (x ∷ a) b = let rest = part_of_both n a b in (suc rest.0, ap (λ t. x ∷ t) rest.1)

rose_later : (a b c : ℕ) → a ≤ b → Rose b c → Rose a c
rose_later a b c l h = grind (arith)

adds_later : (old mid : StoreView) (bytes : List ℕ) → Adds old bytes mid → old.faults ≤ mid.faults
adds_later old mid bytes (inl same) = rw same.1 (omega arith)
adds_later old mid bytes (inr grown) = grown.later

adds_steady : (old mid : StoreView) (bytes : List ℕ) → Adds old bytes mid → mid.steady ≡ old.steady
adds_steady old mid bytes (inl same) = rw same.1 refl
adds_steady old mid bytes (inr grown) = grown.stays.steady

-- No byte.
pub puts_nothing : {T E : Type 0} (view : StoreView) (t : T) → view.writing ≡ true → Puts {T = T} {E = E} view [] (Ok t) view
puts_nothing view t writing = record {
  whole = inl (refl, refl);
  part = tt;
  writing = writing;
  cause = tt;
  ready = λ steady. refl;
}

extends_after : (old mid new : StoreView) (a b : List ℕ) → Adds old a mid → Extends mid b new → Extends old (a ++ b) new
extends_after old mid new a b (inl same) e = rw same.0 (subst (λ v. Extends v b new) same.1 e)
extends_after old mid new a b (inr grown) e = extends_more old mid new a b grown e

adds_after : (old mid new : StoreView) (a b : List ℕ) → Adds old a mid → Adds mid b new → Adds old (a ++ b) new
adds_after old mid new a b first (inl same) = rw (same.0, same.1, append-nil a) first
adds_after old mid new a b first (inr grown) = inr (extends_after old mid new a b first grown)

-- After the first bytes come the others, or a part of them.
pub puts_then : {T U E : Type 0} (old mid new : StoreView) (a b : List ℕ) (t : T) (result : Result U E)
    → Puts {T = T} {E = E} old a (Ok t) mid → Puts mid b result new → Puts old (a ++ b) result new
puts_then old mid new a b t (Ok u) first next = record {
  whole = adds_after old mid new a b first.whole next.whole;
  part = tt;
  writing = next.writing;
  cause = tt;
  ready = λ steady. refl;
}
puts_then old mid new a b t (Err e) first next =
    let both = part_of_both next.part.0 a b in
    record {
      whole = tt;
      part = (both.0, rw (← both.1) (extends_after old mid new a (take next.part.0 b) first.whole next.part.1));
      writing = next.writing;
      cause = rose_later old.faults mid.faults new.faults (adds_later old mid a first.whole) next.cause;
      ready = λ steady. next.ready (adds_steady old mid a first.whole ∙ steady);
    }

-- After a failure in the first bytes the others are not written.
pub puts_stop : {T U E : Type 0} (old new : StoreView) (a b : List ℕ) (e : E) (result : Result U E) → IsErr result
    → Puts {T = T} {E = E} old a (Err e) new → Puts old (a ++ b) result new
puts_stop old new a b e (Ok u) failed first = absurd (never failed)
  where
    never : false ≡ true → ⊥
    never h = cc
puts_stop old new a b e (Err d) failed first =
    let longer = part_of_longer first.part.0 a b in
    record {
      whole = tt;
      part = (longer.0, rw (← longer.1) first.part.1);
      writing = first.writing;
      cause = first.cause;
      ready = λ steady. absurd (never (first.ready steady));
    }
  where
    never : false ≡ true → ⊥
    never h = cc

-- A piece is appended whole, or in part.
pub puts_piece : {T E : Type 0} (old new : StoreView) (bytes piece : List ℕ) (result : Result T E)
    → piece ≡ bytes → Appends old piece result new → Puts old bytes result new
puts_piece old new bytes piece (Ok t) is h = record {
  whole = inr (subst (λ b. Extends old b new) is (extends_whole old piece t new h));
  part = tt;
  writing = h.writing;
  cause = tt;
  ready = λ steady. refl;
}
puts_piece old new bytes piece (Err e) is h = record {
  whole = tt;
  part = subst (λ b. (n : ℕ) × Extends old (take n b) new) is (extends_part old piece e new h);
  writing = h.writing;
  cause = h.cause.failed;
  ready = h.ready;
}

-- ---- Pieces of one text.

-- Of these bytes all are written but the rest.
pub record IsPutSoFar (old : StoreView) (all rest : List ℕ) (now : StoreView) : Type 0 where
  pub before : List ℕ
  pub whole : all ≡ before ++ rest
  pub written : Puts {T = Unit {0}} {E = Failed} old before (Ok tt) now

-- Nothing is written yet.
pub none_so_far : (view : StoreView) (all : List ℕ) → view.writing ≡ true → IsPutSoFar view all all view
none_so_far view all writing = record { before = []; whole = refl; written = puts_nothing view tt writing }

-- One more piece is written.
pub more_so_far : (old mid new : StoreView) (all rest piece after : List ℕ) → rest ≡ piece ++ after → IsPutSoFar old all rest mid
    → Puts {T = Unit {0}} {E = Failed} mid piece (Ok tt) new → IsPutSoFar old all after new
more_so_far old mid new all rest piece after is h w = record {
  before = h.before ++ piece;
  whole = h.whole ∙ ap (λ z. h.before ++ z) is ∙ sym (append_assoc h.before piece after);
  written = puts_then old mid new h.before piece tt (Ok tt) h.written w;
}

-- The next piece is not written whole, and nothing after it.
pub stops_so_far : {T : Type 0} (old mid new : StoreView) (all rest piece after : List ℕ) (e : Failed) (result : Result T Failed) → IsErr result → rest ≡ piece ++ after
    → IsPutSoFar old all rest mid → Puts {T = Unit {0}} {E = Failed} mid piece (Err e) new → Puts old all result new
stops_so_far old mid new all rest piece after e result failed is h w =
    subst (λ z. Puts old z result new) (ap (λ z. h.before ++ z) (sym is) ∙ sym h.whole)
    (puts_then old mid new h.before (piece ++ after) tt result h.written (puts_stop mid new piece after e result failed w))

-- The last piece.
pub last_so_far : {T : Type 0} (old mid new : StoreView) (all rest : List ℕ) (result : Result T Failed) → IsPutSoFar old all rest mid
    → Puts mid rest result new → Puts old all result new
last_so_far old mid new all rest result h w =
    subst (λ z. Puts old z result new) (sym h.whole) (puts_then old mid new h.before rest tt result h.written w)

-- All is written.
pub all_so_far : {T : Type 0} (old now : StoreView) (all rest : List ℕ) (t : T) → rest ≡ [] → IsPutSoFar old all rest now → Puts {T = T} {E = Failed} old all (Ok t) now
all_so_far {T} old now all rest t none h =
    last_so_far old now now all rest (Ok t) h (subst (λ z. Puts {T = T} {E = Failed} now z (Ok t) now) (sym none) (puts_nothing now t h.written.writing))

-- For callers: a loop over `append` extends the open output by all that it appended.
use Rattle.std.proofs.Common.{◌≡◌, ◌∙◌, refl, arith, ℕ, List, [], ◌++◌, take, Bool, true, false, Some, Ok, Err, IsTrue, append_assoc}
use Rattle.std.proofs.lemmas.List.{append-nil}
use Rattle.offer_io.specs.Stores.{StoreView, Grows, Appends, Extends}

-- Before the first append nothing has been added.
pub extends_nothing : (view : StoreView) → view.writing ≡ true
    → (IsTrue view.tells → (content : List ℕ) × (view.file view.output ≡ Some content)) → Extends view [] view
extends_nothing view writing there = record {
  others = λ told other differs. refl;
  output = λ told. refl;
  grown = λ told. let t = there told in (t.0, t.1, t.1 ∙ (rw (append-nil t.0) refl));
  reading = refl;
  writing = writing;
  later = omega arith;
  stays = record { tells = refl; steady = refl; held = refl };
}

-- A whole piece.
pub extends_whole : {T E : Type 0} (old : StoreView) (piece : List ℕ) (t : T) (new : StoreView)
    → Appends {T = T} {E = E} old piece (Ok t) new → Extends old piece new
extends_whole old piece t new appends = record {
  others = appends.others;
  output = appends.output;
  grown = appends.whole;
  reading = appends.reading;
  writing = appends.writing;
  later = appends.cause.later;
  stays = appends.stays;
}

-- A part of a piece, where the append failed.
pub extends_part : {T E : Type 0} (old : StoreView) (piece : List ℕ) (e : E) (new : StoreView)
    → Appends {T = T} {E = E} old piece (Err e) new → (n : ℕ) × Extends old (take n piece) new
extends_part old piece e new appends = by_tells old.tells refl
  where
    rest : (n : ℕ) → (IsTrue old.tells → Grows (old.file old.output) (take n piece) (new.file old.output))
        → Extends old (take n piece) new
    rest n grown = record {
      others = appends.others;
      output = appends.output;
      grown = grown;
      reading = appends.reading;
      writing = appends.writing;
      later = appends.cause.later;
      stays = appends.stays;
    }

    by_tells : (tells : Bool) → old.tells ≡ tells → (n : ℕ) × Extends old (take n piece) new
    by_tells true is = let part = appends.part is in (part.0, rest part.0 (λ told. part.1))
    by_tells false is = (0, rest 0 (λ told. cc))

-- One part after another.
pub extends_more : (old mid new : StoreView) (first second : List ℕ) → Extends old first mid
    → Extends mid second new
    → Extends old (first ++ second) new
extends_more old mid new first second a b = record {
  others = λ told other differs. b.others (still told) other (λ same. differs (same ∙ a.output told)) ∙ a.others told other differs;
  output = λ told. b.output (still told) ∙ a.output told;
  grown = λ told. joined (a.grown told) (rw (a.output told) at (b.grown (still told)));
  reading = b.reading ∙ a.reading;
  writing = b.writing;
  later = omega (arith, a.later, b.later);
  stays = record {
    tells = b.stays.tells ∙ a.stays.tells;
    steady = b.stays.steady ∙ a.stays.steady;
    held = b.stays.held ∙ a.stays.held;
  };
}
  where
    still : IsTrue old.tells → IsTrue mid.tells
    still told = a.stays.tells ∙ told

    joined : Grows (old.file old.output) first (mid.file old.output)
        → Grows (mid.file old.output) second (new.file old.output)
        → Grows (old.file old.output) (first ++ second) (new.file old.output)
    joined x y =
        let same : y.0 ≡ x.0 ++ first = cc (x.2, y.1) in
        (x.0, x.1, y.2 ∙ (rw (same, append_assoc) refl))

-- What holds while a file is fed to a checker piece by piece, and what is then known of the whole.
use Rattle.std.proofs.Common.{◌≡◌, ◌∙◌, ◌↔◌, arith, ℕ, ◌+◌, ◌≤◌, List, [], ◌++◌, length, take, Some, Result, Ok, Err, is_err, IsTrue, Bool, true, false, refl, length-append, length-take, append_assoc}
use Rattle.std.proofs.lemmas.List.{append-nil}
use Rattle.offer_io.specs.Stores.{StoreView, Passes, Opens}
use Rattle.assort_core.specs.Verdicts.{HasVerdict}

-- What was fed and what is left is the content, and what was waited for before is what was fed and what is waited for now.
pub record IsFeeding (Before : List ℕ → Type 0) (old : StoreView) (name : List ℕ) (most : ℕ) (After : List ℕ → Type 0) (taken : ℕ) (now : StoreView)
    : Type 0 where
  pub fed : List ℕ
  pub counted : length fed ≡ taken
  pub content : IsTrue old.tells → old.file name ≡ Some (fed ++ now.left)
  pub waits : (r : List ℕ) → After r ↔ Before (fed ++ r)
  pub fits : taken ≤ most
  pub reading : now.reading ≡ true
  pub passes : Passes old now

-- One call that only opens and reads after another.
passes_on : (old mid new : StoreView) → Passes old mid → Passes mid new → Passes old new
passes_on old mid new a b = record {
  files = λ told. let first = a.files told in let second = b.files (rw a.stays.tells told) in record {
    file = second.file ∙ first.file;
    output = second.output ∙ first.output;
  };
  writing = b.writing ∙ a.writing;
  later = omega (arith, a.later, b.later);
  stays = record {
    tells = b.stays.tells ∙ a.stays.tells;
    steady = b.stays.steady ∙ a.stays.steady;
    held = b.stays.held ∙ a.stays.held;
  };
}

-- Before the first piece nothing was fed.
pub feeding_begins : {T E : Type 0} (Before : List ℕ → Type 0) (old : StoreView) (name : List ℕ) (most : ℕ) (new : StoreView) (result : Result T E)
    → Opens old name result new → is_err result ≡ false → IsFeeding Before old name most Before 0 new
feeding_begins Before old name most new (Err e) opens ok = cc
feeding_begins Before old name most new (Ok t) opens ok = record {
  fed = [];
  counted = refl;
  content = opens.left;
  waits = λ r. (λ b. b, λ b. b);
  fits = omega arith;
  reading = opens.reading;
  passes = record { files = opens.files; writing = opens.writing; later = opens.cause.later; stays = opens.stays };
}

-- One equivalence after another.
pub both : {A B C : Type 0} → (A ↔ B) → (B ↔ C) → (A ↔ C)
both f g = (λ a. g.0 (f.0 a), λ c. f.1 (g.1 c))

-- After one more piece.
pub feeding_more : (Before : List ℕ → Type 0) (old : StoreView) (name : List ℕ) (most : ℕ) (After Later : List ℕ → Type 0) (taken taken' n : ℕ) (piece : List ℕ) (now new : StoreView)
    → IsFeeding Before old name most After taken now → n ≤ length piece → taken' ≡ taken + n → taken' ≤ most
    → (IsTrue now.tells → now.left ≡ take n piece ++ new.left) → ((r : List ℕ) → Later r ↔ After (take n piece ++ r))
    → new.reading ≡ true → Passes now new → IsFeeding Before old name most Later taken' new
feeding_more Before old name most After Later taken taken' n piece now new so count rise fits bytes feeds reading passes = record {
  fed = so.fed ++ take n piece;
  counted = omega (arith, so.counted, length-append so.fed (take n piece), length-take n piece);
  content = λ told. rw (append_assoc) (rw (bytes (rw so.passes.stays.tells told)) at (so.content told));
  waits = λ r. rw (append_assoc) (both (feeds r) (so.waits (take n piece ++ r)));
  fits = fits;
  reading = reading;
  passes = passes_on old now new so.passes passes;
}

-- At the end what was fed is the whole content.
pub feeding_end : (Before : List ℕ → Type 0) (old : StoreView) (name : List ℕ) (most : ℕ) (After : List ℕ → Type 0) (taken : ℕ) (now : StoreView) (accepted : Bool)
    → IsFeeding Before old name most After taken now → (IsTrue now.tells → now.left ≡ []) → (IsTrue accepted ↔ After [])
    → HasVerdict Before old name most accepted
feeding_end Before old name most After taken now accepted so end said = record {
  text = so.fed;
  content = λ told. rw (append-nil so.fed) at (rw (end (rw so.passes.stays.tells told)) at (so.content told));
  fits = omega (arith, so.counted, so.fits);
  verdict = rw (append-nil so.fed) at (both said (so.waits []));
}

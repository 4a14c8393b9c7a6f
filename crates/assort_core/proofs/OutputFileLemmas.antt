-- What stands in an output file, from what each call did to it, for texts of any kind.
use Rattle.std.proofs.Common.{◌≡◌, ◌∙◌, sym, ap, arith, ℕ, List, [], ◌++◌, length, take, Some, IsTrue, Result, Ok, Err, false, inr}
use Rattle.std.specs.Result.{is_err}
use Rattle.std.proofs.lemmas.List.{take_all}
use Rattle.offer_io.specs.Stores.{StoreView, Creates, Seals, Grows, Extends}
use Rattle.offer_io.specs.Stores as S
use Rattle.offer_io.proofs.CallerLemmas.{extends_whole, extends_part}
use Rattle.assort_core.specs.OutputFiles.{Appends, AppendsPart, HoldsPart}

-- A text that was appended.
pub appended : {T E : Type 0} (old : StoreView) (piece text : List ℕ) (r : Result T E) (t : T) (new : StoreView) → piece ≡ text → r ≡ Ok t
    → S.Appends old piece r new → Appends (λ written. written ≡ text) old new
appended old piece text r t new same is appends = (piece, same, extends_whole old piece t new (rw is at appends))

-- A part of one.
pub appended_part : {T E : Type 0} (old : StoreView) (piece text : List ℕ) (r : Result T E) (e : E) (new : StoreView) → piece ≡ text → r ≡ Err e
    → S.Appends old piece r new → AppendsPart (λ written. written ≡ text) old new
appended_part old piece text r e new same is appends = (piece, same, extends_part old piece e new (rw is at appends))

-- a file that was made empty has grown by these bytes
grown_from_none : (made wrote : StoreView) (name bytes : List ℕ) → made.file name ≡ Some [] → made.output ≡ name
    → Grows (made.file made.output) bytes (wrote.file made.output) → wrote.file name ≡ Some bytes
grown_from_none made wrote name bytes empty output grown =
    let first : made.file made.output ≡ Some [] = rw output empty in
    let none : [] ≡ grown.0 = cc (first, grown.1) in
    let now : wrote.file name ≡ Some (grown.0 ++ bytes) = rw output at grown.2 in
    rw (← none) at now

-- a file that was made
made_empty : {T E : Type 0} (old : StoreView) (name : List ℕ) (r : Result T E) (made : StoreView) → Creates old name r made → is_err r ≡ false
    → IsTrue old.tells → (made.file name ≡ Some []) × (made.output ≡ name)
made_empty old name (Ok t) made creates good = λ told. creates.made told
made_empty old name (Err e) made creates good = cc

pub part_in_file : {T E : Type 0} (IsText : List ℕ → Type 0) (name : List ℕ) (old made wrote : StoreView) (r : Result T E) → Creates old name r made
    → is_err r ≡ false → ((text : List ℕ) × IsText text × ((n : ℕ) × Extends made (take n text) wrote)) → HoldsPart IsText name old wrote
part_in_file IsText name old made wrote r creates good h = λ told.
    let told' : IsTrue made.tells = rw creates.stays.tells told in
    let e = made_empty old name r made creates good told in
    inr (inr (h.0, h.1, (h.2.0, grown_from_none made wrote name (take h.2.0 h.0) e.0 e.1 (h.2.1.grown told'))))

pub whole_in_file : {T E F G : Type 0} (IsText : List ℕ → Type 0) (name : List ℕ) (old made wrote sealed : StoreView) (r : Result T E) (s : Result F G)
    → Creates old name r made → is_err r ≡ false → ((text : List ℕ) × IsText text × Extends made text wrote) → Seals wrote s sealed → HoldsPart IsText name old sealed
whole_in_file IsText name old made wrote sealed r s creates good h seals = λ told.
    let told' : IsTrue made.tells = rw creates.stays.tells told in
    let told'' : IsTrue wrote.tells = rw h.2.stays.tells told' in
    let e = made_empty old name r made creates good told in
    let there : wrote.file name ≡ Some h.0 = grown_from_none made wrote name h.0 e.0 e.1 (h.2.grown told') in
    inr (inr (h.0, h.1, (length h.0, rw (seals.file told'') (there ∙ ap Some (sym (take_all (length h.0) h.0 (omega arith)))))))

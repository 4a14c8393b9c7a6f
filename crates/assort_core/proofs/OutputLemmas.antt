-- What a command's output is and leaves, for any command that has its report.
use Rattle.std.proofs.Common.{◌≡◌, ◌∙◌, sym, refl, subst, arith, None, ℕ, List, [], take, Some, IsTrue, inl, inr, ◌⊎◌}
use Rattle.offer_io.specs.Causes.{Rose}
use Rattle.offer_io.specs.Stores.{StoreView, OthersStay}
use Rattle.assort_core.specs.declared.stop.OutputName.{OutputName}
use Rattle.assort_core.specs.declared.stop.Stop.{Stop}
use Rattle.assort_core.specs.declared.stop.Stop.TheVariants.{Unwritten, NoMemory}
use Rattle.assort_words.specs.Asked.{RequestData}
use Rattle.assort_core.specs.Outcomes.{output_of}
use Rattle.assort_core.specs.OutputFiles.{HoldsText, HoldsPart}
use Rattle.assort_core.specs.Runs.{AsksFor, IsOutputPart, OthersStand, Endures}
use Rattle.assort_core.specs.Stages.{InputsData}
use Rattle.assort_core.specs.Judged.{Gives}
use Rattle.assort_core.specs.Stops.{WhyStopped, LeavesWhole, LeavesPart, MayWrite, status_of}

-- the name that is asked for is the output's
asked_name : (r : RequestData) (name other : List ℕ) → (output_of r).name ≡ Some name → AsksFor r other → other ≡ name
asked_name r name other is asks = let e : Some other ≡ Some name = sym asks ∙ is in cc

asks_none : (r : RequestData) (other : List ℕ) → (output_of r).name ≡ None → AsksFor r other → ⊥
asks_none r other none asks = let e : Some other ≡ None = sym asks ∙ none in cc

-- Where no output is asked for, nothing is written.
pub unasked_whole : (r : RequestData) (store : StoreView) → (output_of r).name ≡ None → LeavesWhole r store store
unasked_whole r store none = record {
  others = λ told other free. refl;
  proof = λ told other asks. absurd (asks_none r other none asks);
  sealed = λ other asks. absurd (asks_none r other none asks);
  endures = record { later = omega arith; stays = record { tells = refl; steady = refl; held = refl } };
}

-- no other name is asked for
others_stand : (r : RequestData) (old new : StoreView) (name : List ℕ) → (output_of r).name ≡ Some name → (IsTrue old.tells → OthersStay name old new)
    → OthersStand r old new
others_stand r old new name is others = λ told other free. others told other (λ e. free (rw e is))

-- The output was written.
pub output_whole : (r : RequestData) (old new : StoreView) (file : OutputName) (IsText : List ℕ → Type 0) (name : List ℕ) → (output_of r).name ≡ Some name
    → MayWrite r old file IsText → (IsTrue old.tells → OthersStay name old new) → HoldsText IsText name new → IsTrue new.sealed → Endures old new → LeavesWhole r old new
output_whole r old new file IsText name is may others holds sealed endures = record {
  others = others_stand r old new name is others;
  proof = λ told other asks.
      let there = holds (rw endures.stays.tells told) in
      let g = may.texts told in
      rw (asked_name r name other is asks) (g.0, g.1, (there.0, g.2 there.0 there.1, there.2));
  sealed = λ other asks. sealed;
  endures = endures;
}

never_three : (stop : Stop) (file : OutputName) → (stop ≡ Unwritten file) ⊎ (stop ≡ NoMemory) → status_of stop ≡ 3 → ⊥
never_three stop file (inl e) three = let n : status_of (Unwritten file) ≡ 3 = subst (λ (s : Stop). status_of s ≡ 3) e three in absurd (omega (arith, n))
never_three stop file (inr e) three = let n : status_of NoMemory ≡ 3 = subst (λ (s : Stop). status_of s ≡ 3) e three in absurd (omega (arith, n))

-- It was not.
pub output_part : (r : RequestData) (old new : StoreView) (file : OutputName) (IsText : List ℕ → Type 0) (name : List ℕ) (stop : Stop) → (output_of r).name ≡ Some name
    → MayWrite r old file IsText → (stop ≡ Unwritten file) ⊎ (stop ≡ NoMemory) → (IsTrue old.tells → OthersStay name old new)
    → HoldsPart IsText name old new → Endures old new → LeavesPart r old new stop
output_part r old new file IsText name stop is may stops others holds endures = record {
  others = others_stand r old new name is others;
  part = λ told other asks.
      let g = may.texts told in
      rw (asked_name r name other is asks) (by_case g.0 g.1 g.2 (holds told));
  kept = λ three. absurd (never_three stop file stops three);
  endures = endures;
}
  where
    by_case : (i : InputsData) → Gives r old i → ((text : List ℕ) → IsText text → (output_of r).IsText i text)
        → ((new.file name ≡ old.file name) ⊎ (new.file name ≡ Some []) ⊎ ((text : List ℕ) × IsText text × ((n : ℕ) × (new.file name ≡ Some (take n text)))))
        → (new.file name ≡ old.file name) ⊎ IsOutputPart r old (new.file name)
    by_case i t is (inl same) = inl same
    by_case i t is (inr (inl none)) = inr (i, t, inl none)
    by_case i t is (inr (inr part)) = inr (i, t, inr (part.0, is part.0 part.1, part.2))

-- Why it could not be written.
pub why_unwritten : (r : RequestData) (old new : StoreView) (file : OutputName) (IsText : List ℕ → Type 0) (name : List ℕ) (stop : Stop) → (output_of r).name ≡ Some name
    → MayWrite r old file IsText → (stop ≡ Unwritten file) ⊎ (stop ≡ NoMemory) → (stop ≡ Unwritten file → Rose old.faults new.faults)
    → (stop ≡ Unwritten file → IsTrue old.steady → ⊥) → WhyStopped r old new stop
why_unwritten r old new file IsText name stop is may (inl e) rose steady = rw e (
  record {
    asked = (name, is);
    cause = rose e;
    unsteady = λ calm. steady e calm;
    before = may.report;
  },
  may.line,
)
why_unwritten r old new file IsText name stop is may (inr e) rose steady = rw e tt

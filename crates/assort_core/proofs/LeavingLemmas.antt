-- What a command leaves of the files after other files were read.
use Rattle.std.proofs.Common.{◌≡◌, ◌∙◌, arith, refl, subst, ℕ, List, Some, Ok, IsTrue, inl, inr, ◌⊎◌}
use Rattle.offer_io.specs.Stores.{StoreView, Passes}
use Rattle.assort_core.specs.declared.stop.Stop.{Stop}
use Rattle.assort_words.specs.declared.usage.Command.TheVariants.{Check, Eval}
use Rattle.assort_words.specs.Asked.{RequestData}
use Rattle.assort_core.specs.Stages.{InputsData}
use Rattle.assort_core.specs.Judged.{Files, judged, Gives}
use Rattle.assort_core.specs.Runs.{IsOutputPart, Endures}
use Rattle.assort_core.specs.Stops.{LeavesWhole, LeavesPart}
use Rattle.assort_core.proofs.InputLemmas.{files_stand, same_files}
use Rattle.assort_core.proofs.CheckLemmas.{check_output, check_sealed}
use Rattle.assort_core.proofs.EvalLemmas.{eval_output, eval_sealed}

passes_endures : (old new : StoreView) → Passes old new → Endures old new
passes_endures old new passes = record { later = passes.later; stays = passes.stays }

-- Where files were only read, all are as they were.
pub passes_part : (r : RequestData) (old new : StoreView) (stop : Stop) → Passes old new → LeavesPart r old new stop
passes_part r old new stop passes = record {
  others = λ told other free. files_stand old new passes told other;
  part = λ told name asks. inl (files_stand old new passes told name);
  kept = λ three. files_stand old new passes;
  endures = passes_endures old new passes;
}

-- Where nothing was done, all are as they were.
pub untouched_part : (r : RequestData) (store : StoreView) (stop : Stop) → LeavesPart r store store stop
untouched_part r store stop = record {
  others = λ told other free. refl;
  part = λ told name asks. inl refl;
  kept = λ three told other. refl;
  endures = record { later = omega arith; stays = record { tells = refl; steady = refl; held = refl } };
}

-- `check` asks for no output.
pub check_whole : (r : RequestData) (old new : StoreView) → r.command ≡ Check → Passes old new → LeavesWhole r old new
check_whole r old new check passes = record {
  others = λ told other free. files_stand old new passes told other;
  proof = check_output r old new check;
  sealed = check_sealed r new check;
  endures = passes_endures old new passes;
}

-- Nor does `eval`.
pub eval_whole : (r : RequestData) (old new : StoreView) → r.command ≡ Eval → Passes old new → LeavesWhole r old new
eval_whole r old new eval passes = record {
  others = λ told other free. files_stand old new passes told other;
  proof = eval_output r old new eval;
  sealed = eval_sealed r new eval;
  endures = passes_endures old new passes;
}

gives_back : (r : RequestData) (old mid : StoreView) (i : InputsData) → Passes old mid → IsTrue old.tells → Gives r mid i → Gives r old i
gives_back r old mid i passes told g = subst (λ (file : Files). judged r file ≡ Some (Ok i)) (same_files old mid passes told) g

both_endure : (old mid new : StoreView) → Passes old mid → Endures mid new → Endures old new
both_endure old mid new passes h = record {
  later = let one = passes.later in let two = h.later in omega arith;
  stays = record { tells = h.stays.tells ∙ passes.stays.tells; steady = h.stays.steady ∙ passes.stays.steady; held = h.stays.held ∙ passes.stays.held };
}

-- What is left after files were read is what is left from the start.
pub later_whole : (r : RequestData) (old mid new : StoreView) → Passes old mid → LeavesWhole r mid new → LeavesWhole r old new
later_whole r old mid new passes h = record {
  others = λ told other free. h.others (rw passes.stays.tells told) other free ∙ files_stand old mid passes told other;
  proof = λ told name asks.
      let o = h.proof (rw passes.stays.tells told) name asks in
      (o.0, gives_back r old mid o.0 passes told o.1, o.2);
  sealed = h.sealed;
  endures = both_endure old mid new passes h.endures;
}

pub later_part : (r : RequestData) (old mid new : StoreView) (stop : Stop) → Passes old mid → LeavesPart r mid new stop → LeavesPart r old new stop
later_part r old mid new stop passes h = record {
  others = λ told other free. h.others (rw passes.stays.tells told) other free ∙ files_stand old mid passes told other;
  part = λ told name asks. by_case told name (h.part (rw passes.stays.tells told) name asks);
  kept = λ three told other. h.kept three (rw passes.stays.tells told) other ∙ files_stand old mid passes told other;
  endures = both_endure old mid new passes h.endures;
}
  where
    by_case : IsTrue old.tells → (name : List ℕ) → (new.file name ≡ mid.file name) ⊎ IsOutputPart r mid (new.file name)
        → (new.file name ≡ old.file name) ⊎ IsOutputPart r old (new.file name)
    by_case told name (inl e) = inl (e ∙ files_stand old mid passes told name)
    by_case told name (inr o) = inr (o.0, gives_back r old mid o.0 passes told o.1, o.2)

use Rattle.step_rows.proofs.steps.outcome_of.Given as goal

-- The ledger of each case's count is the blank that it is handed.
abbrev pub ghosts-best_by_kind : goal.ghosts-best_by_kind
ghosts-best_by_kind g a = record { name = a.blank.name; parts = a.blank.parts }

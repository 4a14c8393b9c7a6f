use Rattle.step_rows.proofs.step_counts.a_step_is_called_at_most_80_times_and_once_for_each_product.Given as goal

-- The ledger of each case's count is the blank that it is handed.
abbrev pub ghosts-calls_for_best : goal.ghosts-calls_for_best
ghosts-calls_for_best g a = record { name = a.blank.name; parts = a.blank.parts }

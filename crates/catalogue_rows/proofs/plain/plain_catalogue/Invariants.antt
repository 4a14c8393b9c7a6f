use Rattle.std.proofs.Common.{◌≡◌, map, get_or}
use Rattle.std.specs.List.{range_with_len}
use Rattle.catalogue_rows.specs.Plain.{plain_row}
use Rattle.catalogue_rows.proofs.plain.plain_catalogue.Given as goal

abbrev pub invariant-rows : goal.invariant-rows
invariant-rows l = l.rows.items ≡ map (λ k. plain_row k (get_or l.margins.items k 0)) (range_with_len 0 l.k)

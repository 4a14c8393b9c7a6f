use Rattle.std.proofs.Common.{◌≡◌, ◌∙◌, ◌==◌, not, length, map, Some, None, rules}
use Rattle.std.specs.List.{position}
use Rattle.csv.specs.Records.{fields_of}
use Rattle.table_reader.specs.Tables.{names_in, header_of, places_of}
use Rattle.table_reader.specs.TableFaults.{first_missing}
use Rattle.table_reader.proofs.PositionLemmas.{position_in_map}
use Rattle.table_reader.proofs.TableLemmas.{row_fault, no_fault}
use Rattle.table_reader.proofs.checks.checked_places.Goals as goal

pub returns-in-Some-other_length-clause-fault : goal.returns-in-Some-other_length-clause-fault
returns-in-Some-other_length-clause-fault g c =
    let records = map fields_of c.args.records.now in
    let width = length (header_of records) in
    let found : position (λ entry. not (length (fields_of entry) == width)) c.args.records.now ≡ Some c.in-Some-other_length.k = search rules in
    let columns : first_missing (places_of (names_in c.args.names.now) (header_of records)) c.args.needed.now ≡ None = search rules in
    row_fault (names_in c.args.names.now) c.args.needed.now records c.in_ok-places.ensures.sound columns c.in-Some-other_length.k
    (position_in_map fields_of (λ fields. not (length fields == width)) c.args.records.now ∙ found)

pub returns-clause-sound : goal.returns-clause-sound
returns-clause-sound g c =
    let records = map fields_of c.args.records.now in
    let width = length (header_of records) in
    let found : position (λ entry. not (length (fields_of entry) == width)) c.args.records.now ≡ None = search rules in
    let columns : first_missing (places_of (names_in c.args.names.now) (header_of records)) c.args.needed.now ≡ None = search rules in
    no_fault (names_in c.args.names.now) c.args.needed.now records c.in_ok-places.ensures.sound columns
    (position_in_map fields_of (λ fields. not (length fields == width)) c.args.records.now ∙ found)

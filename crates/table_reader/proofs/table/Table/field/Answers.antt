use Rattle.std.proofs.Common.{◌+◌, ◌<◌, length, map, drop, arith}
use Rattle.std.proofs.lemmas.List.{length-drop, length-map}
use Rattle.csv.specs.Records.{fields_of}
use Rattle.table_reader.specs.Tables.{TableData}
use Rattle.table_reader.proofs.TableLemmas.{row_fields, has_place, row_field, not_absent}
use Rattle.table_reader.proofs.table.Table.field.Goals as goal

pub field-requires : goal.field-requires
field-requires g c =
    let entries = c.self.inside.records.items in
    let inside : c.args.row < length (drop 1 (map fields_of entries)) = rw (← c.self.view_is) at c.requires.row in
    let within : c.args.row + 1 < length entries = omega (arith, inside, length-drop 1 (map fields_of entries), length-map entries fields_of) in
    rw (row_fields fields_of entries c.args.row c.index.result.now within c.index.ensures) at
    (has_place c.self.inside.columns (drop 1 (map fields_of entries)) c.args.row c.args.c c.in_ok-place.place c.self.invariant inside c.in_ok-place.ensures)

pub returns-clause-value : goal.returns-clause-value
returns-clause-value g c =
    let entries = c.self.inside.records.items in
    let inside : c.args.row < length (drop 1 (map fields_of entries)) = rw (← c.self.view_is) at c.requires.row in
    let within : c.args.row + 1 < length entries = omega (arith, inside, length-drop 1 (map fields_of entries), length-map entries fields_of) in
    let table : TableData = record { places = c.self.inside.columns; records = drop 1 (map fields_of entries) } in
    rw (← c.self.view_is)
    (row_field table c.args.row c.args.c c.in_ok-place.place (fields_of c.index.result.now) c.field.result.now c.in_ok-place.ensures
    (row_fields fields_of entries c.args.row c.index.result.now within c.index.ensures) c.field.ensures)

pub returns-clause-absent : goal.returns-clause-absent
returns-clause-absent g c =
    let table : TableData = record { places = c.self.inside.columns; records = drop 1 (map fields_of c.self.inside.records.items) } in
    (λ never. absurd (cc), λ absent. absurd (not_absent table c.args.c c.in_ok-place.place c.in_ok-place.ensures (rw (← c.self.view_is) at absent)))

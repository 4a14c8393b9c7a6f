use Rattle.std.proofs.Common.{◌≡◌, map, length, None, rules, arith, Bor, List, ℕ}
use Rattle.csv.specs.Records.{fields_of}
use Rattle.table_reader.specs.Tables.{names_in}
use Rattle.table_reader.specs.TableFaults.{first_fault}
use Rattle.std.proofs.lemmas.List.{length-map}
use Rattle.table_reader.proofs.TableLemmas.{fits_columns, needed_there, same_lengths}
use Rattle.table_reader.proofs.table.read_table.Goals as goal

pub invariant_of-result : goal.invariant_of-result
invariant_of-result g c =
    let records = map fields_of c.in_ok-records.records.items in
    let sound : first_fault (names_in c.args.names.now) c.args.needed.now records ≡ None = search rules in
    rw (c.new.ensures, c.in_ok-places.ensures.places, c.deref.ensures.value)
    (fits_columns (names_in c.args.names.now) records (same_lengths (names_in c.args.names.now) c.args.needed.now records sound))

pub returns-clause-needed : goal.returns-clause-needed
returns-clause-needed g c =
    let records = map fields_of c.in_ok-records.records.items in
    let sound : first_fault (names_in c.args.names.now) c.args.needed.now records ≡ None = search rules in
    let size : length (names_in c.args.names.now) ≡ length c.args.needed.now
    = omega (arith, length-map c.args.names.now (λ (name : Bor (List ℕ)). name.now)) in
    rw (c.new.ensures, c.in_ok-places.ensures.places, c.deref.ensures.value) (needed_there (names_in c.args.names.now) c.args.needed.now records size sound)

use Rattle.std.proofs.Common.{◌∙◌, sym, ap, refl, ◌<◌, length, Some, set, arith, Bor, List, ℕ}
use Rattle.csv.specs.Records.{fields_of}
use Rattle.table_reader.specs.Tables.{names_in}
use Rattle.std.specs.Str.{bytes_eq}
use Rattle.std.proofs.lemmas.List.{length-map}
use Rattle.table_reader.proofs.PositionLemmas.{position_in_map}
use Rattle.table_reader.proofs.HeaderLemmas.{no_places, unknown_at, repeated_at, passed_at, placed_at}
use Rattle.table_reader.proofs.header.header_places.Goals as goal

pub fields-init : goal.fields-init
fields-init g c = record { places = no_places g.row.N (names_in c.args.names.now) (length-map c.args.names.now (λ (name : Bor (List ℕ)). name.now) ∙ c.requires.count); fault = refl }

pub returns-in_default-clause-fault : goal.returns-in_default-clause-fault
returns-in_default-clause-fault g c =
    let inside : c.fields.place < length (fields_of c.args.header.now) = omega arith in
    c.fields.invariant.fault
    ∙ unknown_at (names_in c.args.names.now) (fields_of c.args.header.now) c.fields.place c.field.result.now inside c.field.ensures (position_in_map (λ (name : Bor (List ℕ)). name.now) (bytes_eq c.field.result.now) c.args.names.now ∙ sym c.column_of.ensures ∙ c.in_default.is)

pub returns-then-is_some-clause-fault : goal.returns-then-is_some-clause-fault
returns-then-is_some-clause-fault g c =
    let inside : c.fields.place < length (fields_of c.args.header.now) = omega arith in
    c.fields.invariant.fault
    ∙ repeated_at (names_in c.args.names.now) (fields_of c.args.header.now) c.fields.place c.field.result.now inside c.field.ensures c.in-Some.c
    (position_in_map (λ (name : Bor (List ℕ)). name.now) (bytes_eq c.field.result.now) c.args.names.now ∙ sym c.column_of.ensures ∙ c.in-Some.is)
    (rw c.fields.invariant.places at (sym c.is_some.ensures ∙ c.if-is_some.true))

pub fields-preserved : goal.fields-preserved
fields-preserved g c =
    let inside : c.fields.place < length (fields_of c.args.header.now) = omega arith in
    let column = position_in_map (λ (name : Bor (List ℕ)). name.now) (bytes_eq c.field.result.now) c.args.names.now ∙ sym c.column_of.ensures ∙ c.in-Some.is in
    let fresh = rw c.fields.invariant.places at (sym c.is_some.ensures ∙ c.if-is_some.false) in
    record {
      places = ap (λ places. set places c.in-Some.c (Some c.fields.place)) c.fields.invariant.places
          ∙ placed_at (names_in c.args.names.now) (fields_of c.args.header.now) c.fields.place c.field.result.now inside c.field.ensures c.in-Some.c column c.requires.distinct fresh;
      fault = c.fields.invariant.fault
          ∙ passed_at (names_in c.args.names.now) (fields_of c.args.header.now) c.fields.place c.field.result.now inside c.field.ensures c.in-Some.c column fresh;
    }

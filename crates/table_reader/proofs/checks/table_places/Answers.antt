use Rattle.std.proofs.Common.{◌∙◌, sym, Bor, List, ℕ}
use Rattle.csv.specs.Records.{fields_of}
use Rattle.table_reader.specs.Tables.{names_in}
use Rattle.std.proofs.lemmas.List.{length-map}
use Rattle.table_reader.proofs.HeaderLemmas.{no_header, no_places}
use Rattle.table_reader.proofs.checks.table_places.Goals as goal

pub returns-in_default-clause-places : goal.returns-in_default-clause-places
returns-in_default-clause-places g c =
    rw (no_header fields_of c.args.records.now (sym (rw c.in_default.is at c.first.ensures.value)))
    (no_places g.row.N (names_in c.args.names.now) (length-map c.args.names.now (λ (name : Bor (List ℕ)). name.now) ∙ c.requires.count))

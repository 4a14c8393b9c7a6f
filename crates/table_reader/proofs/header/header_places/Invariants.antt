use Rattle.std.proofs.Common.{◌≡◌, take, drop}
use Rattle.csv.specs.Records.{fields_of}
use Rattle.table_reader.specs.Tables.{names_in, places_of}
use Rattle.table_reader.specs.TableFaults.{header_fault, header_fault_after}
use Rattle.table_reader.proofs.header.header_places.Given as goal

-- the columns of the fields so far have their places, and a fault is still to come if there is one
abbrev pub invariant-fields : goal.invariant-fields
invariant-fields g l = record {
  places : l.places ≡ places_of (names_in l.names) (take l.place (fields_of l.header));
  fault : header_fault (names_in l.names) (fields_of l.header)
      ≡ header_fault_after (names_in l.names) (take l.place (fields_of l.header)) (drop l.place (fields_of l.header));
}

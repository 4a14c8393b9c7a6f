use Rattle.std.proofs.Common.{◌≡◌, ◌<◌, ℕ, List, Some, map}
use Rattle.csv.specs.Reading.{Reached, Ready, default_config, source_of, strip_bom}
use Rattle.csv.specs.Records.{fields_of}
use Rattle.csv.specs.declared.parser.State.TheVariants as st
use Rattle.csv.specs.declared.reader.Trim.TheVariants as trim
use Rattle.table_reader.proofs.records.all_records.Given as goal

-- the records so far take the reader from the start of the bytes to where it stands
abbrev pub invariant-records : goal.invariant-records
invariant-records l = record {
  trim : l.record-iterator.rdr.trim ≡ trim.None;
  ready : Ready l.record-iterator.rdr;
  turns : 0 < l.record-iterator.left;
  config : l.record-iterator.rdr.config ≡ default_config;
  rest : List ℕ;
  source : source_of (λ s. Some s.now) l.record-iterator.rdr ≡ Some rest;
  reached : Reached default_config st.StartRecord (strip_bom l.fn.bytes) (map fields_of l.records.items) l.record-iterator.rdr.state rest;
}

use Rattle.std.proofs.Common.{Bor, List, ℕ, ◌≡◌, ◌∙◌, sym, refl, rules, inl, inr, true, map, Some, ◌∷◌, [], arith}
use Rattle.std.specs.Result.{is_ok}
use Rattle.std.proofs.lemmas.List.{map-append}
use Rattle.csv.specs.Reading.{Reached, default_config, strip_bom}
use Rattle.csv.specs.Records.{fields_of}
use Rattle.csv.specs.declared.parser.State.TheVariants as st
use Rattle.csv.proofs.ReadFacts.{rows-end, rows-more}
use Rattle.table_reader.proofs.RecordCountLemmas.{reached_all}
use Rattle.table_reader.proofs.records.all_records.Goals as goal

pub records-init : goal.records-init
unfolding Reached
records-init c =
    let made = c.from_reader-reader.ensures in
    let flexible = c.flexible.ensures in
    let headers = c.has_headers.ensures in
    let start = c.into_iter-record-iterator.ensures.into_iter_gives ∙ refl in
    let rows = c.into_byte_records-record-items.ensures in
    rw (start, rows.rdr, c.new-records.ensures.items) (record {
      trim = rw (flexible, headers) at made.trim ∙ c.new.ensures.trim;
      ready = inr (inr (rw (flexible, headers) at made.has_headers, made.headers));
      turns = rows.left;
      config = rw (flexible, headers) at made.config ∙ c.new.ensures.config;
      rest = strip_bom c.args.bytes.now;
      source = made.source;
      reached = (sym made.state, refl);
    })

pub records-preserved : goal.records-preserved
records-preserved c =
    let inv = c.records.invariant in
    let reader = c.records.record-iterator.rdr in
    let step = rw (c.in-Some.is, c.in-Ok.is) at ((c.next.ensures.steps inv.turns inv.trim).0 inv.ready) in
    let good : is_ok c.push.result ≡ true = search rules in
    let items = rw good at c.push.ensures.items in
    let more = rows-more (λ (s : Bor (List ℕ)). Some s.now) reader c.next.new.self.rdr (fields_of c.in-Ok.record) default_config st.StartRecord
    (strip_bom c.args.bytes.now) inv.rest (map fields_of c.records.records.items) inv.config inv.source inv.reached step.0 in
    record {
      trim = step.0.3 ∙ inv.trim;
      ready = inl step.1;
      turns = step.2;
      config = step.0.2 ∙ inv.config;
      rest = more.0;
      source = more.1;
      reached = rw (items, map-append fields_of c.records.records.items (c.in-Ok.record ∷ [])) more.2;
    }

pub returns : goal.returns
returns c =
    let inv = c.records.invariant in
    let reader = c.records.record-iterator.rdr in
    let step = rw c.in-None.is at ((c.next.ensures.steps inv.turns inv.trim).0 inv.ready) in
    let ended = rows-end (λ (s : Bor (List ℕ)). Some s.now) reader c.next.new.self.rdr [] default_config inv.rest inv.config inv.source step in
    reached_all default_config _ st.StartRecord (strip_bom c.args.bytes.now) (map fields_of c.records.records.items) _ inv.rest
    inv.reached ended (omega arith)

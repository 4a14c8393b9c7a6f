-- What holds of the rows of an arcs file without a fault.
use Rattle.std.proofs.Common.{◌≡◌, ◌∙◌, sym, ap, refl, arith, ℕ, ◌+◌, ◌*◌, ◌<◌, ◌≤◌, ◌==◌, ◌&&◌, List, [], ◌∷◌, length, map, cond, true, false, nat_lt, Option, Some, None, unwrap_or, slice_index, slice_index_or}
use Rattle.std.specs.List.{list_any}
use Rattle.std.specs.Str.{bytes_eq}
use Rattle.std.proofs.lemmas.Bool.Decides.{nat_tests}
use Rattle.std.proofs.lemmas.List.{length-map}
use Rattle.std.proofs.lemmas.List.FromFn.{sum_by-map-range_with_len_more}
use Rattle.std.proofs.lemmas.List.Quantifiers.{position-Some}
use Rattle.offer_model.specs.declared.arc.Arc.{Arc}
use Rattle.offer_model.specs.declared.ranges.TheConstants.{MOST_ARCS}
use Rattle.table_reader.specs.Tables.{TableData}
use Rattle.catalogue_rows.specs.Cells.{text_of, number_fault, written_number}
use Rattle.catalogue_rows.specs.declared.faults.Code.TheVariants.{NoLeaving}
use Rattle.catalogue_rows.specs.Faults.{first_of}
use Rattle.catalogue_rows.specs.Places.{product_named}
use Rattle.catalogue_rows.specs.Rows.{RowData}
use Rattle.catalogue_rows.proofs.FaultLemmas.{all_none, no_fault_if, no_fault_else}
use Rattle.catalogue.specs.LimitTables.{named_fault}
use Rattle.catalogue.proofs.SegmentStepLemmas.{or_none}
use Rattle.arc_tables.specs.ArcTables.{parts_column, from_column, to_column, from_named, to_named, stated_arc, arcs_before, same_ends, parts_from, arc_line_fault, repeated_arc, leaving_fault, arc_fault}
use Rattle.arc_tables.specs.SeenArcs.{SeenData, arc_between, HasSeenArcs}

-- A row without a fault has none in any of its parts.
record CleanArc (rows : List RowData) (scale : ℕ) (table : TableData) (k : ℕ) : Type 0 where
  pub line : arc_line_fault k ≡ None
  pub from : named_fault (from_named rows table k) ≡ None
  pub to : named_fault (to_named rows table k) ≡ None
  pub parts : number_fault 0 scale (text_of table k parts_column) ≡ None
  pub once : repeated_arc rows table k ≡ None
  pub leaving : leaving_fault rows scale table k ≡ None

-- What is named is there.
named_below : (rows : List RowData) (text : List ℕ) (o : Option ℕ) → product_named rows text ≡ o → named_fault o ≡ None → unwrap_or o 0 < length rows
named_below rows text None is none = cc
named_below rows text (Some n) is none =
    let found = position-Some (bytes_eq text) (map (λ (row : RowData). row.name) rows) n [] is in
    omega (arith, found.0, length-map rows (λ (row : RowData). row.name))

same_number : (n : ℕ) → (n == n) ≡ true
same_number n = grind (arith, nat_tests)

module _ (rows : List RowData) (table : TableData) (k : ℕ) where
  -- One more row adds its parts to those from its product.
  pub parts_more : (i : ℕ)
      → parts_from (arcs_before rows table (k + 1)) i
      ≡ parts_from (arcs_before rows table k) i + cond ((stated_arc rows table k).from == i) (stated_arc rows table k).parts 0
  parts_more i = sum_by-map-range_with_len_more (λ (arc : Arc). cond (arc.from == i) arc.parts 0) (stated_arc rows table) 0 k k (omega arith)

  parts_of_own : parts_from (arcs_before rows table (k + 1)) (stated_arc rows table k).from
      ≡ parts_from (arcs_before rows table k) (stated_arc rows table k).from + (stated_arc rows table k).parts
  parts_of_own =
      parts_more (stated_arc rows table k).from
      ∙ ap (λ b. parts_from (arcs_before rows table k) (stated_arc rows table k).from + cond b (stated_arc rows table k).parts 0)
      (same_number (stated_arc rows table k).from)

module _ (rows : List RowData) (scale : ℕ) (table : TableData) (k : ℕ) (clean : arc_fault rows scale table k ≡ None) where
  -- So says the first fault of a row.
  clean_arc : CleanArc rows scale table k
  clean_arc =
      let each = all_none (arc_line_fault k ∷ named_fault (from_named rows table k) ∷ named_fault (to_named rows table k)
      ∷ number_fault 0 scale (text_of table k parts_column) ∷ repeated_arc rows table k ∷ leaving_fault rows scale table k ∷ []) clean in
      record {
        line = each.0;
        from = each.1.0;
        to = each.1.1.0;
        parts = each.1.1.1.0;
        once = each.1.1.1.1.0;
        leaving = each.1.1.1.1.1.0;
      }

  -- There is a place for it.
  pub below_most_arcs : k < MOST_ARCS
  below_most_arcs =
      let below : nat_lt k MOST_ARCS ≡ true = no_fault_else (nat_lt k MOST_ARCS) _ clean_arc.line in
      grind (arith, nat_tests)

  -- Its arc leads between products.
  pub from_below : (stated_arc rows table k).from < length rows
  from_below = named_below rows (text_of table k from_column) (from_named rows table k) refl clean_arc.from

  pub to_below : (stated_arc rows table k).to < length rows
  to_below = named_below rows (text_of table k to_column) (to_named rows table k) refl clean_arc.to

  -- No earlier row has its ends.
  pub is_new_pair : list_any (same_ends (stated_arc rows table k)) (arcs_before rows table k) ≡ false
  is_new_pair = no_fault_if _ _ clean_arc.once

  -- Some customers still leave at its product.
  pub some_still_leave : parts_from (arcs_before rows table k) (stated_arc rows table k).from + (stated_arc rows table k).parts < scale
  some_still_leave =
      let below : nat_lt (parts_from (arcs_before rows table (k + 1)) (stated_arc rows table k).from) scale ≡ true = no_fault_else _ _ clean_arc.leaving in
      let less : parts_from (arcs_before rows table (k + 1)) (stated_arc rows table k).from < scale = grind (arith, nat_tests) in
      omega (arith, less, parts_of_own rows table k)

-- What is last of six is first where the others aren't there.
last_of_six : {A : Type 0} (a b c d e f : Option A) → a ≡ None → b ≡ None → c ≡ None → d ≡ None → e ≡ None → first_of (a ∷ b ∷ c ∷ d ∷ e ∷ f ∷ []) ≡ f
last_of_six a b c d e f no_a no_b no_c no_d no_e = rw (no_a, no_b, no_c, no_d, no_e) (or_none f)

-- What is wrong with a row whose other parts have no fault, by what was seen before it.
module _ (rows : List RowData) (scale : ℕ) (table : TableData) (k : ℕ) (s : SeenData) (seen : HasSeenArcs rows scale table k s) (from to parts : ℕ)
    (few : k < MOST_ARCS) (from_is : from_named rows table k ≡ Some from) (to_is : to_named rows table k ≡ Some to)
    (number : number_fault 0 scale (text_of table k parts_column) ≡ None) (parts_are : parts ≡ written_number (text_of table k parts_column))
    (fresh : slice_index_or s.pairs (from * s.count + to) false ≡ false) where
  from_there : from < length rows
  from_there = named_below rows (text_of table k from_column) (Some from) from_is refl

  to_there : to < length rows
  to_there = named_below rows (text_of table k to_column) (Some to) to_is refl

  stated_from : (stated_arc rows table k).from ≡ from
  stated_from = ap (λ o. unwrap_or o 0) from_is

  stated_to : (stated_arc rows table k).to ≡ to
  stated_to = ap (λ o. unwrap_or o 0) to_is

  line_is_free : arc_line_fault k ≡ None
  line_is_free = let below : nat_lt k MOST_ARCS ≡ true = grind (arith, nat_tests) in rw below refl

  no_pair : list_any (same_ends (stated_arc rows table k)) (arcs_before rows table k) ≡ false
  no_pair =
      (λ i. list_any (λ (b : Arc). (stated_from i == b.from) && (stated_to i == b.to)) (arcs_before rows table k))
      ∙ ap (list_any (same_ends (arc_between from to))) (sym seen.arcs)
      ∙ sym (seen.pairs from to from_there to_there)
      ∙ ap (λ n. slice_index_or s.pairs (from * n + to) false) (sym seen.count)
      ∙ fresh

  not_repeated : repeated_arc rows table k ≡ None
  not_repeated = rw no_pair refl

  judged_by_leaving : arc_fault rows scale table k ≡ leaving_fault rows scale table k
  judged_by_leaving =
      last_of_six (arc_line_fault k) (named_fault (from_named rows table k)) (named_fault (to_named rows table k))
      (number_fault 0 scale (text_of table k parts_column)) (repeated_arc rows table k) (leaving_fault rows scale table k)
      line_is_free (ap named_fault from_is) (ap named_fault to_is) number not_repeated

  parts_seen : parts_from (arcs_before rows table (k + 1)) (stated_arc rows table k).from ≡ slice_index s.parts from + parts
  parts_seen =
      parts_of_own rows table k
      ∙ (λ i. parts_from (sym seen.arcs i) (stated_from i) + sym parts_are i)
      ∙ ap (λ n. n + parts) (sym (seen.parts from from_there))

  -- All customers of its product move on.
  pub judged_full : scale ≤ slice_index s.parts from + parts → arc_fault rows scale table k ≡ Some NoLeaving
  judged_full full =
      let above : nat_lt (parts_from (arcs_before rows table (k + 1)) (stated_arc rows table k).from) scale ≡ false
      = rw parts_seen (grind (arith, nat_tests)) in
      judged_by_leaving ∙ rw above refl

  -- Some leave.
  pub judged_clean : slice_index s.parts from + parts < scale → arc_fault rows scale table k ≡ None
  judged_clean less =
      let below : nat_lt (parts_from (arcs_before rows table (k + 1)) (stated_arc rows table k).from) scale ≡ true
      = rw parts_seen (grind (arith, nat_tests)) in
      judged_by_leaving ∙ rw below refl

-- One more row of an arcs file is seen.
use Rattle.std.proofs.Common.{◌≡◌, ◌≢◌, ◌∙◌, sym, ap, refl, arith, ℕ, suc, ◌+◌, ◌*◌, ◌<◌, ◌≤◌, ◌==◌, ◌&&◌, ◌||◌, ◌⊎◌, inl, inr, ◌++◌, List, [], ◌∷◌, length, cond, Bool, true, false, None, slice_index, slice_index_or, slice_set}
use Rattle.std.specs.List.{list_any}
use Rattle.std.proofs.Math.Nat.{mul-le-mul_right, suc-mul}
use Rattle.std.proofs.lemmas.Bool.{cases_eq, cases_order}
use Rattle.std.proofs.lemmas.Bool.Decides.{nat_tests}
use Rattle.std.proofs.lemmas.List.{length-set, get_or-set_same, get_or-set_other}
use Rattle.std.proofs.lemmas.List.Folds.{list_any-append}
use Rattle.std.proofs.lemmas.List.FromFn.{map-range_with_len_more}
use Rattle.std.proofs.lemmas.List.Sums.{sum_by_push}
use Rattle.offer_model.specs.declared.arc.Arc.{Arc}
use Rattle.table_reader.specs.Tables.{TableData}
use Rattle.catalogue_rows.specs.Rows.{RowData}
use Rattle.arc_tables.specs.ArcTables.{stated_arc, arcs_before, same_ends, parts_from, arc_fault}
use Rattle.arc_tables.specs.SeenArcs.{SeenData, arc_between, HasSeenArcs}
use Rattle.arc_tables.proofs.ArcLemmas.{from_below, to_below, some_still_leave}

-- The pairs of an earlier row stand before those of a later one.
earlier_row : (n a b f t : ℕ) → b < n → a < f → a * n + b < f * n + t
earlier_row n a b f t inside before =
    let rows : suc a * n ≤ f * n = mul-le-mul_right n before in
    let row : suc a * n ≡ a * n + n = suc-mul a n in
    omega (arith, rows, row, inside)

-- A pair has a place of its own among the pairs.
pair_place : (n a b f t : ℕ) → b < n → t < n → a * n + b ≡ f * n + t → (a ≡ f) × (b ≡ t)
pair_place n a b f t b_in t_in same = elim (cases_order a f) [
  | inl e ↦ (let row : a * n ≡ f * n = ap (λ x. x * n) e in (e, omega (arith, row, same)))
  | inr (inl before) ↦ (let apart = earlier_row n a b f t b_in before in absurd (omega (arith, apart, same)))
  | inr (inr after) ↦ (let apart = earlier_row n f t a b t_in after in absurd (omega (arith, apart, same)))
]

-- It is among them.
pair_inside : (n a b : ℕ) → a < n → b < n → a * n + b < n * n
pair_inside n a b a_in b_in =
    let apart = earlier_row n a b n 0 b_in a_in in
    omega (arith, apart)

other_ends : (a b f t : ℕ) → ((a ≡ f) × (b ≡ t) → ⊥) → ((a == f) && (b == t)) ≡ false
other_ends a b f t other = elim (cases_eq a f) [
  | inl e ↦ (let apart : b ≢ t = λ h. other (e, h) in grind (arith, nat_tests))
  | inr apart ↦ grind (arith, nat_tests)
]

same_ends_are : (a b f t : ℕ) → a ≡ f → b ≡ t → ((a == f) && (b == t)) ≡ true
same_ends_are a b f t e h = grind (arith, nat_tests)

or_true : (b : Bool) → (b || (true || false)) ≡ true
or_true true = refl
or_true false = refl

or_false : (b : Bool) → (b || (false || false)) ≡ b
or_false true = refl
or_false false = refl

-- One more arc, by its ends.
any_pushed : (a b : ℕ) (arcs : List Arc) (arc : Arc)
    → list_any (same_ends (arc_between a b)) (arcs ++ arc ∷ [])
    ≡ (list_any (same_ends (arc_between a b)) arcs || (((a == arc.from) && (b == arc.to)) || false))
any_pushed a b arcs arc = list_any-append (same_ends (arc_between a b)) arcs (arc ∷ [])

-- The pairs that have an arc, after one more.
pairs_pushed : (n : ℕ) (pairs : List Bool) (arcs : List Arc) (arc : Arc) → length pairs ≡ n * n → arc.from < n → arc.to < n
    → ((a b : ℕ) → a < n → b < n → slice_index_or pairs (a * n + b) false ≡ list_any (same_ends (arc_between a b)) arcs)
    → (a b : ℕ) → a < n → b < n
    → slice_index_or (slice_set pairs (arc.from * n + arc.to) true) (a * n + b) false ≡ list_any (same_ends (arc_between a b)) (arcs ++ arc ∷ [])
pairs_pushed n pairs arcs arc each from_in to_in was a b a_in b_in = by_place (cases_eq (a * n + b) (arc.from * n + arc.to))
  where
    by_place : (a * n + b ≡ arc.from * n + arc.to) ⊎ (a * n + b ≡ arc.from * n + arc.to → ⊥)
        → slice_index_or (slice_set pairs (arc.from * n + arc.to) true) (a * n + b) false ≡ list_any (same_ends (arc_between a b)) (arcs ++ arc ∷ [])
    by_place (inl same) =
        let ends = pair_place n a b arc.from arc.to b_in to_in same in
        let yes : ((a == arc.from) && (b == arc.to)) ≡ true = same_ends_are a b arc.from arc.to ends.0 ends.1 in
        let inside : arc.from * n + arc.to < length pairs = omega (arith, pair_inside n arc.from arc.to from_in to_in, each) in
        ap (λ i. slice_index_or (slice_set pairs (arc.from * n + arc.to) true) i false) same
        ∙ get_or-set_same pairs (arc.from * n + arc.to) true false inside
        ∙ sym (any_pushed a b arcs arc ∙ ap (λ x. list_any (same_ends (arc_between a b)) arcs || (x || false)) yes
        ∙ or_true (list_any (same_ends (arc_between a b)) arcs))
    by_place (inr other) =
        let no : ((a == arc.from) && (b == arc.to)) ≡ false
        = other_ends a b arc.from arc.to (λ ends. other (λ i. ends.0 i * n + ends.1 i)) in
        get_or-set_other pairs (arc.from * n + arc.to) (a * n + b) true false other
        ∙ was a b a_in b_in
        ∙ sym (any_pushed a b arcs arc ∙ ap (λ x. list_any (same_ends (arc_between a b)) arcs || (x || false)) no
        ∙ or_false (list_any (same_ends (arc_between a b)) arcs))

-- The parts from each product, after one more arc.
parts_pushed : (n : ℕ) (parts : List ℕ) (arcs : List Arc) (arc : Arc) → length parts ≡ n → arc.from < n
    → ((i : ℕ) → i < n → slice_index parts i ≡ parts_from arcs i) → (i : ℕ) → i < n
    → slice_index (slice_set parts arc.from (slice_index parts arc.from + arc.parts)) i ≡ parts_from (arcs ++ arc ∷ []) i
parts_pushed n parts arcs arc each from_in was i inside = by_product (cases_eq i arc.from) ∙ sym pushed
  where
    pushed : parts_from (arcs ++ arc ∷ []) i ≡ parts_from arcs i + cond (arc.from == i) arc.parts 0
    pushed = sum_by_push (λ (x : Arc). cond (x.from == i) x.parts 0) arcs arc

    by_product : (i ≡ arc.from) ⊎ (i ≡ arc.from → ⊥)
        → slice_index (slice_set parts arc.from (slice_index parts arc.from + arc.parts)) i ≡ parts_from arcs i + cond (arc.from == i) arc.parts 0
    by_product (inl same) =
        let yes : (arc.from == i) ≡ true = grind (arith, nat_tests) in
        let there : arc.from < length parts = omega arith in
        let read : slice_index (slice_set parts arc.from (slice_index parts arc.from + arc.parts)) i ≡ slice_index parts arc.from + arc.parts
        = ap (slice_index (slice_set parts arc.from (slice_index parts arc.from + arc.parts))) same
        ∙ get_or-set_same parts arc.from (slice_index parts arc.from + arc.parts) 0 there in
        let before : slice_index parts arc.from ≡ parts_from arcs i = was arc.from from_in ∙ ap (parts_from arcs) (sym same) in
        rw (read, before, yes) refl
    by_product (inr other) =
        let no : (arc.from == i) ≡ false = grind (arith, nat_tests) in
        let read : slice_index (slice_set parts arc.from (slice_index parts arc.from + arc.parts)) i ≡ slice_index parts i
        = get_or-set_other parts arc.from i (slice_index parts arc.from + arc.parts) 0 other in
        rw (read, was i inside, no) (omega arith)

-- What is seen after one more row without a fault.
module _ (rows : List RowData) (scale : ℕ) (table : TableData) (k : ℕ) (s : SeenData) (seen : HasSeenArcs rows scale table k s)
    (clean : arc_fault rows scale table k ≡ None) (arc : Arc) (stated : arc ≡ stated_arc rows table k) where
  -- The arc leads between products.
  pub from_in : arc.from < length rows
  from_in = rw stated (from_below rows scale table k clean)

  pub to_in : arc.to < length rows
  to_in = rw stated (to_below rows scale table k clean)

  -- The sum from its product stays below the scale.
  pub sum_below_scale : slice_index s.parts arc.from + arc.parts < scale
  sum_below_scale =
      let sum : slice_index s.parts arc.from ≡ parts_from (arcs_before rows table k) (stated_arc rows table k).from
      = seen.parts arc.from from_in ∙ (λ i. parts_from (seen.arcs i) (stated i).from) in
      let parts : arc.parts ≡ (stated_arc rows table k).parts = ap (λ (x : Arc). x.parts) stated in
      omega (arith, sum, parts, some_still_leave rows scale table k clean)

  module _ (next : SeenData) (count : next.count ≡ s.count) (arcs : next.arcs ≡ s.arcs ++ arc ∷ []) (pairs : next.pairs ≡ slice_set s.pairs (arc.from * s.count + arc.to) true)
      (parts : next.parts ≡ slice_set s.parts arc.from (slice_index s.parts arc.from + arc.parts)) where
    small_still : (i : ℕ) → i < length rows → slice_index (slice_set s.parts arc.from (slice_index s.parts arc.from + arc.parts)) i < scale
    small_still i inside = by_product (cases_eq i arc.from)
      where
        by_product : (i ≡ arc.from) ⊎ (i ≡ arc.from → ⊥) → slice_index (slice_set s.parts arc.from (slice_index s.parts arc.from + arc.parts)) i < scale
        by_product (inl same) =
            let there : arc.from < length s.parts = omega (arith, seen.parts_each, from_in) in
            let read : slice_index (slice_set s.parts arc.from (slice_index s.parts arc.from + arc.parts)) i ≡ slice_index s.parts arc.from + arc.parts
            = ap (slice_index (slice_set s.parts arc.from (slice_index s.parts arc.from + arc.parts))) same
            ∙ get_or-set_same s.parts arc.from (slice_index s.parts arc.from + arc.parts) 0 there in
            omega (arith, read, sum_below_scale)
        by_product (inr other) =
            let read : slice_index (slice_set s.parts arc.from (slice_index s.parts arc.from + arc.parts)) i ≡ slice_index s.parts i
            = get_or-set_other s.parts arc.from i (slice_index s.parts arc.from + arc.parts) 0 other in
            omega (arith, read, seen.small i inside)

    pairs_are : next.pairs ≡ slice_set s.pairs (arc.from * length rows + arc.to) true
    pairs_are = pairs ∙ ap (λ n. slice_set s.pairs (arc.from * n + arc.to) true) seen.count

    pub seen_more : HasSeenArcs rows scale table (k + 1) next
    seen_more = record {
      count = count ∙ seen.count;
      arcs = arcs ∙ (λ i. seen.arcs i ++ stated i ∷ []) ∙ sym (map-range_with_len_more (stated_arc rows table) 0 k k (omega arith));
      pairs_each = ap length pairs_are ∙ length-set s.pairs (arc.from * length rows + arc.to) true ∙ seen.pairs_each;
      pairs = λ a b a_in b_in.
          ap (λ xs. slice_index_or xs (a * length rows + b) false) pairs_are
          ∙ pairs_pushed (length rows) s.pairs s.arcs arc seen.pairs_each from_in to_in seen.pairs a b a_in b_in
          ∙ ap (list_any (same_ends (arc_between a b))) (sym arcs);
      parts_each = ap length parts ∙ length-set s.parts arc.from (slice_index s.parts arc.from + arc.parts) ∙ seen.parts_each;
      parts = λ i inside.
          ap (λ xs. slice_index xs i) parts
          ∙ parts_pushed (length rows) s.parts s.arcs arc seen.parts_each from_in seen.parts i inside
          ∙ ap (λ xs. parts_from xs i) (sym arcs);
      small = λ i inside. let read : slice_index next.parts i ≡ slice_index (slice_set s.parts arc.from (slice_index s.parts arc.from + arc.parts)) i
          = ap (λ xs. slice_index xs i) parts in omega (arith, read, small_still i inside);
    }

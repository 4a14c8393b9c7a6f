-- The chain of a catalogue and of an arcs file without a fault is a chain.
use Rattle.std.proofs.Common.{true≢false, ◌≡◌, ◌∙◌, sym, ap, subst, refl, arith, add-one, ℕ, zero, suc, ◌+◌, ◌*◌, ◌<◌, ◌≤◌, ◌==◌, ◌&&◌, ◌⊎◌, inl, inr, List, [], ◌∷◌, length, map, get_or, cond, Bool, true, false, None, slice_index, sum_by, All}
use Rattle.std.proofs.lemmas.Bool.{cases_eq}
use Rattle.std.proofs.lemmas.Bool.Decides.{nat_tests}
use Rattle.std.proofs.lemmas.List.{length-map}
use Rattle.std.proofs.lemmas.List.Folds.{list_any_at}
use Rattle.std.proofs.lemmas.List.FromFn.{length-map-range_with_len, get_or-map-range_with_len}
use Rattle.std.proofs.lemmas.List.Sums.{sum_by-cons}
use Rattle.offer_model.specs.declared.arc.Arc.{Arc}
use Rattle.offer_model.specs.declared.ranges.TheConstants.{MOST_AMOUNT, MOST_ARCS, MOST_SCALE}
use Rattle.offer_model.specs.Assortments.{sum_below}
use Rattle.offer_model.specs.Chains.{parts_along}
use Rattle.offer_model.specs.ChainValidity.{IsChain}
use Rattle.offer_model.proofs.SumLemmas.{sum_below-same, sum_below-items}
use Rattle.table_reader.specs.Tables.{TableData}
use Rattle.catalogue_rows.specs.Rows.{RowData, no_row, row_at, IsCatalogue}
use Rattle.catalogue.proofs.CatalogueProblemLemmas.{at_each, column_at}
use Rattle.arc_tables.specs.ArcTables.{stated_arc, arcs_before, same_ends, parts_from, arc_fault, chain_data_of}
use Rattle.arc_tables.proofs.ArcLemmas.{below_most_arcs, from_below, to_below, is_new_pair, parts_more, some_still_leave}

-- One arc's part of a sum over products.
point_before : (n to parts : ℕ) → n ≤ to → sum_below n (λ j. cond (to == j) parts 0 * 1) ≡ 0
point_before zero to parts l = refl
point_before (suc n) to parts l =
    let before = point_before n to parts (omega arith) in
    let other : (to == n) ≡ false = grind (arith, nat_tests) in
    rw (before, other) (omega arith)

point_most : (n to parts : ℕ) → sum_below n (λ j. cond (to == j) parts 0 * 1) ≤ parts
point_most zero to parts = omega arith
point_most (suc n) to parts = elim (cases_eq to n) [
  | inl e ↦ (let before = point_before n to parts (omega arith) in let here : (to == n) ≡ true = grind (arith, nat_tests) in
      rw (before, here) (omega arith))
  | inr e ↦ (let before = point_most n to parts in let other : (to == n) ≡ false = grind (arith, nat_tests) in
      rw other (omega (arith, before)))
]

none_moves : (n : ℕ) → sum_below n (λ j. 0 * 1) ≡ 0
none_moves zero = refl
none_moves (suc n) = let before = none_moves n in omega arith

point : (n to parts : ℕ) (b : Bool) → sum_below n (λ j. cond (b && (to == j)) parts 0 * 1) ≤ cond b parts 0
point n to parts true = point_most n to parts
point n to parts false = let none = none_moves n in omega arith

split : (n : ℕ) (a b : ℕ → ℕ) → sum_below n (λ j. (a j + b j) * 1) ≡ sum_below n (λ j. a j * 1) + sum_below n (λ j. b j * 1)
split zero a b = refl
split (suc n) a b = let before = split n a b in omega arith

-- No more than the parts of the arcs from a product move from it.
moved_within : (arcs : List Arc) (n i : ℕ) → sum_below n (λ j. parts_along arcs i j * 1) ≤ parts_from arcs i
moved_within [] n i = let none = none_moves n in omega arith
moved_within (arc ∷ arcs) n i =
    let before = moved_within arcs n i in
    let here = point n arc.to arc.parts (arc.from == i) in
    let more = sum_by-cons (λ (x : Arc). cond (x.from == i) x.parts 0) arc arcs in
    let parts = split n (λ j. cond ((arc.from == i) && (arc.to == j)) arc.parts 0) (λ j. parts_along arcs i j) in
    omega (arith, before, here, more, parts)

-- Arcs repeat each other both ways.
ends_back : (a b : Arc) → a.from ≡ b.from → a.to ≡ b.to → same_ends b a ≡ true
ends_back a b from to = grind (arith, nat_tests)

module _ (rows : List RowData) (scale : ℕ) (table : TableData) (n : ℕ) (clean : (k : ℕ) → k < n → arc_fault rows scale table k ≡ None) where
  few_rows : (m : ℕ) → m ≤ n → m ≤ MOST_ARCS
  few_rows zero within = omega arith
  few_rows (suc m) within =
      let last = below_most_arcs rows scale table m (clean m (omega arith)) in
      omega arith

  -- What holds of each data row's arc holds of each arc.
  each_arc : (P : Arc → Type 0) → ((k : ℕ) → k < n → P (stated_arc rows table k)) → All P (arcs_before rows table n)
  each_arc P holds k d inside =
      let below : k < n = omega (arith, inside, length-map-range_with_len (stated_arc rows table) 0 n) in
      subst P (sym (get_or-map-range_with_len (stated_arc rows table) 0 n k k d below (omega arith))) (holds k below)

  arcs_once : (i j : ℕ) → i < j → j < n → ((stated_arc rows table i).from ≡ (stated_arc rows table j).from)
      × ((stated_arc rows table i).to ≡ (stated_arc rows table j).to) → ⊥
  arcs_once i j before inside same =
      let fresh = is_new_pair rows scale table j (clean j inside) in
      let here : same_ends (stated_arc rows table j) (get_or (arcs_before rows table j) i (stated_arc rows table i)) ≡ true
      = ap (same_ends (stated_arc rows table j)) (get_or-map-range_with_len (stated_arc rows table) 0 j i i (stated_arc rows table i) before (omega arith))
      ∙ ends_back (stated_arc rows table i) (stated_arc rows table j) same.0 same.1 in
      let there : i < length (arcs_before rows table j) = omega (arith, before, length-map-range_with_len (stated_arc rows table) 0 j) in
      true≢false (sym (list_any_at (same_ends (stated_arc rows table j)) (arcs_before rows table j) i (stated_arc rows table i) there here) ∙ fresh)

  parts_still_small : (i m : ℕ) → m < n → parts_from (arcs_before rows table m) i < scale → parts_from (arcs_before rows table (m + 1)) i < scale
  parts_still_small i m inside before = by_product (cases_eq (stated_arc rows table m).from i)
    where
      more : parts_from (arcs_before rows table (m + 1)) i
          ≡ parts_from (arcs_before rows table m) i + cond ((stated_arc rows table m).from == i) (stated_arc rows table m).parts 0
      more = parts_more rows table m i

      by_product : ((stated_arc rows table m).from ≡ i) ⊎ ((stated_arc rows table m).from ≡ i → ⊥) → parts_from (arcs_before rows table (m + 1)) i < scale
      by_product (inl same) =
          let yes : ((stated_arc rows table m).from == i) ≡ true = grind (arith, nat_tests) in
          let leave : parts_from (arcs_before rows table m) i + (stated_arc rows table m).parts < scale
          = subst (λ x. parts_from (arcs_before rows table m) x + (stated_arc rows table m).parts < scale) same
          (some_still_leave rows scale table m (clean m inside)) in
          rw (more, yes) leave
      by_product (inr other) =
          let no : ((stated_arc rows table m).from == i) ≡ false = grind (arith, nat_tests) in
          rw (more, no) (omega (arith, before))

  parts_small : 0 < scale → (i m : ℕ) → m ≤ n → parts_from (arcs_before rows table m) i < scale
  parts_small some i zero within = some
  parts_small some i (suc m) within =
      subst (λ k. parts_from (arcs_before rows table k) i < scale) (add-one m)
      (parts_still_small i m (omega arith) (parts_small some i m (omega arith)))

  -- The chain of the rows' margins and arrivals and of the arcs.
  pub rows_make_chain : (away : ℕ) → IsCatalogue rows → 0 < scale → scale ≤ MOST_SCALE → away ≤ MOST_AMOUNT → 0 < sum_by (λ row. row.arrival) rows
      → IsChain (chain_data_of rows scale away (arcs_before rows table n))
  rows_make_chain away valid some within far arrive =
      let few = valid.few in
      let count : length (map (λ (row : RowData). row.product.margin) rows) ≡ length rows = length-map rows (λ (row : RowData). row.product.margin) in
      record {
        some = omega arith;
        scale = omega arith;
        away = omega arith;
        few = rw count few;
        margins = λ i inside. rw (column_at (λ row. row.product.margin) refl rows i)
            (at_each (λ row. row.product.margin ≤ MOST_AMOUNT) (omega arith) rows (λ k d there. (valid.each k d there).product.margin) i);
        each = length-map rows (λ (row : RowData). row.arrival) ∙ sym count;
        arrivals = λ i inside. rw (column_at (λ row. row.arrival) refl rows i)
            (at_each (λ row. row.arrival ≤ MOST_AMOUNT) (omega arith) rows (λ k d there. (valid.each k d there).arrival) i);
        few_arcs = rw (length-map-range_with_len (stated_arc rows table) 0 n) (few_rows n (omega arith));
        ends = rw count (each_arc (λ arc. (arc.from < length rows) × (arc.to < length rows))
            (λ k inside. (from_below rows scale table k (clean k inside), to_below rows scale table k (clean k inside))));
        once = λ i j d before inside.
            let last : j < n = omega (arith, inside, length-map-range_with_len (stated_arc rows table) 0 n) in
            let at : (k : ℕ) → k < n → get_or (arcs_before rows table n) k d ≡ stated_arc rows table k
            = λ k below. get_or-map-range_with_len (stated_arc rows table) 0 n k k d below (omega arith) in
            subst (λ x. (x.from ≡ (get_or (arcs_before rows table n) j d).from) × (x.to ≡ (get_or (arcs_before rows table n) j d).to) → ⊥) (sym (at i (omega arith)))
            (subst (λ y. ((stated_arc rows table i).from ≡ y.from) × ((stated_arc rows table i).to ≡ y.to) → ⊥) (sym (at j last)) (arcs_once i j before last));
        leave = λ i inside.
            let moved = moved_within (arcs_before rows table n) (length (map (λ (row : RowData). row.product.margin) rows)) i in
            let small = parts_small some i n (omega arith) in
            omega (arith, moved, small);
        arrive =
            let same = sum_below-same (length rows) (slice_index (map (λ (row : RowData). row.arrival) rows)) (λ i. (row_at rows i).arrival)
            (λ i inside. column_at (λ row. row.arrival) refl rows i) in
            let sum = sum_below-items (λ (row : RowData). row.arrival) rows no_row in
            rw (count, same, sum) arrive;
      }

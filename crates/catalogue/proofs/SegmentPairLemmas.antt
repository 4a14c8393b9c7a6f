-- One more row of a segments file that names a product.
use Rattle.std.proofs.Common.{◌≡◌, ◌∙◌, sym, ap, refl, arith, ℕ, ◌+◌, ◌*◌, ◌<◌, ◌≤◌, ◌⊎◌, inl, inr, List, [], length, map, set, get_or, cond, Bool, true, false, Option, Some, None, is_some, sum_by, count_by}
use Rattle.std.specs.List.{AllPairs}
use Rattle.std.specs.Option.{option_or}
use Rattle.std.specs.Str.{bytes_eq}
use Rattle.std.proofs.lemmas.Bool.{cases_eq}
use Rattle.std.proofs.lemmas.List.{get_or-map, length-map}
use Rattle.std.proofs.lemmas.List.Elements.{All-map}
use Rattle.std.proofs.lemmas.List.Quantifiers.{position-Some}
use Rattle.std.proofs.lemmas.List.Sums.{sum_by-set, sum_by-le, count_by-le-length}
use Rattle.std.proofs.lemmas.Slice.Eq.{bytes_eq-Decides}
use Rattle.offer_model.specs.declared.ranges.TheConstants.{MOST_AMOUNT, MOST_SEGMENTS}
use Rattle.table_reader.specs.Tables.{TableData, is_among}
use Rattle.table_reader.proofs.PositionLemmas.{position_there}
use Rattle.catalogue_rows.specs.Cells.{text_of, number_fault}
use Rattle.catalogue.specs.Columns.{weight_column}
use Rattle.catalogue_rows.specs.Rows.{RowData, no_row, IsCatalogue}
use Rattle.catalogue_rows.specs.Places.{product_named}
use Rattle.catalogue.specs.Drafts.{DraftData}
use Rattle.catalogue_rows.specs.declared.faults.Code.TheVariants.{RepeatedName}
use Rattle.catalogue.specs.SegmentTables.{segment_text, product_text, row_size, row_weight, is_head, heads_before, names_before, names_pair, attraction_before, attractions_before, segment_named, pair_fault}
use Rattle.catalogue.specs.SegmentDrafts.{draft_begun, drafts_before, attractions_said}
use Rattle.catalogue.specs.SegmentDrafts.{BeginOthers}
use Rattle.catalogue.proofs.SegmentLemmas.{map_agree, set_at_key, heads_kept, attraction_kept, attraction_new}
use Rattle.catalogue.proofs.SegmentStepLemmas.{or_none, and_false}

module _ (rows : List RowData) (table : TableData) (k g i : ℕ) (segment : segment_named table k ≡ Some g)
    (product : product_named rows (product_text table k) ≡ Some i) where
  -- What is wrong with a row whose names are there.
  pub pair_judged : (b : Bool) → is_some (attraction_before table k (segment_text table k) (product_text table k)) ≡ b
      → pair_fault rows table k ≡ cond b (Some RepeatedName) (number_fault 0 MOST_AMOUNT (text_of table k weight_column))
  pair_judged b repeated = rw (segment, product, repeated) (by_test b)
    where
      by_test : (b : Bool) → option_or (cond b (Some RepeatedName) None) (option_or (number_fault 0 MOST_AMOUNT (text_of table k weight_column)) None)
          ≡ cond b (Some RepeatedName) (number_fault 0 MOST_AMOUNT (text_of table k weight_column))
      by_test true = refl
      by_test false = or_none (number_fault 0 MOST_AMOUNT (text_of table k weight_column))

  -- Its segment and its product are there.
  at_segment : (g < length (names_before table k)) × (bytes_eq (segment_text table k) (get_or (names_before table k) g []) ≡ true)
      × ((j : ℕ) → j < g → bytes_eq (segment_text table k) (get_or (names_before table k) j []) ≡ false)
  at_segment = position-Some (bytes_eq (segment_text table k)) (names_before table k) g [] segment

  in_heads : g < length (heads_before table k)
  in_heads = omega (arith, at_segment.0, length-map (heads_before table k) (segment_text table))

  same_segment : segment_text table (get_or (heads_before table k) g 0) ≡ segment_text table k
  same_segment =
      sym (get_or-map (segment_text table) (heads_before table k) g 0 [] in_heads)
      ∙ sym ((bytes_eq-Decides (segment_text table k) (get_or (names_before table k) g [])).0 at_segment.1)

  at_product : (i < length (map (λ (row : RowData). row.name) rows)) × (bytes_eq (product_text table k) (get_or (map (λ (row : RowData). row.name) rows) i []) ≡ true)
      × ((j : ℕ) → j < i → bytes_eq (product_text table k) (get_or (map (λ (row : RowData). row.name) rows) j []) ≡ false)
  at_product = position-Some (bytes_eq (product_text table k)) (map (λ (row : RowData). row.name) rows) i [] product

  in_rows : i < length rows
  in_rows = omega (arith, at_product.0, length-map rows (λ (row : RowData). row.name))

  same_product : (get_or rows i no_row).name ≡ product_text table k
  same_product =
      sym (get_or-map (λ (row : RowData). row.name) rows i no_row [] in_rows)
      ∙ sym ((bytes_eq-Decides (product_text table k) (get_or (map (λ (row : RowData). row.name) rows) i [])).0 at_product.1)

  module _ (draft : DraftData) (read : draft ≡ get_or (drafts_before rows table k) g draft) where
    draft_at : draft ≡ draft_begun rows table k (get_or (heads_before table k) g 0)
    draft_at = read ∙ get_or-map (draft_begun rows table k) (heads_before table k) g 0 draft in_heads

    -- The product's place in the segment, and what is said there.
    pub place_inside : i < length draft.attract
    place_inside =
        let long : length draft.attract ≡ length rows
        = ap (λ (d : DraftData). length d.attract) draft_at
        ∙ length-map rows (λ row. attraction_before table k (segment_text table (get_or (heads_before table k) g 0)) row.name) in
        omega (arith, long, in_rows)

    pub said_there : get_or draft.attract i None ≡ attraction_before table k (segment_text table k) (product_text table k)
    said_there =
        ap (λ (d : DraftData). get_or d.attract i None) draft_at
        ∙ get_or-map (λ row. attraction_before table k (segment_text table (get_or (heads_before table k) g 0)) row.name) rows i no_row None in_rows
        ∙ (λ j. attraction_before table k (same_segment j) (same_product j))

    -- And with it, what is wrong with the row.
    pub judged_there : (b : Bool) → is_some (get_or draft.attract i None) ≡ b
        → pair_fault rows table k ≡ cond b (Some RepeatedName) (number_fault 0 MOST_AMOUNT (text_of table k weight_column))
    judged_there b said = pair_judged b (ap is_some (sym said_there) ∙ said)

    module _ (valid : IsCatalogue rows) (once : AllPairs (BeginOthers table) (heads_before table k)) (pair : is_head table k ≡ false)
        (fresh : attraction_before table k (segment_text table k) (product_text table k) ≡ None) where
      -- Of the segment one attraction is said now.
      attract_put : set (attractions_before rows table k (segment_text table (get_or (heads_before table k) g 0))) i (Some (row_weight table k))
          ≡ attractions_before rows table (k + 1) (segment_text table (get_or (heads_before table k) g 0))
      attract_put =
          let name = segment_text table (get_or (heads_before table k) g 0) in
          let named : bytes_eq (segment_text table k) name ≡ true = (bytes_eq-Decides (segment_text table k) name).1 (sym same_segment) in
          let here : bytes_eq (product_text table k) (get_or rows i no_row).name ≡ true
          = (bytes_eq-Decides (product_text table k) (get_or rows i no_row).name).1 (sym same_product) in
          let both : names_pair table name (get_or rows i no_row).name k ≡ true = rw (named, here) refl in
          set_at_key (λ (row : RowData). row.name) (λ row. attraction_before table k name row.name) (λ row. attraction_before table (k + 1) name row.name)
          rows (product_text table k) i (Some (row_weight table k)) no_row valid.once product
          (λ row other. attraction_kept table k name row.name (rw other (and_false (bytes_eq (segment_text table k) name))))
          (attraction_new table k name (get_or rows i no_row).name both ((λ j. attraction_before table k (same_segment j) (same_product j)) ∙ fresh))

      -- And of no other.
      others_kept : (n : ℕ) → bytes_eq (segment_text table k) (segment_text table n) ≡ false → draft_begun rows table (k + 1) n ≡ draft_begun rows table k n
      others_kept n other =
          ap (λ attract. record { name = segment_text table n; size = row_size table n; none = row_weight table n; attract = attract })
          (map_agree (λ row. attraction_before table (k + 1) (segment_text table n) row.name) (λ row. attraction_before table k (segment_text table n) row.name) rows
          (λ j d inside. attraction_kept table k (segment_text table n) (get_or rows j d).name (rw other refl)))

      drafts_set : set (drafts_before rows table k) g (record draft { attract = set draft.attract i (Some (row_weight table k)) })
          ≡ map (draft_begun rows table (k + 1)) (heads_before table k)
      drafts_set =
          set_at_key (segment_text table) (draft_begun rows table k) (draft_begun rows table (k + 1)) (heads_before table k) (segment_text table k) g
          (record draft { attract = set draft.attract i (Some (row_weight table k)) }) 0 once segment others_kept
          (ap (λ attract. record {
            name = segment_text table (get_or (heads_before table k) g 0);
            size = row_size table (get_or (heads_before table k) g 0);
            none = row_weight table (get_or (heads_before table k) g 0);
            attract = attract;
          }) (sym attract_put)
          ∙ ap (λ (d : DraftData). record d { attract = set d.attract i (Some (row_weight table k)) }) (sym draft_at))

      pub pair_drafts : set (drafts_before rows table k) g (record draft { attract = set draft.attract i (Some (row_weight table k)) })
          ≡ drafts_before rows table (k + 1)
      pair_drafts = drafts_set ∙ ap (map (draft_begun rows table (k + 1))) (sym (heads_kept table k pair))

      pub pair_counted : k ≡ length (heads_before table k) + sum_by attractions_said (drafts_before rows table k)
          → k + 1 ≡ length (heads_before table (k + 1)) + sum_by attractions_said (drafts_before rows table (k + 1))
      pair_counted counted =
          let after : DraftData = record draft { attract = set draft.attract i (Some (row_weight table k)) } in
          let inside : g < length (drafts_before rows table k) = omega (arith, in_heads, length-map (heads_before table k) (draft_begun rows table k)) in
          let there : get_or draft.attract i None ≡ None = said_there ∙ fresh in
          let none : 0 + cond (is_some (get_or draft.attract i None)) 1 0 ≡ 0 = rw there refl in
          let one : attractions_said after + cond (is_some (get_or draft.attract i None)) 1 0 ≡ attractions_said draft + 1
          = sum_by-set (λ (o : Option ℕ). cond (is_some o) 1 0) draft.attract i (Some (row_weight table k)) None place_inside in
          let all : sum_by attractions_said (set (drafts_before rows table k) g after) + attractions_said (get_or (drafts_before rows table k) g draft)
          ≡ sum_by attractions_said (drafts_before rows table k) + attractions_said after
          = sum_by-set attractions_said (drafts_before rows table k) g after draft inside in
          let same : attractions_said (get_or (drafts_before rows table k) g draft) ≡ attractions_said draft = ap attractions_said (sym read) in
          let next : sum_by attractions_said (set (drafts_before rows table k) g after) ≡ sum_by attractions_said (drafts_before rows table (k + 1))
          = ap (sum_by attractions_said) pair_drafts in
          let heads : length (heads_before table (k + 1)) ≡ length (heads_before table k) = ap length (heads_kept table k pair) in
          omega (arith, counted, none, one, all, same, next, heads)

  -- Where it has no fault, no row said the attraction before.
  pub pair_fresh : pair_fault rows table k ≡ None → attraction_before table k (segment_text table k) (product_text table k) ≡ None
  pair_fresh clean = by_said (attraction_before table k (segment_text table k) (product_text table k)) refl
    where
      by_said : (o : Option ℕ) → attraction_before table k (segment_text table k) (product_text table k) ≡ o → o ≡ None
      by_said None is = refl
      by_said (Some v) is = let fault = sym (pair_judged true (ap is_some is)) ∙ clean in cc

  pub pair_known : is_head table k ≡ false → ((j : ℕ) → j < k → is_among (segment_text table j) (names_before table k) ≡ true)
      → (j : ℕ) → j < k + 1 → is_among (segment_text table j) (names_before table (k + 1)) ≡ true
  pair_known pair known j inside = ap (λ heads. is_among (segment_text table j) (map (segment_text table) heads)) (heads_kept table k pair) ∙ by_place (cases_eq j k)
    where
      by_place : (j ≡ k) ⊎ (j ≡ k → ⊥) → is_among (segment_text table j) (names_before table k) ≡ true
      by_place (inl same) =
          ap (λ n. is_among (segment_text table n) (names_before table k)) same
          ∙ sym (position_there (bytes_eq (segment_text table k)) (names_before table k)) ∙ ap is_some segment
      by_place (inr other) = known j (omega arith)

-- There are no more rows than heads and attractions.
pub rows_few : (rows : List RowData) (table : TableData) (k : ℕ) → IsCatalogue rows → length (heads_before table k) ≤ MOST_SEGMENTS
    → k ≡ length (heads_before table k) + sum_by attractions_said (drafts_before rows table k) → k ≤ 8224
rows_few rows table k valid few counted =
    let most : sum_by attractions_said (drafts_before rows table k) ≤ length (drafts_before rows table k) * 256
    = sum_by-le attractions_said 256 (drafts_before rows table k) (All-map (λ d. attractions_said d ≤ 256) (draft_begun rows table k) (heads_before table k)
    (λ j d inside.
    let n = get_or (heads_before table k) j d in
    let said : count_by is_some (attractions_before rows table k (segment_text table n)) ≤ length (attractions_before rows table k (segment_text table n))
    = count_by-le-length is_some (attractions_before rows table k (segment_text table n)) in
    let long : length (attractions_before rows table k (segment_text table n)) ≡ length rows
    = length-map rows (λ row. attraction_before table k (segment_text table n) row.name) in
    let few_rows = valid.few in
    omega (arith, said, long, few_rows))) in
    let long : length (drafts_before rows table k) ≡ length (heads_before table k) = length-map (heads_before table k) (draft_begun rows table k) in
    omega (arith, most, long, few, counted)

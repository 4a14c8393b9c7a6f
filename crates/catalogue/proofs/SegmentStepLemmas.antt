-- One more row of a segments file: a head, or a product's attraction in a segment.
use Rattle.std.proofs.Common.{true≢false, ◌≡◌, ◌∙◌, sym, ap, refl, arith, ℕ, suc, ◌+◌, ◌*◌, ◌<◌, ◌≤◌, ◌==◌, ◌&&◌, ◌||◌, ◌⊎◌, inl, inr, ◌++◌, List, [], ◌∷◌, length, map, replicate, get_or, cond, Bool, true, false, not, nat_lt, nat_le, Option, Some, None, is_some, All, sum_by, IsTrue}
use Rattle.std.specs.List.{AllPairs}
use Rattle.std.specs.Option.{option_or}
use Rattle.std.specs.Str.{bytes_eq}
use Rattle.std.proofs.lemmas.Bool.{false_from_ne_true, cases_eq}
use Rattle.std.proofs.lemmas.Bool.Decides.{nat_tests}
use Rattle.std.proofs.lemmas.List.{get_or-map, length-map, length_push, map_push}
use Rattle.std.proofs.lemmas.List.Folds.{list_any-append, list_any_at, sum_by-replicate}
use Rattle.std.proofs.lemmas.List.Quantifiers.{all_pairs_push}
use Rattle.std.proofs.lemmas.List.Sums.{sum_by_push}
use Rattle.std.proofs.lemmas.Slice.Eq.{bytes_eq-Decides}
use Rattle.offer_model.specs.declared.ranges.TheConstants.{MOST_AMOUNT, MOST_SEGMENTS}
use Rattle.offer_model.specs.Validity.{IsPositiveAmount}
use Rattle.offer_model.specs.Numerals.{number_of}
use Rattle.table_reader.specs.Tables.{TableData, is_among}
use Rattle.catalogue_rows.specs.Cells.{text_of, number_fault, name_fault}
use Rattle.catalogue.specs.Columns.{size_column, weight_column}
use Rattle.catalogue_rows.specs.Names.{is_name}
use Rattle.catalogue_rows.specs.Rows.{RowData, IsCatalogue}
use Rattle.catalogue.specs.Drafts.{DraftData}
use Rattle.catalogue_rows.specs.declared.faults.Code.TheVariants.{SizesTooGreat}
use Rattle.catalogue.specs.SegmentTables.{segment_text, product_text, row_size, row_weight, is_head, heads_before, names_before, sizes_before, names_pair, attraction_before, repeated_head, head_line_fault, sizes_fault, head_fault}
use Rattle.catalogue.specs.SegmentDrafts.{draft_begun, drafts_before, attractions_said, BeginOthers}
use Rattle.catalogue_rows.proofs.FaultLemmas.{all_none, no_fault_if, no_fault_else}
use Rattle.catalogue.proofs.SegmentLemmas.{map_agree, heads_more, attraction_kept, attraction_none, positive_amount}

pub or_none : {A : Type 0} (o : Option A) → option_or o None ≡ o
or_none None = refl
or_none (Some x) = refl

pub and_false : (b : Bool) → (b && false) ≡ false
and_false true = refl
and_false false = refl

or_true : (b : Bool) → (b || true) ≡ true
or_true true = refl
or_true false = refl

-- An empty text is no product's name.
empty_is_other : (text name : List ℕ) → (length text == 0) ≡ true → IsTrue (is_name name) → bytes_eq text name ≡ false
empty_is_other [] [] empty named = absurd (true≢false (sym named))
empty_is_other [] (b ∷ more) empty named = refl
empty_is_other (a ∷ rest) name empty named = absurd (grind (arith, nat_tests))

not_full : (b : Bool) → not b ≡ false → b ≡ true
not_full true e = refl
not_full false e = cc

-- What is wrong with a head whose other parts have no fault.
pub head_judged : (unit : ℕ) (table : TableData) (k : ℕ) → name_fault (segment_text table k) ≡ None
    → is_among (segment_text table k) (names_before table k) ≡ false → not (nat_lt (length (heads_before table k)) MOST_SEGMENTS) ≡ false
    → number_fault 1 MOST_AMOUNT (text_of table k size_column) ≡ None → number_fault 1 MOST_AMOUNT (text_of table k weight_column) ≡ None
    → is_head table k ≡ true → (great : Bool) → not (nat_le (sizes_before unit table k + row_size table k * unit) MOST_AMOUNT) ≡ great
    → head_fault unit table k ≡ cond great (Some SizesTooGreat) None
head_judged unit table k name fresh room size weight head great is =
    rw (name, fresh, free, size, weight, sizes) (or_none _ ∙ by_test (nat_le (sizes_before unit table k + row_size table k * unit) MOST_AMOUNT) great is)
  where
    free : nat_lt (length (heads_before table k)) MOST_SEGMENTS ≡ true
    free = not_full (nat_lt (length (heads_before table k)) MOST_SEGMENTS) room

    sizes : sizes_before unit table (k + 1) ≡ sizes_before unit table k + row_size table k * unit
    sizes =
        ap (sum_by (λ n. row_size table n * unit)) (heads_more table k head)
        ∙ sum_by_push (λ n. row_size table n * unit) (heads_before table k) k

    by_test : (b great : Bool) → not b ≡ great → cond b None (Some SizesTooGreat) ≡ cond great (Some SizesTooGreat) None
    by_test true true e = cc
    by_test true false e = refl
    by_test false true e = refl
    by_test false false e = cc

-- A head without a fault.
module _ (rows : List RowData) (unit : ℕ) (table : TableData) (k : ℕ) (valid : IsCatalogue rows) (head : is_head table k ≡ true)
    (clean : head_fault unit table k ≡ None) where
  parts : (name_fault (segment_text table k) ≡ None) × ((repeated_head table k ≡ None) × ((head_line_fault table k ≡ None)
      × ((number_fault 1 MOST_AMOUNT (text_of table k size_column) ≡ None) × ((number_fault 1 MOST_AMOUNT (text_of table k weight_column) ≡ None)
      × ((sizes_fault unit table k ≡ None) × Unit {0})))))
  parts = all_none (name_fault (segment_text table k) ∷ repeated_head table k ∷ head_line_fault table k
      ∷ number_fault 1 MOST_AMOUNT (text_of table k size_column) ∷ number_fault 1 MOST_AMOUNT (text_of table k weight_column) ∷ sizes_fault unit table k ∷ []) clean

  pub head_size : IsPositiveAmount (row_size table k)
  head_size = positive_amount (number_of (text_of table k size_column)) parts.1.1.1.0

  pub head_weight : IsPositiveAmount (row_weight table k)
  head_weight = positive_amount (number_of (text_of table k weight_column)) parts.1.1.1.1.0

  pub head_fresh : is_among (segment_text table k) (names_before table k) ≡ false
  head_fresh = no_fault_if _ _ parts.1.0

  pub head_names : names_before table (k + 1) ≡ names_before table k ++ segment_text table k ∷ []
  head_names = ap (map (segment_text table)) (heads_more table k head) ∙ map_push (segment_text table) (heads_before table k) k

  pub head_few : length (heads_before table (k + 1)) ≤ MOST_SEGMENTS
  head_few =
      let below : nat_lt (length (heads_before table k)) MOST_SEGMENTS ≡ true = no_fault_else _ _ parts.1.1.0 in
      let less : length (heads_before table k) < MOST_SEGMENTS = grind (arith, nat_tests) in
      rw (heads_more table k head, length_push) (omega (arith, less))

  pub head_sizes : sizes_before unit table (k + 1) ≡ sizes_before unit table k + row_size table k * unit
  head_sizes =
      ap (sum_by (λ n. row_size table n * unit)) (heads_more table k head)
      ∙ sum_by_push (λ n. row_size table n * unit) (heads_before table k) k

  pub head_small : sizes_before unit table (k + 1) ≤ MOST_AMOUNT
  head_small =
      let within : nat_le (sizes_before unit table (k + 1)) MOST_AMOUNT ≡ true = no_fault_else _ _ parts.1.1.1.1.1.0 in
      grind (arith, nat_tests)

  pub head_once : AllPairs (BeginOthers table) (heads_before table k) → AllPairs (BeginOthers table) (heads_before table (k + 1))
  head_once once = rw (heads_more table k head) (all_pairs_push (BeginOthers table) (heads_before table k) k once (λ j d inside same.
      let there : bytes_eq (segment_text table k) (get_or (names_before table k) j []) ≡ true
      = rw (get_or-map (segment_text table) (heads_before table k) j d [] inside)
      ((bytes_eq-Decides (segment_text table k) (segment_text table (get_or (heads_before table k) j d))).1 (sym same)) in
      true≢false (sym (list_any_at (bytes_eq (segment_text table k)) (names_before table k) j []
      (omega (arith, inside, length-map (heads_before table k) (segment_text table))) there) ∙ head_fresh)))

  pub head_known : ((j : ℕ) → j < k → is_among (segment_text table j) (names_before table k) ≡ true)
      → (j : ℕ) → j < k + 1 → is_among (segment_text table j) (names_before table (k + 1)) ≡ true
  head_known known j inside =
      ap (is_among (segment_text table j)) head_names
      ∙ list_any-append (bytes_eq (segment_text table j)) (names_before table k) (segment_text table k ∷ []) ∙ by_place (cases_eq j k)
    where
      by_place : (j ≡ k) ⊎ (j ≡ k → ⊥)
          → (is_among (segment_text table j) (names_before table k) || is_among (segment_text table j) (segment_text table k ∷ [])) ≡ true
      by_place (inl same) =
          let self : bytes_eq (segment_text table j) (segment_text table k) ≡ true
          = (bytes_eq-Decides (segment_text table j) (segment_text table k)).1 (ap (segment_text table) same) in
          rw self (or_true (is_among (segment_text table j) (names_before table k)))
      by_place (inr other) = rw (known j (omega arith)) refl

  unnamed : ((j : ℕ) → j < k → is_among (segment_text table j) (names_before table k) ≡ true)
      → (j : ℕ) → j < k → bytes_eq (segment_text table j) (segment_text table k) ≡ false
  unnamed known j inside = false_from_ne_true _ (λ same.
      let texts : segment_text table j ≡ segment_text table k = (bytes_eq-Decides (segment_text table j) (segment_text table k)).0 same in
      true≢false (sym (known j inside) ∙ ap (λ text. is_among text (names_before table k)) texts ∙ head_fresh))

  no_pair : (segment : List ℕ) (j : ℕ) (d : RowData) → j < length rows → names_pair table segment (get_or rows j d).name k ≡ false
  no_pair segment j d inside =
      let other : bytes_eq (product_text table k) (get_or rows j d).name ≡ false
      = empty_is_other (product_text table k) (get_or rows j d).name head (valid.each j d inside).name in
      rw other (and_false (bytes_eq (segment_text table k) segment))

  -- What is known of a segment stays.
  begun_kept : (n : ℕ) → draft_begun rows table (k + 1) n ≡ draft_begun rows table k n
  begun_kept n =
      ap (λ attract. record { name = segment_text table n; size = row_size table n; none = row_weight table n; attract = attract })
      (map_agree (λ row. attraction_before table (k + 1) (segment_text table n) row.name) (λ row. attraction_before table k (segment_text table n) row.name) rows
      (λ j d inside. attraction_kept table k (segment_text table n) (get_or rows j d).name (no_pair (segment_text table n) j d inside)))

  none_said : (rest : List RowData) (f : RowData → Option ℕ) → All (λ row. f row ≡ None) rest → map f rest ≡ replicate (length rest) None
  none_said [] f none = refl
  none_said (r ∷ rs) f none =
      let here : f r ≡ None = none 0 r (omega arith) in
      let more : map f rs ≡ replicate (length rs) None = none_said rs f (λ j d inside. none (suc j) d (omega arith)) in
      λ i. here i ∷ more i

  begun_new : ((j : ℕ) → j < k → is_among (segment_text table j) (names_before table k) ≡ true)
      → draft_begun rows table (k + 1) k ≡ record { name = segment_text table k; size = row_size table k; none = row_weight table k; attract = replicate (length rows) None }
  begun_new known =
      ap (λ attract. record { name = segment_text table k; size = row_size table k; none = row_weight table k; attract = attract })
      (none_said rows (λ row. attraction_before table (k + 1) (segment_text table k) row.name) (λ j d inside.
      attraction_kept table k (segment_text table k) (get_or rows j d).name (no_pair (segment_text table k) j d inside)
      ∙ attraction_none table k (segment_text table k) (get_or rows j d).name (unnamed known)))

  -- And one more is.
  pub head_drafts : ((j : ℕ) → j < k → is_among (segment_text table j) (names_before table k) ≡ true)
      → drafts_before rows table (k + 1)
      ≡ drafts_before rows table k ++ record { name = segment_text table k; size = row_size table k; none = row_weight table k; attract = replicate (length rows) None } ∷ []
  head_drafts known =
      ap (map (draft_begun rows table (k + 1))) (heads_more table k head)
      ∙ map_push (draft_begun rows table (k + 1)) (heads_before table k) k
      ∙ (λ i. map_agree (draft_begun rows table (k + 1)) (draft_begun rows table k) (heads_before table k) (λ j d inside. begun_kept (get_or (heads_before table k) j d)) i
      ++ begun_new known i ∷ [])

  pub head_counted : ((j : ℕ) → j < k → is_among (segment_text table j) (names_before table k) ≡ true)
      → k ≡ length (heads_before table k) + sum_by attractions_said (drafts_before rows table k)
      → k + 1 ≡ length (heads_before table (k + 1)) + sum_by attractions_said (drafts_before rows table (k + 1))
  head_counted known counted =
      let draft : DraftData = record { name = segment_text table k; size = row_size table k; none = row_weight table k; attract = replicate (length rows) None } in
      let said : sum_by attractions_said (drafts_before rows table (k + 1)) ≡ sum_by attractions_said (drafts_before rows table k) + attractions_said draft
      = ap (sum_by attractions_said) (head_drafts known) ∙ sum_by_push attractions_said (drafts_before rows table k) draft in
      let none : attractions_said draft ≡ length rows * 0 = sum_by-replicate (λ (o : Option ℕ). cond (is_some o) 1 0) (length rows) None in
      let heads : length (heads_before table (k + 1)) ≡ length (heads_before table k) + 1 = ap length (heads_more table k head) ∙ length_push (heads_before table k) k in
      omega (arith, said, none, heads, counted)

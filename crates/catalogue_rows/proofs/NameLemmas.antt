-- Names, and their numbers in order of first appearance.
use Rattle.std.proofs.Common.{true≢false, ◌≡◌, ◌∙◌, sym, ap, refl, arith, ℕ, ◌+◌, ◌<◌, ◌≤◌, ◌==◌, ◌&&◌, ◌||◌, List, [], ◌∷◌, ◌++◌, length, take, drop, get_or, filter, Bool, true, false, not, cond, nat_le, Bor, Option, Some, None, option_map, IfSome, IfNone, IsTrue, Result, Ok, Err, MatchResult, append_assoc}
use Rattle.std.specs.List.{position, position_or_len, list_any, list_all}
use Rattle.std.specs.Option.{option_map_or, is_some}
use Rattle.std.specs.Result.{result_ok}
use Rattle.std.specs.Str.{bytes_eq, is_utf8, IsUtf8}
use Rattle.std.proofs.lemmas.Bool.{false_from_ne_true}
use Rattle.std.proofs.lemmas.Str.{IsUtf8-from_is_utf8, is_utf8-from_IsUtf8}
use Rattle.std.proofs.lemmas.List.{append-nil, take_more, take-append-drop}
use Rattle.std.proofs.lemmas.List.Filters.{length-filter_both}
use Rattle.std.proofs.lemmas.List.Folds.{list_any-append}
use Rattle.std.proofs.lemmas.List.Elements.{filter-append}
use Rattle.std.proofs.lemmas.Slice.Eq.{bytes_eq-Decides}
use Rattle.std.proofs.lemmas.Bool.Decides.{nat_tests}
use Rattle.table_reader.specs.Tables.{is_among}
use Rattle.table_reader.proofs.PositionLemmas.{position_cons, position_there}
use Rattle.catalogue_rows.specs.Sizes.{most_name}
use Rattle.catalogue_rows.specs.Names.{is_name_byte, is_name, distinct_names, number_in}

-- What a field is that passed all tests but the last.
module _ (field : List ℕ) (some : 1 ≤ length field) (few : length field ≤ most_name) (bytes : list_all is_name_byte field ≡ true) where
  name_if_utf8 : is_name field ≡ is_utf8 field
  name_if_utf8 = rw bytes (by_tests (is_utf8 field))
    where
      by_tests : (b : Bool) → (nat_le 1 (length field) && nat_le (length field) most_name && b && true) ≡ b
      by_tests true = grind (arith, nat_tests)
      by_tests false = grind (arith, nat_tests)

  pub read_as_name : {E : Type 0} (W : E → Type 0) (r : Result (Bor (List ℕ)) E)
      → MatchResult r (λ s. (s.now ≡ field) × IsUtf8 field) (λ e. ¬ (IsUtf8 field) × W e)
      → IfSome (result_ok r) (λ name. (name.now ≡ field) × IsTrue (is_name field))
  read_as_name W (Ok s) h = (h.0, name_if_utf8 ∙ is_utf8-from_IsUtf8 field h.1)
  read_as_name W (Err e) h = tt

  pub refused_as_name : {E : Type 0} (W : E → Type 0) (r : Result (Bor (List ℕ)) E)
      → MatchResult r (λ s. (s.now ≡ field) × IsUtf8 field) (λ e. ¬ (IsUtf8 field) × W e)
      → IfNone (result_ok r) (is_name field ≡ false)
  refused_as_name W (Ok s) h = tt
  refused_as_name W (Err e) h = name_if_utf8 ∙ false_from_ne_true (is_utf8 field) (λ yes. h.0 (IsUtf8-from_is_utf8 field yes))

-- Another name than this one.
abbrev pub is_other : List ℕ → List ℕ → Bool
is_other text other = not (bytes_eq text other)

other_way : (a b : List ℕ) → bytes_eq b a ≡ false → bytes_eq a b ≡ false
other_way a b e = false_from_ne_true _ (λ h. true≢false (sym ((bytes_eq-Decides b a).1 (sym ((bytes_eq-Decides a b).0 h))) ∙ e))

-- Where a name isn't the one that goes, it is still among the rest exactly where it was.
pub among_others : (text name : List ℕ) (names : List (List ℕ)) → bytes_eq name text ≡ false
    → is_among name (filter (is_other text) names) ≡ is_among name names
among_others text name [] differs = refl
among_others text name (n ∷ ns) differs = by_first (among_others text name ns differs) (bytes_eq text n) refl
  where
    by_first : is_among name (filter (is_other text) ns) ≡ is_among name ns → (b : Bool) → bytes_eq text n ≡ b
        → is_among name (filter (is_other text) (n ∷ ns)) ≡ is_among name (n ∷ ns)
    by_first rest true same =
        let missed : bytes_eq name n ≡ false = ap (bytes_eq name) (sym ((bytes_eq-Decides text n).0 same)) ∙ differs in
        rw (same, missed) rest
    by_first rest false other = rw other (ap (λ b. bytes_eq name n || b) rest)

-- A text and the other names after it, with one more name.
first_kept : (text name : List ℕ) (names : List (List ℕ)) (b : Bool) → bytes_eq name text ≡ b → (found : Bool) → is_among name names ≡ found
    → text ∷ filter (is_other text) (cond (is_among name names) names (names ++ name ∷ []))
    ≡ cond (is_among name (text ∷ filter (is_other text) names)) (text ∷ filter (is_other text) names)
    ((text ∷ filter (is_other text) names) ++ name ∷ [])
first_kept text name names true same true there = rw (same, there) refl
first_kept text name names true same false gone =
    let back : bytes_eq text name ≡ true = (bytes_eq-Decides text name).1 (sym ((bytes_eq-Decides name text).0 same)) in
    rw (same, gone, filter-append (is_other text) names (name ∷ []), back) (ap (λ rest. text ∷ rest) (append-nil _))
first_kept text name names false differs true there = rw (differs, among_others text name names differs, there) refl
first_kept text name names false differs false gone =
    rw (differs, among_others text name names differs, gone, filter-append (is_other text) names (name ∷ []), other_way text name differs) refl

-- One more text: an empty one changes nothing, and a name goes last unless it is there.
pub distinct_push_empty : (texts : List (List ℕ)) (text : List ℕ) → (length text == 0) ≡ true → distinct_names (texts ++ text ∷ []) ≡ distinct_names texts
distinct_push_empty [] text empty = rw empty refl
distinct_push_empty (t ∷ ts) text empty = rw (distinct_push_empty ts text empty) refl

-- A name goes last unless it is there.
pub distinct_push : (texts : List (List ℕ)) (name : List ℕ) → (length name == 0) ≡ false
    → distinct_names (texts ++ name ∷ [])
    ≡ cond (is_among name (distinct_names texts)) (distinct_names texts) (distinct_names texts ++ name ∷ [])
distinct_push [] name some = rw some refl
distinct_push (t ∷ ts) name some = by_first (distinct_push ts name some) (length t == 0) refl
  where
    by_first : distinct_names (ts ++ name ∷ []) ≡ cond (is_among name (distinct_names ts)) (distinct_names ts) (distinct_names ts ++ name ∷ [])
        → (b : Bool) → (length t == 0) ≡ b → distinct_names ((t ∷ ts) ++ name ∷ [])
        ≡ cond (is_among name (distinct_names (t ∷ ts))) (distinct_names (t ∷ ts)) (distinct_names (t ∷ ts) ++ name ∷ [])
    by_first rest true empty = rw empty rest
    by_first rest false full =
        rw (full, rest) (first_kept t name (distinct_names ts) (bytes_eq name t) refl (is_among name (distinct_names ts)) refl)

-- The empty text is no name.
pub empty_is_no_name : (texts : List (List ℕ)) (text : List ℕ) → (length text == 0) ≡ true → is_among text (distinct_names texts) ≡ false
empty_is_no_name [] text empty = refl
empty_is_no_name (t ∷ ts) text empty = by_first (empty_is_no_name ts text empty) (length t == 0) refl
  where
    by_lengths : (a b : List ℕ) → (length a == 0) ≡ true → (length b == 0) ≡ false → bytes_eq a b ≡ false
    by_lengths [] [] e f = cc
    by_lengths [] (b ∷ more) e f = refl
    by_lengths (a ∷ rest) b e f = absurd (grind (arith, nat_tests))

    by_first : is_among text (distinct_names ts) ≡ false → (b : Bool) → (length t == 0) ≡ b → is_among text (distinct_names (t ∷ ts)) ≡ false
    by_first rest true none = rw none rest
    by_first rest false some =
        let differs = by_lengths text t empty some in
        rw (some, differs, among_others t text (distinct_names ts) differs) rest

-- More texts put more names last.
pub distinct_grows : (texts more : List (List ℕ)) → (names : List (List ℕ)) × (distinct_names (texts ++ more) ≡ distinct_names texts ++ names)
distinct_grows texts [] = ([], rw (append-nil texts, append-nil (distinct_names texts)) refl)
distinct_grows texts (t ∷ ts) = joined (pushed (length t == 0) refl (is_among t (distinct_names texts)) refl) (distinct_grows (texts ++ t ∷ []) ts)
  where
    pushed : (b : Bool) → (length t == 0) ≡ b → (found : Bool) → is_among t (distinct_names texts) ≡ found
        → (names : List (List ℕ)) × (distinct_names (texts ++ t ∷ []) ≡ distinct_names texts ++ names)
    pushed true empty found is = ([], distinct_push_empty texts t empty ∙ sym (append-nil _))
    pushed false full true there = ([], distinct_push texts t full ∙ rw there (sym (append-nil _)))
    pushed false full false gone = (t ∷ [], distinct_push texts t full ∙ rw gone refl)

    joined : (names : List (List ℕ)) × (distinct_names (texts ++ t ∷ []) ≡ distinct_names texts ++ names)
        → (names : List (List ℕ)) × (distinct_names ((texts ++ t ∷ []) ++ ts) ≡ distinct_names (texts ++ t ∷ []) ++ names)
        → (names : List (List ℕ)) × (distinct_names (texts ++ t ∷ ts) ≡ distinct_names texts ++ names)
    joined one rest = (
      one.0 ++ rest.0,
      ap distinct_names (sym (append_assoc texts (t ∷ []) ts)) ∙ rest.1 ∙ ap (λ names. names ++ rest.0) one.1
          ∙ append_assoc (distinct_names texts) one.0 rest.0,
    )

-- The place of an element that is there stays where more is put last.
pub position_stays : {X : Type 0} (p : X → Bool) (xs ys : List X) → list_any p xs ≡ true → position p (xs ++ ys) ≡ position p xs
position_stays p [] ys found = cc
position_stays p (x ∷ xs) ys found = rw (position_cons p x (xs ++ ys), position_cons p x xs) (by_first (p x) refl (position_stays p xs ys))
  where
    by_first : (b : Bool) → p x ≡ b → (list_any p xs ≡ true → position p (xs ++ ys) ≡ position p xs)
        → cond (p x) (Some 0) (option_map (λ k. k + 1) (position p (xs ++ ys)))
        ≡ cond (p x) (Some 0) (option_map (λ k. k + 1) (position p xs))
    by_first true here rest = rw here refl
    by_first false miss rest = rw (miss, rest (rw miss at found)) refl

-- An element that goes last unless one like it is there has the place that it was found at, or the last.
pub position_inserted : {X : Type 0} (p : X → Bool) (xs : List X) (y : X) → p y ≡ true
    → position p (cond (list_any p xs) xs (xs ++ y ∷ [])) ≡ Some (position_or_len p xs)
position_inserted p [] y here = rw (position_cons p y [], here) refl
position_inserted p (x ∷ xs) y here = by_first (p x) refl (list_any p xs) refl (position_inserted p xs y here)
  where
    by_first : (b : Bool) → p x ≡ b → (found : Bool) → list_any p xs ≡ found
        → position p (cond (list_any p xs) xs (xs ++ y ∷ [])) ≡ Some (position_or_len p xs)
        → position p (cond (list_any p (x ∷ xs)) (x ∷ xs) ((x ∷ xs) ++ y ∷ [])) ≡ Some (position_or_len p (x ∷ xs))
    by_first true first found is rest = rw (first, position_cons p x xs, first) refl
    by_first false miss true there rest =
        let place : position p xs ≡ Some (position_or_len p xs) = rw there at rest in
        rw (miss, there, position_cons p x xs, miss, place) (ap Some (omega arith))
    by_first false miss false gone rest =
        let place : position p (xs ++ y ∷ []) ≡ Some (position_or_len p xs) = rw gone at rest in
        rw (miss, gone, position_cons p x (xs ++ y ∷ []), miss, place) (ap Some (omega arith))

-- And it is there then.
pub among_inserted : {X : Type 0} (p : X → Bool) (xs : List X) (y : X) → p y ≡ true → list_any p (cond (list_any p xs) xs (xs ++ y ∷ [])) ≡ true
among_inserted p xs y here = by_found (list_any p xs) refl
  where
    or_true : (b : Bool) → (b || true) ≡ true
    or_true true = refl
    or_true false = refl

    by_found : (b : Bool) → list_any p xs ≡ b → list_any p (cond (list_any p xs) xs (xs ++ y ∷ [])) ≡ true
    by_found true there = rw there there
    by_found false gone = rw (gone, list_any-append p xs (y ∷ []), here) (or_true (list_any p xs))

-- What isn't there is none.
pub none_if_gone : (o : Option ℕ) → is_some o ≡ false → o ≡ None
none_if_gone None gone = refl
none_if_gone (Some k) gone = cc

-- The empty text has number 0.
pub number_of_empty : (texts : List (List ℕ)) (text : List ℕ) → (length text == 0) ≡ true → number_in texts text ≡ 0
number_of_empty texts text empty =
    let gone : position (bytes_eq text) (distinct_names texts) ≡ None
    = none_if_gone _ (position_there (bytes_eq text) (distinct_names texts) ∙ empty_is_no_name texts text empty) in
    rw gone refl

-- A name put last has the number of its place.
pub number_pushed : (texts : List (List ℕ)) (name : List ℕ) → (length name == 0) ≡ false
    → number_in (texts ++ name ∷ []) name ≡ position_or_len (bytes_eq name) (distinct_names texts) + 1
number_pushed texts name full =
    rw (distinct_push texts name full, position_inserted (bytes_eq name) (distinct_names texts) name ((bytes_eq-Decides name name).1 refl)) refl

-- The number of a text among those up to it is that among all.
pub number_so_far : (texts : List (List ℕ)) (k : ℕ) (text : List ℕ) → k < length texts → get_or texts k [] ≡ text
    → number_in (take k texts ++ text ∷ []) text ≡ number_in texts text
number_so_far texts k text inside at = by_length (length text == 0) refl
  where
    front : take (k + 1) texts ≡ take k texts ++ text ∷ []
    front = take_more texts k [] inside ∙ ap (λ t. take k texts ++ t ∷ []) at

    whole : texts ≡ (take k texts ++ text ∷ []) ++ drop (k + 1) texts
    whole = sym (take-append-drop (k + 1) texts) ∙ ap (λ f. f ++ drop (k + 1) texts) front

    by_length : (b : Bool) → (length text == 0) ≡ b → number_in (take k texts ++ text ∷ []) text ≡ number_in texts text
    by_length true empty = number_of_empty (take k texts ++ text ∷ []) text empty ∙ sym (number_of_empty texts text empty)
    by_length false full =
        let there : is_among text (distinct_names (take k texts ++ text ∷ [])) ≡ true
        = ap (is_among text) (distinct_push (take k texts) text full)
        ∙ among_inserted (bytes_eq text) (distinct_names (take k texts)) text ((bytes_eq-Decides text text).1 refl) in
        let grown = distinct_grows (take k texts ++ text ∷ []) (drop (k + 1) texts) in
        let place = position_stays (bytes_eq text) (distinct_names (take k texts ++ text ∷ [])) grown.0 there in
        ap (λ o. option_map_or (λ n. n + 1) o 0) (sym place ∙ ap (position (bytes_eq text)) (sym grown.1))
        ∙ ap (λ all. number_in all text) (sym whole)

-- There are at most as many names as texts.
pub length_distinct : (texts : List (List ℕ)) → length (distinct_names texts) ≤ length texts
length_distinct [] = omega arith
length_distinct (t ∷ ts) = by_length (length t == 0) refl (length_distinct ts)
  where
    by_length : (b : Bool) → (length t == 0) ≡ b → length (distinct_names ts) ≤ length ts → length (distinct_names (t ∷ ts)) ≤ length (t ∷ ts)
    by_length true empty rest = rw empty (omega arith)
    by_length false full rest = rw full (omega (arith, length-filter_both (is_other t) (λ other. not (is_other t other)) (λ _. refl) (distinct_names ts)))

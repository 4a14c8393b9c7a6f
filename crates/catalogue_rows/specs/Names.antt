-- Names of products, categories, ladders and segments, and the numbers that categories and ladders have. Own.
use Rattle.std.specs.Prelude.{ℕ, ◌+◌, ◌&&◌, ◌==◌, not, Bool, List, [], ◌∷◌, length, position, Option, nat_le, if◌then◌else◌}
use Rattle.std.specs.List.{filter, list_all}
use Rattle.std.specs.Option.{option_map_or}
use Rattle.std.specs.Str.{bytes_eq, is_utf8}
use Rattle.catalogue_rows.specs.Sizes.{most_name}

-- A byte that a name may have: no ASCII control character.
abbrev pub is_name_byte : ℕ → Bool
is_name_byte byte = nat_le 32 byte && not (byte == 127)

-- A name: 1 to 64 bytes of UTF-8, none of them an ASCII control character.
abbrev pub is_name : List ℕ → Bool
is_name text =
    nat_le 1 (length text) && nat_le (length text) most_name && is_utf8 text && list_all is_name_byte text

-- The texts that aren't empty, each at its first appearance.
abbrev pub distinct_names : List (List ℕ) → List (List ℕ)
distinct_names [] = []
distinct_names (text ∷ texts) =
    if length text == 0 then distinct_names texts
    else text ∷ filter (λ other. not (bytes_eq text other)) (distinct_names texts)

-- The place of a name among the texts, in order of first appearance, from 0. The empty text has none.
abbrev pub place_in : List (List ℕ) → List ℕ → Option ℕ
place_in texts text = position (bytes_eq text) (distinct_names texts)

-- The number of a name among the texts: its place, from 1, and 0 where it has none.
abbrev pub number_in : List (List ℕ) → List ℕ → ℕ
number_in texts text = option_map_or (λ k. k + 1) (place_in texts text) 0

-- An assortment as a word: `-` for no products, or for each product 1 where it is offered and 0 where it isn't. Own.
use Rattle.std.specs.Prelude.{ℕ, List, [], map, length, Bool, codes, if◌then◌else◌, nat_eq, nat_lt, nat_le, ◌&&◌, ◌||◌}
use Rattle.std.specs.List.{list_all}
use Rattle.std.specs.Str.{bytes_eq}

-- The characters 0 and 1.
abbrev pub is_mark : ℕ → Bool
is_mark byte = nat_eq byte 48 || nat_eq byte 49

-- The most characters of an assortment.
abbrev pub most_marks : ℕ
most_marks = 512

abbrev pub is_assortment : List ℕ → Bool
is_assortment word = bytes_eq word (codes "-") || (nat_lt 0 (length word) && nat_le (length word) most_marks && list_all is_mark word)

-- The assortment that a word writes: for each product whether it is offered.
abbrev pub offered_of : List ℕ → List Bool
offered_of word = if bytes_eq word (codes "-") then [] else map (nat_eq 49) word

-- The columns of limits files and of segments files, by their places in the order of their names, from 0. Own.
use Rattle.std.specs.Prelude.{ℕ}

-- Of a limits file.
abbrev pub kind_column : ℕ
kind_column = 0

abbrev pub first_column : ℕ
first_column = 1

abbrev pub second_column : ℕ
second_column = 2

abbrev pub number_column : ℕ
number_column = 3

-- Of a segments file.
abbrev pub segment_column : ℕ
segment_column = 0

abbrev pub product_column : ℕ
product_column = 1

abbrev pub size_column : ℕ
size_column = 2

-- Of attractions, in a head of the weight of buying nothing.
abbrev pub weight_column : ℕ
weight_column = 3

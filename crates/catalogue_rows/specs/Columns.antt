-- The columns of products files, by their places in the order of their names, from 0. Own.
use Rattle.std.specs.Prelude.{ℕ}

abbrev pub name_column : ℕ
name_column = 0

abbrev pub margin_column : ℕ
margin_column = 1

abbrev pub attraction_column : ℕ
attraction_column = 2

abbrev pub shadow_column : ℕ
shadow_column = 3

abbrev pub category_column : ℕ
category_column = 4

abbrev pub space_column : ℕ
space_column = 5

abbrev pub price_column : ℕ
price_column = 6

abbrev pub ladder_column : ℕ
ladder_column = 7

abbrev pub grade_column : ℕ
grade_column = 8

abbrev pub arrival_column : ℕ
arrival_column = 9

-- How long names and table files may be, in bytes. Own.
use Rattle.std.specs.Prelude.{ℕ}

-- The longest name.
abbrev pub most_name : ℕ
most_name = 64

-- The longest table file.
abbrev pub most_table : ℕ
most_table = 16777216

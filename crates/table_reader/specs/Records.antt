-- How the bytes of a table file are cut.
use Rattle.std.specs.Prelude.{ℕ, List}
use Rattle.csv.specs.Reading.{default_config, records, strip_bom}

-- The records of a file: those that csv's default dialect cuts from its bytes, after a byte order mark if
-- there is one.
abbrev pub records_of : List ℕ → List (List (List ℕ))
records_of bytes = records default_config (strip_bom bytes)

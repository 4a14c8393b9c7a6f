-- The lines that a pen writes, and its room. Own.
use Rattle.std.specs.Prelude.{ℕ, ◌+◌, ◌≤◌, List, length, map}
use Rattle.offer_model.specs.Roomy.{Roomy}
use Rattle.proof_lines.specs.declared.line.Line.{Line}
use Rattle.proof_lines.specs.Lines.{LineData, line, IsLine}

-- A line of the grammar, of at most as many numbers as a problem may have limits.
pub record IsWritable (l : Line) : Type 0 where
  pub line : IsLine l.shape l.numbers.items
  pub few : length l.numbers.items ≤ 1024

-- Lines as the grammar sees them.
abbrev pub line_data : Line → LineData
line_data l = line l.shape l.numbers.items

abbrev pub lines_data : List Line → List LineData
lines_data ls = map line_data ls

-- There is room for a branch's number, and for the text of each line.
pub record IsPen (numbers text : Roomy ℕ) : Type 0 where
  pub one : 1 ≤ numbers.spare + length numbers.items
  pub text_fits : 40000 ≤ text.spare + length text.items

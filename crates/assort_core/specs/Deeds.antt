-- What a command does, in one record: what it answers, the file that it writes, what its status 0 claims. Own.
use Rattle.std.specs.Prelude.{ℕ, List, [], Option, None}
use Rattle.assort_core.specs.Stages.{InputsData}

-- A status, what goes to standard output, and the line for standard error.
pub record Outcome : Type 0 where
  pub status : ℕ
  pub report : List ℕ
  pub line : List ℕ

-- The report is printed.
abbrev pub answer : ℕ → List ℕ → Outcome
answer status report = record { status = status; report = report; line = [] }

-- A line says why there is no report.
abbrev pub refusal : ℕ → List ℕ → Outcome
refusal status line = record { status = status; report = []; line = line }

-- A file that is written where it has a name, which texts it may hold over what was read, and the line that says that it
-- can't be written.
pub record Output : Type 1 where
  pub name : Option (List ℕ)
  pub IsText : InputsData → List ℕ → Type 0
  pub line : List ℕ

-- No file is written.
abbrev pub no_output : Output
no_output = record { name = None; IsText = λ i text. ⊥; line = [] }

-- What comes of a command over what was read, its output, and what a status of 0 claims.
pub record Deed : Type 1 where
  pub IsDone : InputsData → Outcome → Type 0
  pub output : Output
  pub IsClaimed : InputsData → Type 0

-- A desk and a worker's place as contracts see them. Own.
use Rattle.std.specs.Prelude.{◌≡◌, ℕ}
use Rattle.atomic_table.specs.Seated.{TableId}
use Rattle.shared_best.specs.declared.view.View.{View}

-- Which table a desk is, and the number of tasks that it was opened with.
pub record DeskData : Type 0 where
  pub table : TableId
  pub tasks : ℕ

-- Which table a place is of, and what it knows.
pub record PlaceData : Type 0 where
  pub table : TableId
  pub view : View

-- The place is one of the desk's.
abbrev pub BelongsTo : PlaceData → DeskData → Type 0
BelongsTo p d = (p.table ≡ d.table) × (p.view.tasks ≡ d.tasks)

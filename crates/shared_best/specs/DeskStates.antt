-- What holds of a desk's two numbers and of all views between any two steps, and what each step tells its place. Own.
use Rattle.std.specs.Prelude.{◌≡◌, ◌⊎◌, ℕ, ◌^◌, ◌<◌, ◌≤◌, List, length, slice_index, sum_by}
use mathlib.Core.Option.{some}
use lib.ListN.{get_elem?}
use Rattle.atomic_table.specs.Table.{State, Me, Step}
use Rattle.offer_model.specs.Assortments.{sum_below}
use Rattle.shared_best.specs.declared.view.View.{View}
use Rattle.shared_best.specs.Views.{spent_view, one_if_past, AllBelow, with_claim, with_seen, with_told}

abbrev pub EachView : (View → Type 0) → List View → Type 0
EachView P views = (k : ℕ) (v : View) → get_elem? views k ≡ some v → P v

-- The greatest number told is 0, or some place told it.
abbrev pub IsToldBy : ℕ → List View → Type 0
IsToldBy best views = (best ≡ 0) ⊎ ((k : ℕ) × (v : View) × (get_elem? views k ≡ some v) × (v.told ≡ best))

-- Of a desk with so many tasks: how many numbers were claimed, the greatest number told, and what the places know.
pub record IsDeskState (tasks claimed best : ℕ) (views : List View) : Type 0 where
  -- The claims of all places are the numbers below `claimed`, each once: however numbers are weighed, both weigh the same.
  pub claims : (h : ℕ → ℕ) → sum_by (λ v. sum_by h v.claims) views ≡ sum_below claimed h
  -- No place saw or told more than the greatest number told.
  pub reached : EachView (λ v. (v.seen ≤ best) × (v.told ≤ best)) views
  pub told : IsToldBy best views
  -- The shares make up the whole, and each place has some.
  pub shares : sum_by (λ v. v.share) views ≡ 2 ^ 32
  pub live : EachView (λ v. (v ≡ spent_view) ⊎ ((0 < v.share) × (v.tasks ≡ tasks))) views
  -- A place claimed at most as many numbers that are no task's as its share is.
  pub past : EachView (λ v. sum_by (one_if_past tasks) v.claims ≤ v.share) views
  pub few : tasks ≤ 256

-- A table of two words that is such a desk: the number of claims, and the greatest number told.
abbrev pub IsDesk : ℕ → State (Unit {0}) View → Type 0
IsDesk tasks s = (length s.words ≡ 2) × IsDeskState tasks (slice_index s.words 0) (slice_index s.words 1) s.views

-- What a place carries: its view, and no slots.
abbrev pub Carried : Type 0
Carried = Me (Unit {0}) View

-- ---- The steps: what is found, and what the place carries before and after.

abbrev pub Takes : Step (Unit {0}) → Carried → ℕ → Carried → Type 0
Takes s m found m' = (m' ≡ (with_claim m.0 found, m.1)) × AllBelow found m.0.claims

abbrev pub Looks : Step (Unit {0}) → Carried → ℕ → Carried → Type 0
Looks s m found m' = (m' ≡ (with_seen m.0 found, m.1)) × (m.0.seen ≤ found) × (m.0.told ≤ found)

abbrev pub Tells : Step (Unit {0}) → Carried → ℕ → Carried → Type 0
Tells s m found m' = (m' ≡ (with_told m.0 s.first, m.1)) × (m.0.seen ≤ found) × (m.0.told ≤ found)

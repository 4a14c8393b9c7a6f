-- Which product a branch is on. Own.
use Rattle.std.specs.Prelude.{◌≡◌, ◌≢◌, ℕ, ◌<◌, ◌⊎◌, List}
use Rattle.offer_model.specs.declared.node.Mark.{Mark}
use Rattle.offer_model.specs.declared.node.Mark.TheVariants.{Open}
use Rattle.offer_model.specs.Problems.{ProblemData, margin_of}
use Rattle.offer_model.specs.Nodes.{mark_at}

-- The first Open product in catalogue order.
pub record IsFirstOpen (node : List Mark) (i : ℕ) : Type 0 where
  pub open_mark : mark_at node i ≡ Open
  pub first : (j : ℕ) → j < i → mark_at node j ≢ Open

-- Product i has the greater margin, or the same one and an earlier place.
abbrev pub GoesFirst : ProblemData → ℕ → ℕ → Type 0
GoesFirst p i j = (margin_of p j < margin_of p i) ⊎ ((margin_of p j ≡ margin_of p i) × (i < j))

-- The first Open product by falling margin, then by place.
pub record IsDearestOpen (p : ProblemData) (node : List Mark) (i : ℕ) : Type 0 where
  pub open_mark : mark_at node i ≡ Open
  pub first : (j : ℕ) → mark_at node j ≡ Open → j ≢ i → GoesFirst p i j

-- The range of a goal's answers, within which workers can share them. Own.
use Rattle.std.specs.Prelude.{◌≡◌, ◌^◌, ℤ, pos, ◌≤ℤ◌, Bool, List, length}
use Rattle.offer_model.specs.declared.node.Mark.{Mark}
use Rattle.tree_search.specs.Goals.{Rules}

-- From 0 to 2^60.
abbrev pub IsSmall : ℤ → Type 0
IsSmall z = (pos 0 ≤ℤ z) × (z ≤ℤ pos (2 ^ 60))

-- Values and bounds are from 0 to 2^60, so that a number of 64 bits holds each of them.
pub record AnswersInRange (r : Rules) : Type 0 where
  pub values : (x : List Bool) → length x ≡ r.products → IsSmall (r.value x)
  pub bounds : (node : List Mark) → length node ≡ r.products → IsSmall (r.bound node)

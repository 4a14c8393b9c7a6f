-- The choice without limits. Own.
use Rattle.std.specs.Prelude.{◌≡◌, ℕ, ◌<◌, Bool, true, false, List, length, pos, negsuc}
use lib.IntN.{ℤ}
use Prim.Native.Nat.{zero, suc}
use Rattle.offer_model.specs.declared.node.Mark.{Mark}
use Rattle.offer_model.specs.declared.node.Mark.TheVariants.{In, Out, Open}
use Rattle.offer_model.specs.Assortments.{offers}
use Rattle.offer_model.specs.Problems.{ProblemData, product_count}
use Rattle.offer_model.specs.Nodes.{mark_at}

-- It is In, or Open with a price above 0.
abbrev pub takes : Mark → ℤ → Bool
takes In z = true
takes Out z = false
takes Open (pos zero) = false
takes Open (pos (suc n)) = true
takes Open (negsuc n) = false

-- The assortment offers what is In and what is Open with a price above 0.
pub record TakesAll (p : ProblemData) (node : List Mark) (price : ℕ → ℤ) (x : List Bool) : Type 0 where
  pub long : length x ≡ product_count p
  pub takes : (i : ℕ) → i < product_count p → offers x i ≡ takes (mark_at node i) (price i)

-- The bound of a node at prices, by the best chains of limited ladders. Own; the recursion is that of a longest path.
use Rattle.std.specs.Prelude.{◌≡◌, ℕ, ◌+◌, ◌<◌, ◌≤◌, ◌==◌, nat_lt, nat_le, ◌&&◌, ◌||◌, not, Bool, true, false, cond, List, length, pos, negsuc, ◌+ℤ◌, slice_index_or}
use lib.IntN.{ℤ}
use Prim.Native.Nat.{zero, suc}
use Rattle.std.specs.Int.{int_max}
use Rattle.std.specs.List.{All, Contains}
use Rattle.offer_model.specs.declared.node.Mark.{Mark}
use Rattle.offer_model.specs.declared.products.Product.{Product}
use Rattle.offer_model.specs.declared.products.Limit.{Limit}
use Rattle.offer_model.specs.declared.products.Limit.TheVariants.{Ladder}
use Rattle.offer_model.specs.Problems.{ProblemData, product_count, product_at, no_product}
use Rattle.offer_model.specs.Nodes.{mark_at, is_in, is_open}
use Rattle.offer_model.specs.Prices.{Prices, int_sum_below}
use Rattle.offer_model.specs.LeafBounds.{most_beside}
use Rattle.several_step.specs.declared.rungs.Rung.{Rung}

-- ---- Which products may stand together.

-- From a to b the grade rises and the price doesn't fall.
abbrev pub rises : Product → Product → Bool
rises a b = nat_lt a.grade b.grade && nat_le a.price b.price

-- They are one product, or on different ladders, or one rises to the other.
abbrev pub stands : Rung → Rung → Bool
stands a b = (a.at == b.at) || (not (a.product.ladder == b.product.ladder) || (rises a.product b.product || rises b.product a.product))

abbrev pub rung_at : List Rung → ℕ → Rung
rung_at rungs k = slice_index_or rungs k (record { at = 0; product = no_product })

-- The test holds for all numbers below n.
abbrev pub all_below : ℕ → (ℕ → Bool) → Bool
all_below zero test = true
all_below (suc n) test = all_below n test && test n

abbrev pub is_positive : ℤ → Bool
is_positive (pos zero) = false
is_positive (pos (suc n)) = true
is_positive (negsuc n) = false

-- The rung is Open, has a price above 0, and may stand beside each rung that is In.
abbrev pub is_usable : List Mark → (ℕ → ℤ) → List Rung → ℕ → Bool
is_usable node price rungs k =
    is_open (mark_at node (rung_at rungs k).at) && (is_positive (price (rung_at rungs k).at)
    && all_below (length rungs) (λ r. not (is_in (mark_at node (rung_at rungs r).at)) || stands (rung_at rungs r) (rung_at rungs k)))

-- ---- Chains.

-- The greatest sum of prices of usable rungs below k, one after the other, each of which may stand beside the next, and the
-- last of which passes a test.
abbrev pub best_chain : (ℕ → Bool) → (ℕ → ℕ → Bool) → (ℕ → ℤ) → ℕ → (ℕ → Bool) → ℤ
best_chain usable stand price zero test = pos 0
best_chain usable stand price (suc k) test = int_max (best_chain usable stand price k test)
    (cond (test k) (cond (usable k) (price k +ℤ best_chain usable stand price k (λ q. stand q k)) (pos 0)) (pos 0))

-- The same of these rungs at a node.
abbrev pub chain_of : List Mark → (ℕ → ℤ) → List Rung → ℕ → (ℕ → Bool) → ℤ
chain_of node price rungs = best_chain (is_usable node price rungs) (λ q r. stands (rung_at rungs q) (rung_at rungs r))
    (λ k. price (rung_at rungs k).at)

-- What a chain brings at most that ends with rung k.
abbrev pub ending_with : List Mark → (ℕ → ℤ) → List Rung → ℕ → ℤ
ending_with node price rungs k = cond (is_usable node price rungs k)
    (price (rung_at rungs k).at +ℤ chain_of node price rungs k (λ q. stands (rung_at rungs q) (rung_at rungs k))) (pos 0)

abbrev pub flag_at : List Bool → ℕ → Bool
flag_at flags i = slice_index_or flags i false

-- The constant, the prices of what is In, the positive prices of what is Open on no limited ladder, and the best chain.
abbrev pub chains_bound : ProblemData → List Mark → Prices → List Rung → List Bool → ℤ
chains_bound p node at rungs limited =
    (at.constant +ℤ int_sum_below (product_count p) (λ i. most_beside (mark_at node i) (flag_at limited i) (at.price i)))
    +ℤ chain_of node at.price rungs (length rungs) (λ q. true)

-- ---- The rungs of a problem.

-- The rung is a product of the problem on a ladder that has a limit.
pub record IsRung (p : ProblemData) (r : Rung) : Type 0 where
  pub inside : r.at < product_count p
  pub product : r.product ≡ product_at p r.at
  pub limited : Contains p.limits (Ladder r.product.ladder)

-- Of the products below n, each that is marked as limited is among the rungs, in whatever order.
pub record AreRungsBelow (p : ProblemData) (n : ℕ) (rungs : List Rung) (limited : List Bool) : Type 0 where
  pub few : length rungs ≤ n
  pub each : length limited ≡ n
  pub are : All (IsRung p) rungs
  pub listed : (i : ℕ) → flag_at limited i ≡ true → (r : Rung) × Contains rungs r × (r.at ≡ i)

abbrev pub AreRungs : ProblemData → List Rung → List Bool → Type 0
AreRungs p rungs limited = AreRungsBelow p (product_count p) rungs limited

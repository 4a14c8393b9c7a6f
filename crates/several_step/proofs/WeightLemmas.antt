-- Completions mark by mark, and how little an assortment can be worth.
use Rattle.std.proofs.Common.{◌≡◌, ℕ, zero, suc, ◌*◌, ◌^◌, ◌<◌, ◌≤◌, Bool, true, false, cond, List, arith}
use Rattle.std.specs.Prelude.{pos, ◌+ℤ◌, ◌≤ℤ◌}
use Rattle.std.proofs.lemmas.Int.{ints}
use lib.IntN.{ℤ}
use Rattle.offer_model.specs.declared.node.Mark.{Mark}
use Rattle.offer_model.specs.Assortments.{offers}
use Rattle.offer_model.specs.Problems.{ProblemData, product_count}
use Rattle.offer_model.specs.Nodes.{Agrees}
use Rattle.offer_model.specs.Prices.{Prices, int_sum_below, worth_of}
use Rattle.linear_weights.specs.Weights.{IsWithin}
use Rattle.tree_search.specs.Turns.{least}

-- What agrees with a mark agrees with an equal one.
pub agrees_at : (m k : Mark) (a b : Bool) → m ≡ k → a ≡ b → Agrees k b → Agrees m a
agrees_at m k a b e h f = rw (e, h) f

added_low : (b : Bool) (z : ℤ) → IsWithin (2 ^ 98) z → pos 0 ≤ℤ (cond b z (pos 0) +ℤ pos (2 ^ 98))
added_low true z w = let low = w.1 in omega (arith, ints)
added_low false z w = omega (arith, ints)

sum_low : (n : ℕ) (y : ℕ → Bool) (f : ℕ → ℤ) → ((i : ℕ) → i < n → IsWithin (2 ^ 98) (f i))
    → pos 0 ≤ℤ (int_sum_below n (λ i. cond (y i) (f i) (pos 0)) +ℤ pos (n * 2 ^ 98))
sum_low zero y f w = omega (arith, ints)
sum_low (suc n) y f w =
    let before = sum_low n y f (λ i l. w i (omega arith)) in
    let here = added_low (y n) (f n) (w n (omega arith)) in
    omega (arith, ints)

-- No assortment of at most 256 products is worth less than the least number of 128 bits.
pub worth_low : (p : ProblemData) (at : Prices) (x : List Bool) → product_count p ≤ 256 → IsWithin (2 ^ 106) at.constant
    → ((i : ℕ) → i < product_count p → IsWithin (2 ^ 98) (at.price i)) → least ≤ℤ worth_of p at x
worth_low p at x few s w =
    let low = sum_low (product_count p) (offers x) at.price w in
    let start = s.1 in
    omega (arith, ints)

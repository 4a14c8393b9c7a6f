-- The table over products and space bounds every completion that fits.
use Rattle.std.proofs.Common.{◌≡◌, ℕ, Bool, true, false, cond, List, [], ◌∷◌, arith, suc, zero, ◌≤◌, ◌-◌, ◌+◌, Some, None, Option, leb}
use Rattle.std.specs.Prelude.{pos, ◌+ℤ◌, ◌≤ℤ◌}
use Rattle.std.specs.List.{AllByRecursion}
use Rattle.std.proofs.lemmas.Int.{ints, clamps}
use Rattle.std.proofs.lemmas.Bool.Decides.{nat_tests}
use lib.IntN.{ℤ}
use Rattle.offer_model.specs.declared.node.Mark.{Mark}
use Rattle.offer_model.specs.declared.node.Mark.TheVariants.{In, Out, Open}
use Rattle.offer_model.specs.declared.products.Limit.{Limit}
use Rattle.offer_model.specs.declared.products.Limit.TheVariants.{Total, Category, Requires, Shelf, Ladder}
use Rattle.offer_model.specs.Assortments.{offers, sum_below}
use Rattle.offer_model.specs.Prices.{int_sum_below, Prices, worth_of}
use Rattle.offer_model.specs.Problems.{ProblemData, product_count, product_at}
use Rattle.offer_model.specs.Limits.{Meets, IsFeasible}
use Rattle.offer_model.specs.Nodes.{Agrees, Completes, mark_at, settled_node}
use Rattle.offer_model.specs.LeafBounds.{greater_of, raised_by, leaving_out, offering, best_in_space, shelf_space, bound_in_space, shelf_bound}
use Rattle.offer_model.proofs.CompletionLemmas.{Completes-agrees, settled_completes}
use Rattle.std.proofs.lemmas.List.Elements.{recursion_from_All}

-- There is a sum, and it is at least this.
abbrev pub Reaches : Option ℤ → ℤ → Type 0
Reaches None w = ⊥
Reaches (Some z) w = w ≤ℤ z

-- The greater of two sums reaches what the first does.
pub larger_left : (a b : Option ℤ) (w : ℤ) → Reaches a w → Reaches (greater_of a b) w
larger_left None b w h = absurd h
larger_left (Some a) None w h = h
larger_left (Some a) (Some b) w h = omega (arith, ints, clamps)

-- And what the second does.
pub larger_right : (a b : Option ℤ) (w : ℤ) → Reaches b w → Reaches (greater_of a b) w
larger_right None b w h = h
larger_right (Some a) None w h = absurd h
larger_right (Some a) (Some b) w h = omega (arith, ints, clamps)

-- A product that is left out changes no sum.
pub left_out : (m : Mark) (o : Option ℤ) (w : ℤ) → Agrees m false → Reaches o w → Reaches (leaving_out m o) (w +ℤ pos 0)
left_out In o w a h = cc
left_out Out None w a h = h
left_out Out (Some z) w a h = omega (arith, ints)
left_out Open None w a h = h
left_out Open (Some z) w a h = omega (arith, ints)

-- A product that fits adds its price.
pub put_in : (m : Mark) (fits : Bool) (price : ℤ) (o : Option ℤ) (w : ℤ) → Agrees m true → fits ≡ true → Reaches o w → Reaches (offering m fits (raised_by price o)) (w +ℤ price)
put_in Out fits price o w a f h = cc
put_in m fits price None w a f h = absurd h
put_in In true price (Some z) w a f h = omega (arith, ints)
put_in Open true price (Some z) w a f h = omega (arith, ints)
put_in m false price o w a f h = cc

-- One more product.
pub in_space_step : (p : ProblemData) (node : List Mark) (price : ℕ → ℤ) (k room used : ℕ) (w : ℤ) (b : Bool) → Agrees (mark_at node k) b
    → used + cond b (product_at p k).space 0 ≤ room
    → ((r : ℕ) → used ≤ r → Reaches (best_in_space p node price k r) w)
    → Reaches (best_in_space p node price (suc k) room) (w +ℤ cond b (price k) (pos 0))
in_space_step p node price k room used w true a fits rest =
    let test : leb (product_at p k).space room ≡ true = grind (arith, nat_tests) in
    larger_right _ _ _ (put_in (mark_at node k) (leb (product_at p k).space room) (price k) (best_in_space p node price k (room - (product_at p k).space)) w a test (rest (room - (product_at p k).space) (omega arith)))
in_space_step p node price k room used w false a fits rest =
    larger_left _ _ _ (left_out (mark_at node k) (best_in_space p node price k room) w a (rest room (omega arith)))

-- The table reaches what each completion that fits is worth.
pub in_space_reaches : (p : ProblemData) (node : List Mark) (price : ℕ → ℤ) (y : List Bool) → Completes node y → (k room : ℕ)
    → sum_below k (λ i. cond (offers y i) (product_at p i).space 0) ≤ room
    → Reaches (best_in_space p node price k room) (int_sum_below k (λ i. cond (offers y i) (price i) (pos 0)))
in_space_reaches p node price y c zero room fits = omega (arith, ints)
in_space_reaches p node price y c (suc k) room fits =
    in_space_step p node price k room (sum_below k (λ i. cond (offers y i) (product_at p i).space 0)) (int_sum_below k (λ i. cond (offers y i) (price i) (pos 0))) (offers y k)
    (Completes-agrees node y c k) fits (λ r l. in_space_reaches p node price y c k r l)

-- A constant raises both alike.
pub raised_holds : (a z w : ℤ) (o : Option ℤ) → Reaches o w → raised_by a o ≡ Some z → (a +ℤ w) ≤ℤ z
raised_holds a z w None h e = absurd h
raised_holds a z w (Some b) h e = let same : a +ℤ b ≡ z = cc in omega (arith, ints)

-- The bound by the first shelf holds of what meets the limits.
pub holds_in_space : (p : ProblemData) (marks : List Mark) (at : Prices) (y : List Bool) (limits : List Limit) → Completes marks y → AllByRecursion (Meets p y) limits
    → (z : ℤ) → bound_in_space p marks at (shelf_space limits) ≡ Some z → worth_of p at y ≤ℤ z
holds_in_space p marks at y [] c m z e = cc
holds_in_space p marks at y (Shelf space ∷ limits) c m z e =
    raised_holds at.constant z (int_sum_below (product_count p) (λ i. cond (offers y i) (at.price i) (pos 0))) (best_in_space p marks at.price (product_count p) space)
    (in_space_reaches p marks at.price y c (product_count p) space m.0) e
holds_in_space p marks at y (Total cap ∷ limits) c m z e = holds_in_space p marks at y limits c m.1 z e
holds_in_space p marks at y (Category k cap ∷ limits) c m z e = holds_in_space p marks at y limits c m.1 z e
holds_in_space p marks at y (Requires i j ∷ limits) c m z e = holds_in_space p marks at y limits c m.1 z e
holds_in_space p marks at y (Ladder l ∷ limits) c m z e = holds_in_space p marks at y limits c m.1 z e

-- The table's bound is at least what a feasible completion is worth.
pub shelf_holds : (p : ProblemData) (node : List Mark) (at : Prices) (y : List Bool) → Completes node y → IsFeasible p y
    → (z : ℤ) → shelf_bound p node at ≡ Some z → worth_of p at y ≤ℤ z
shelf_holds p node at y c f = holds_in_space p (settled_node p node) at y p.limits (settled_completes p node y f c) (recursion_from_All (Meets p y) p.limits f.1)

-- Which assortments the limits allow. Own, in the usual sense of each limit.
use Rattle.std.specs.Prelude.{◌≡◌, ◌≢◌, ℕ, ◌<◌, ◌≤◌, ◌==◌, Bool, cond, IsTrue, List, length, All}
use Rattle.offer_model.specs.declared.products.Product.{Product}
use Rattle.offer_model.specs.declared.products.Limit.{Limit}
use Rattle.offer_model.specs.declared.products.Limit.TheVariants.{Total, Category, Requires, Shelf, Ladder}
use Rattle.offer_model.specs.Assortments.{offers}
use Rattle.offer_model.specs.Problems.{ProblemData, product_count, product_at}
use Rattle.offer_model.specs.Revenue.{sum_offered}

-- Two products of a ladder may be offered together: their grades differ, and the higher grade has no lower price.
abbrev pub MayStand : Product → Product → Type 0
MayStand a b = (a.grade ≢ b.grade) × (a.grade < b.grade → a.price ≤ b.price)

-- Any two products of the ladder that are offered may stand together.
abbrev pub KeepsLadder : ProblemData → List Bool → ℕ → Type 0
KeepsLadder p x l = (i j : ℕ) → i < product_count p → j < product_count p → i ≢ j
    → IsTrue (offers x i) → IsTrue (offers x j) → (product_at p i).ladder ≡ l → (product_at p j).ladder ≡ l
    → MayStand (product_at p i) (product_at p j)

-- The assortment keeps to the limit.
abbrev pub Meets : ProblemData → List Bool → Limit → Type 0
Meets p x (Total cap) = sum_offered p x (λ i. 1) ≤ cap
Meets p x (Category c cap) = sum_offered p x (λ i. cond ((product_at p i).category == c) 1 0) ≤ cap
Meets p x (Requires a b) = IsTrue (offers x a) → IsTrue (offers x b)
Meets p x (Shelf space) = sum_offered p x (λ i. (product_at p i).space) ≤ space
Meets p x (Ladder l) = KeepsLadder p x l

-- One truth value for each product, and all limits met.
abbrev pub IsFeasible : ProblemData → List Bool → Type 0
IsFeasible p x = (length x ≡ product_count p) × All (Meets p x) p.limits

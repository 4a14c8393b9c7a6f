-- The products by falling margin, and which Open one of them is the dearest. Own.
use Rattle.std.specs.Prelude.{◌≡◌, ◌⊎◌, ℕ, ◌<◌, ◌≤◌, nat_lt, cond, ◌&&◌, Option, Some, None, List, [], ◌∷◌, ◌++◌, slice_index_or}
use Rattle.std.specs.List.{AllPairs}
use Rattle.std.specs.List.Sorted.{IsPermutation}
use Prim.Native.Nat.{zero, suc}
use Rattle.offer_model.specs.declared.node.Mark.{Mark}
use Rattle.offer_model.specs.Problems.{ProblemData, product_count, margin_of}
use Rattle.offer_model.specs.Nodes.{mark_at, is_open}
use Rattle.offer_model.specs.Branching.{IsDearestOpen}
use Rattle.tree_search.specs.Goals.{IsFull}
use Rattle.segment_bound.specs.declared.order.Ranked.{Ranked}

-- Product i with its margin.
abbrev pub ranked_at : ProblemData → ℕ → Ranked
ranked_at p i = record { margin = margin_of p i; product = i }

-- The first n products, in catalogue order.
abbrev pub ranked : ProblemData → ℕ → List Ranked
ranked p zero = []
ranked p (suc n) = ranked p n ++ ranked_at p n ∷ []

-- a may stand before b.
abbrev pub Precedes : Ranked → Ranked → Type 0
Precedes a b = (b.margin < a.margin) ⊎ ((b.margin ≡ a.margin) × (a.product ≤ b.product))

-- Each product of the problem once, by falling margin, then by place.
pub record IsOrder (p : ProblemData) (order : List Ranked) : Type 0 where
  pub all : IsPermutation (ranked p (product_count p)) order
  pub falling : AllPairs Precedes order

-- What is dearest among the products before n, and n: n where it is Open and of a greater margin.
abbrev pub dearer : ProblemData → List Mark → ℕ → Option ℕ → Option ℕ
dearer p node n None = cond (is_open (mark_at node n)) (Some n) None
dearer p node n (Some i) = cond (is_open (mark_at node n) && nat_lt (margin_of p i) (margin_of p n)) (Some n) (Some i)

-- The dearest Open product below n.
abbrev pub dearest_below : ProblemData → List Mark → ℕ → Option ℕ
dearest_below p node zero = None
dearest_below p node (suc n) = dearer p node n (dearest_below p node n)

-- The dearest Open product, the first of several, or none where nothing is Open.
abbrev pub dearest : ProblemData → List Mark → Option ℕ
dearest p node = dearest_below p node (product_count p)

-- The same as a property.
abbrev pub IsDearest : ProblemData → List Mark → Option ℕ → Type 0
IsDearest p node (Some i) = IsDearestOpen p node i
IsDearest p node None = IsFull node

-- The first product of the order that is Open.
abbrev pub first_in : List Mark → List Ranked → Option ℕ
first_in node [] = None
first_in node (q ∷ order) = cond (is_open (mark_at node q.product)) (Some q.product) (first_in node order)

-- What is of rank r.
abbrev pub listed_at : List Ranked → ℕ → Ranked
listed_at order r = slice_index_or order r (record { margin = 0; product = 0 })

-- The product of rank r.
abbrev pub listed_product : List Ranked → ℕ → ℕ
listed_product order r = (slice_index_or order r (record { margin = 0; product = 0 })).product

-- Caps, and where they stand among the limits. Own.
use Rattle.std.specs.Prelude.{◌≡◌, ℕ, ◌<◌, ◌==◌, ⊤, Bool, true, false, cond, List, length, Option, Some, None, slice_index_or}
use Rattle.offer_model.specs.declared.products.Limit.{Limit}
use Rattle.offer_model.specs.declared.products.Limit.TheVariants.{Total, Category, Requires, Shelf, Ladder}
use Rattle.offer_model.specs.Problems.{ProblemData, product_count, product_at}
use Rattle.limit_rules.specs.Kinds.{kind_of}
use Rattle.limit_rules.specs.declared.kind.Kind.TheVariants.{Caps}

abbrev pub limit_at : ProblemData → ℕ → Limit
limit_at p k = slice_index_or p.limits k (Ladder 0)

-- How many the cap allows.
abbrev pub cap_of : Limit → ℕ
cap_of (Total cap) = cap
cap_of (Category c cap) = cap
cap_of (Requires a b) = 0
cap_of (Shelf space) = 0
cap_of (Ladder l) = 0

-- What the cap counts of product i: 1 or nothing.
abbrev pub count_of : ProblemData → Limit → ℕ → ℕ
count_of p (Total cap) i = 1
count_of p (Category c cap) i = cond ((product_at p i).category == c) 1 0
count_of p (Requires a b) i = 0
count_of p (Shelf space) i = 0
count_of p (Ladder l) i = 0

-- It is the total cap.
abbrev pub is_total : Limit → Bool
is_total (Total cap) = true
is_total (Category c cap) = false
is_total (Requires a b) = false
is_total (Shelf space) = false
is_total (Ladder l) = false

-- It is the cap of product i's category.
abbrev pub is_of_category : ProblemData → Limit → ℕ → Bool
is_of_category p (Total cap) i = false
is_of_category p (Category c cap) i = (product_at p i).category == c
is_of_category p (Requires a b) i = false
is_of_category p (Shelf space) i = false
is_of_category p (Ladder l) i = false

-- The places of the caps among the limits: of the total cap, and for each product of its category's cap.
pub record PlacesData : Type 0 where
  pub total : Option ℕ
  pub category : List (Option ℕ)

abbrev pub category_place : PlacesData → ℕ → Option ℕ
category_place at i = slice_index_or at.category i None

abbrev pub is_place : Option ℕ → ℕ → Bool
is_place None k = false
is_place (Some a) k = k == a

-- The place, if there is one, is below n.
abbrev pub IsBelow : ℕ → Option ℕ → Type 0
IsBelow n None = ⊤
IsBelow n (Some a) = a < n

-- The places, as far as the first k limits tell them.
pub record ArePlacesBelow (p : ProblemData) (k : ℕ) (at : PlacesData) : Type 0 where
  pub each : length at.category ≡ product_count p
  pub total_is : (j : ℕ) → j < k → is_total (limit_at p j) ≡ is_place at.total j
  pub category_is : (i j : ℕ) → i < product_count p → j < k
      → is_of_category p (limit_at p j) i ≡ is_place (category_place at i) j
  pub total_in : IsBelow k at.total
  pub category_in : (i : ℕ) → i < product_count p → IsBelow k (category_place at i)

-- All limits are caps, and these are their places.
pub record AreCapPlaces (p : ProblemData) (at : PlacesData) : Type 0 where
  pub kind : kind_of p.limits ≡ Caps
  pub below : ArePlacesBelow p (length p.limits) at

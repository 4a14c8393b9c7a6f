-- Which products, segments, limits and problems there are: the ranges of their numbers, and what fits together. Own.
use Rattle.std.specs.Prelude.{◌≡◌, ◌≢◌, ℕ, ◌*◌, ◌≤◌, ◌<◌, Bool, true, false, length, All, AllPairs, sum_by, count_by}
use Rattle.offer_model.specs.declared.products.ModelName.{ModelName}
use Rattle.offer_model.specs.declared.products.ModelName.TheVariants.{Logit, Attract, Mixed, Chain}
use Rattle.offer_model.specs.declared.products.Product.{Product}
use Rattle.offer_model.specs.declared.products.Limit.{Limit}
use Rattle.offer_model.specs.declared.products.Limit.TheVariants.{Total, Category, Requires, Shelf, Ladder}
use Rattle.offer_model.specs.Problems.{SegmentData, ProblemData, product_count, product_at, attraction_of, shadow_of, first_segment}

-- A number from 1 to a thousand millions.
abbrev pub IsPositiveAmount : ℕ → Type 0
IsPositiveAmount n = (1 ≤ n) × (n ≤ 1000000000)

pub record IsProduct (a : Product) : Type 0 where
  pub margin : a.margin ≤ 1000000000
  pub space : a.space ≤ 1000
  pub price : a.price ≤ 1000000000
  pub grade : a.grade ≤ 1000

-- no shadow is above its attraction
pub record IsSegment (g : SegmentData) : Type 0 where
  pub size : IsPositiveAmount g.size
  pub none : IsPositiveAmount g.none
  pub each : length g.shadow ≡ length g.attract
  pub attraction : (i : ℕ) → attraction_of g i ≤ 1000000000
  pub shadow : (i : ℕ) → shadow_of g i ≤ attraction_of g i

-- the number of a limit is in its range
abbrev pub IsInRange : Limit → Type 0
IsInRange (Total cap) = cap ≤ 1000
IsInRange (Category c cap) = cap ≤ 1000
IsInRange (Requires a b) = Unit {0}
IsInRange (Shelf space) = space ≤ 1000
IsInRange (Ladder l) = Unit {0}

-- the products, the category or the ladder that a limit names are there
abbrev pub NamesExisting : ProblemData → Limit → Type 0
NamesExisting p (Total cap) = Unit {0}
NamesExisting p (Category c cap) = (1 ≤ c) × ((i : ℕ) × (i < product_count p) × ((product_at p i).category ≡ c))
NamesExisting p (Requires a b) = (a < product_count p) × (b < product_count p)
NamesExisting p (Shelf space) = Unit {0}
NamesExisting p (Ladder l) = (1 ≤ l) × ((i : ℕ) × (i < product_count p) × ((product_at p i).ladder ≡ l))

-- two limits have the same kind and name the same
abbrev pub Repeats : Limit → Limit → Type 0
Repeats (Total cap) (Total other) = Unit {0}
Repeats (Category c cap) (Category d other) = c ≡ d
Repeats (Requires a b) (Requires c d) = (a ≡ c) × (b ≡ d)
Repeats (Shelf space) (Shelf other) = Unit {0}
Repeats (Ladder l) (Ladder m) = l ≡ m
Repeats _ _ = ⊥

-- A cap on the number of products, of all or of a category.
abbrev pub is_cap : Limit → Bool
is_cap (Total cap) = true
is_cap (Category c cap) = true
is_cap (Requires a b) = false
is_cap (Shelf space) = false
is_cap (Ladder l) = false

abbrev pub is_requires : Limit → Bool
is_requires (Requires a b) = true
is_requires (Total cap) = false
is_requires (Category c cap) = false
is_requires (Shelf space) = false
is_requires (Ladder l) = false

abbrev pub is_shelf : Limit → Bool
is_shelf (Shelf space) = true
is_shelf (Total cap) = false
is_shelf (Category c cap) = false
is_shelf (Requires a b) = false
is_shelf (Ladder l) = false

abbrev pub is_ladder : Limit → Bool
is_ladder (Ladder l) = true
is_ladder (Total cap) = false
is_ladder (Category c cap) = false
is_ladder (Requires a b) = false
is_ladder (Shelf space) = false

-- revenue is one ratio: logit and generalised attraction
abbrev pub IsRatioModel : ModelName → Type 0
IsRatioModel Logit = Unit {0}
IsRatioModel Attract = Unit {0}
IsRatioModel Mixed = ⊥
IsRatioModel Chain = ⊥

-- shadows play no part: logit and mixed logit
abbrev pub IsPlainModel : ModelName → Type 0
IsPlainModel Logit = Unit {0}
IsPlainModel Attract = ⊥
IsPlainModel Mixed = Unit {0}
IsPlainModel Chain = ⊥

-- The limits may stand in the problem: not too many, in range, of products, categories and ladders that it has, and none
-- repeats an earlier one.
pub record HasLimits (p : ProblemData) : Type 0 where
  pub few : length p.limits ≤ 1024
  pub few_requires : count_by is_requires p.limits ≤ 512
  pub in_range : All IsInRange p.limits
  pub named : All (NamesExisting p) p.limits
  pub once : AllPairs (λ a b. Repeats a b → ⊥) p.limits

-- The numbers are in their ranges and fit together, as the model asks.
pub record IsProblem (p : ProblemData) : Type 0 where
  pub model : p.model ≢ Chain
  pub unit : IsPositiveAmount p.unit
  pub few : product_count p ≤ 256
  pub products : All IsProduct p.products
  pub few_segments : length p.segments ≤ 32
  pub segments : All IsSegment p.segments
  pub each : All (λ g. length g.attract ≡ product_count p) p.segments
  pub sizes : sum_by (λ g. g.size * p.unit) p.segments ≤ 1000000000
  pub limits : HasLimits p
  pub single : IsRatioModel p.model → (p.unit ≡ 1) × (length p.segments ≡ 1) × ((first_segment p).size ≡ 1)
  pub plain : IsPlainModel p.model → All (λ g. (i : ℕ) → shadow_of g i ≡ 0) p.segments

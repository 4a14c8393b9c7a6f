-- Worked values of the definitions, by computation.
use Rattle.std.specs.Prelude.{◌≡◌, ℕ, Bool, true, false, List, [], ◌∷◌, length, replicate}
use Rattle.offer_model.specs.declared.products.ModelName.TheVariants.{Logit, Attract, Mixed}
use Rattle.offer_model.specs.declared.products.Product.{Product}
use Rattle.offer_model.specs.declared.products.Limit.{Limit}
use Rattle.offer_model.specs.declared.products.Limit.TheVariants.{Total, Category, Requires, Shelf, Ladder}
use Rattle.offer_model.specs.Assortments.{IsBefore}
use Rattle.offer_model.specs.Problems.{SegmentData, ProblemData, first_segment}
use Rattle.offer_model.specs.Revenue.{gain_of, weight_of, chance_of, leave_of, value_of, EarnsMore}
use Rattle.offer_model.specs.Limits.{Meets}
use Rattle.offer_model.specs.Best.{IsBest}

abbrev pub plain_product : ℕ → Product
plain_product margin = record { margin = margin; category = 0; space = 0; price = 0; ladder = 0; grade = 0 }

-- one segment of size 1 without shadows
abbrev pub plain_segment : ℕ → List ℕ → SegmentData
plain_segment none attract = record { size = 1; none = none; attract = attract; shadow = replicate (length attract) 0 }

abbrev pub logit_of : List Product → SegmentData → List Limit → ProblemData
logit_of products segment limits = record { model = Logit; unit = 1; products = products; segments = segment ∷ []; limits = limits }

-- margins 10 and 4, attractions 2 and 3, buying nothing 5
abbrev pub two_products : ProblemData
two_products = logit_of (plain_product 10 ∷ plain_product 4 ∷ []) (plain_segment 5 (2 ∷ 3 ∷ [])) []

-- margins 10 and 5, attractions 2 and 7, buying nothing 2: the first alone and both together earn as much
abbrev pub a_tie : ProblemData
a_tie = logit_of (plain_product 10 ∷ plain_product 5 ∷ []) (plain_segment 2 (2 ∷ 7 ∷ [])) []

-- two equal products, of which at most one is offered
abbrev pub one_of_two : ProblemData
one_of_two = logit_of (plain_product 10 ∷ plain_product 10 ∷ []) (plain_segment 2 (2 ∷ 2 ∷ [])) (Total 1 ∷ [])

-- margins 10 and 6 under mixed logit, one segment of size 1 with attractions 1 and buying nothing 1
abbrev pub a_mixed : ProblemData
a_mixed = record {
  model = Mixed;
  unit = 1;
  products = plain_product 10 ∷ plain_product 6 ∷ [];
  segments = plain_segment 1 (1 ∷ 1 ∷ []) ∷ [];
  limits = [];
}

-- margins 10, 4 and 3, attractions 2, 3 and 10, the third with a shadow of 10
abbrev pub a_shadow : ProblemData
a_shadow = record {
  model = Attract;
  unit = 1;
  products = plain_product 10 ∷ plain_product 4 ∷ plain_product 3 ∷ [];
  segments = record { size = 1; none = 5; attract = 2 ∷ 3 ∷ 10 ∷ []; shadow = 0 ∷ 0 ∷ 10 ∷ [] } ∷ [];
  limits = [];
}

-- three products of category 1 and ladder 1: spaces 3, 2 and 2, grades 1, 1 and 2, prices 5, 8 and 6
abbrev pub three_kinds : ProblemData
three_kinds = logit_of
    (record { margin = 5; category = 1; space = 3; price = 5; ladder = 1; grade = 1 }
    ∷ record { margin = 8; category = 1; space = 2; price = 8; ladder = 1; grade = 1 }
    ∷ record { margin = 6; category = 0; space = 2; price = 6; ladder = 1; grade = 2 } ∷ [])
    (plain_segment 1 (1 ∷ 1 ∷ 1 ∷ [])) []

abbrev pub both : List Bool
both = true ∷ true ∷ []

abbrev pub only_first : List Bool
only_first = true ∷ false ∷ []

abbrev pub only_second : List Bool
only_second = false ∷ true ∷ []

abbrev pub first_and_third : List Bool
first_and_third = true ∷ false ∷ true ∷ []

abbrev pub last_two : List Bool
last_two = false ∷ true ∷ true ∷ []

-- 10 * 2 + 4 * 3, and 5 + 2 + 3
pub record RevenueIsWorked : Type 0 where
  pub gain : gain_of two_products (first_segment two_products) both ≡ 32
  pub weight : weight_of two_products (first_segment two_products) both ≡ 10
  pub shadow_stays : weight_of a_shadow (first_segment a_shadow) (true ∷ true ∷ false ∷ []) ≡ 20
  pub chance : chance_of two_products (first_segment two_products) only_second 1 ≡ record { num = 3; den = 8 }
  pub no_chance : chance_of two_products (first_segment two_products) only_second 0 ≡ record { num = 0; den = 8 }
  pub leave : leave_of a_shadow (first_segment a_shadow) (true ∷ true ∷ false ∷ []) ≡ record { num = 15; den = 20 }
  pub rounded : value_of a_mixed both ≡ 5
  pub more : EarnsMore two_products both only_first
  pub as_much : EarnsMore a_mixed both only_first → ⊥

-- the second product differs first
pub record OrderIsWorked : Type 0 where
  pub before : IsBefore only_first both
  pub not_after : IsBefore both only_first → ⊥
  pub later_of_equals : IsBefore only_second only_first
  pub not_itself : IsBefore both both → ⊥

-- each kind of limit, met and broken
pub record LimitsAreWorked : Type 0 where
  pub total : Meets three_kinds last_two (Total 2)
  pub over_total : Meets three_kinds last_two (Total 1) → ⊥
  pub category : Meets three_kinds last_two (Category 1 1)
  pub over_category : Meets three_kinds (true ∷ true ∷ false ∷ []) (Category 1 1) → ⊥
  pub requires_met : Meets three_kinds last_two (Requires 1 2)
  pub requires_broken : Meets three_kinds last_two (Requires 1 0) → ⊥
  pub shelf : Meets three_kinds last_two (Shelf 4)
  pub over_shelf : Meets three_kinds first_and_third (Shelf 4) → ⊥
  pub ladder : Meets three_kinds first_and_third (Ladder 1)
  pub price_falls : Meets three_kinds last_two (Ladder 1) → ⊥

-- both products; the first of two sets that earn as much; the later of two equal products
pub record BestIsWorked : Type 0 where
  pub all : IsBest two_products both
  pub tie : IsBest a_tie only_first
  pub capped : IsBest one_of_two only_second

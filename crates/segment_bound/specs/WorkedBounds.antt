-- Worked values of the bounds and of the goal, by computation.
use Rattle.std.specs.Prelude.{◌≡◌, true, Some, None, [], ◌∷◌}
use Rattle.offer_model.specs.declared.node.Mark.TheVariants.{In, Out, Open}
use Rattle.offer_model.specs.declared.products.ModelName.TheVariants.{Mixed}
use Rattle.offer_model.specs.declared.products.Limit.TheVariants.{Total, Category}
use Rattle.offer_model.specs.Problems.{ProblemData, segment_at}
use Rattle.offer_model.specs.Revenue.{segment_value, value_of}
use Rattle.offer_model.specs.WorkedValues.{plain_product, plain_segment}
use Rattle.segment_bound.specs.Greatest.{greatest}
use Rattle.segment_bound.specs.Orders.{dearest}
use Rattle.segment_bound.specs.MixedGoals.{greatest_sum}
use Rattle.segment_bound.specs.Tangents.{most_offered, tangent_bound, next_in}

-- margins 6 and 10; a segment of size 1 with attractions and nothing 1, and one of size 2 with attractions 2 and 0 and nothing 3
abbrev pub two_segments : ProblemData
two_segments = record {
  model = Mixed;
  unit = 1;
  products = plain_product 6 ∷ plain_product 10 ∷ [];
  segments = plain_segment 1 (1 ∷ 1 ∷ []) ∷ record { size = 2; none = 3; attract = 2 ∷ 0 ∷ []; shadow = 0 ∷ 0 ∷ [] } ∷ [];
  limits = [];
}

-- the same, both of category 1, of which one may be offered
abbrev pub one_category : ProblemData
one_category = record two_segments { products = record (plain_product 6) { category = 1 } ∷ record (plain_product 10) { category = 1 } ∷ []; limits = Category 1 1 ∷ [] }

-- three products of category 1, of which one may be offered, so two are left out; one of category 2, where a cap of 4 leaves out
-- none; one without a category
abbrev pub five_products : ProblemData
five_products = record two_segments {
  products = record (plain_product 6) { category = 1 } ∷ record (plain_product 6) { category = 1 } ∷ record (plain_product 6) { category = 2 } ∷ record (plain_product 6) { category = 1 } ∷ plain_product 6 ∷ [];
  limits = Category 1 1 ∷ Category 2 4 ∷ Total 4 ∷ [];
}

-- In 2 ^ 60ths, with one product at most: no weight is above 2 and 5, so that the tangent is 9 - 5 / 2 - 12 / 5 where nothing is
-- offered, 37 / 10 more with the first, and 5 / 2 more with the second. Without limits weights are 3 and 5 at most.
-- both bring 16 div 3 and 24 div 5; the second alone 10 div 2 and 0, the first alone 6 div 2 and 24 div 5
-- a node is divided by the first Open product of the order, and by the dearest one where the order has none
pub record BoundsAreWorked : Type 0 where
  pub both : value_of two_segments (true ∷ true ∷ []) ≡ 9
  pub first : greatest (segment_value two_segments (segment_at two_segments 0)) (Open ∷ Open ∷ []) ≡ 5
  pub second : greatest (segment_value two_segments (segment_at two_segments 1)) (Open ∷ Open ∷ []) ≡ 4
  pub first_out : greatest_sum two_segments (Out ∷ Open ∷ []) ≡ 5
  pub second_out : greatest_sum two_segments (Open ∷ Out ∷ []) ≡ 7
  pub second_in : greatest_sum two_segments (Open ∷ In ∷ []) ≡ 9
  pub dearest_open : dearest two_segments (Open ∷ Open ∷ []) ≡ Some 1
  pub next_dearest : dearest two_segments (Open ∷ In ∷ []) ≡ Some 0
  pub nothing_open : dearest two_segments (Out ∷ In ∷ []) ≡ None
  pub both_open : tangent_bound two_segments (Open ∷ Open ∷ []) ≡ 10
  pub one_of_two : tangent_bound (record two_segments { limits = Total 1 ∷ [] }) (Open ∷ Open ∷ []) ≡ 7
  pub one_of_category : tangent_bound one_category (Open ∷ Open ∷ []) ≡ 7
  pub three_of_five : most_offered five_products ≡ 3
  pub none_left : tangent_bound (record two_segments { limits = Total 1 ∷ [] }) (Open ∷ In ∷ []) ≡ 5
  pub first_of_order : next_in two_segments (Open ∷ Open ∷ []) (0 ∷ 1 ∷ []) ≡ Some 0
  pub next_of_order : next_in two_segments (In ∷ Open ∷ []) (0 ∷ 1 ∷ []) ≡ Some 1
  pub none_of_order : next_in two_segments (Open ∷ Open ∷ []) [] ≡ Some 1

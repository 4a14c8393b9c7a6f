-- A problem, as plain lists and numbers.
use Rattle.std.specs.Prelude.{ℕ, List, [], length, slice_index, slice_index_or}
use Rattle.offer_model.specs.declared.products.ModelName.{ModelName}
use Rattle.offer_model.specs.declared.products.Product.{Product}
use Rattle.offer_model.specs.declared.products.Limit.{Limit}

-- A segment of customers: its size, the weight of buying nothing, and by product the attraction and the
-- shadow attraction. Gallego and Topaloglu (2019), choice modelling: generalised attraction, and mixtures of logits.
pub record SegmentData : Type 0 where
  pub size : ℕ
  pub none : ℕ
  pub attract : List ℕ
  pub shadow : List ℕ

-- A problem. Under logit and generalised attraction there is one segment, of size 1.
pub record ProblemData : Type 0 where
  pub model : ModelName
  pub unit : ℕ
  pub products : List Product
  pub segments : List SegmentData
  pub limits : List Limit

-- The number of products.
abbrev pub product_count : ProblemData → ℕ
product_count p = length p.products

-- A product that brings nothing and is in no category and on no ladder.
abbrev pub no_product : Product
no_product = record { margin = 0; category = 0; space = 0; price = 0; ladder = 0; grade = 0 }

abbrev pub product_at : ProblemData → ℕ → Product
product_at p i = slice_index_or p.products i no_product

abbrev pub margin_of : ProblemData → ℕ → ℕ
margin_of p i = (product_at p i).margin

abbrev pub attraction_of : SegmentData → ℕ → ℕ
attraction_of g i = slice_index g.attract i

abbrev pub shadow_of : SegmentData → ℕ → ℕ
shadow_of g i = slice_index g.shadow i

abbrev pub segment_at : ProblemData → ℕ → SegmentData
segment_at p k = slice_index_or p.segments k (record { size = 0; none = 0; attract = []; shadow = [] })

-- The only segment, but under mixed logit.
abbrev pub first_segment : ProblemData → SegmentData
first_segment p = segment_at p 0

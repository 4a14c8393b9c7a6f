-- Small certificates, accepted and rejected. Each catalogue names its products' margins and attractions in order.
use Rattle.std.specs.Prelude.{ℕ, List, [], ◌∷◌, ◌++◌, codes}
use Rattle.offer_model.specs.declared.products.ModelName.{ModelName}
use Rattle.offer_model.specs.declared.products.ModelName.TheVariants.{Logit, Mixed}
use Rattle.offer_model.specs.declared.products.Product.{Product}
use Rattle.offer_model.specs.declared.products.Limit.{Limit}
use Rattle.offer_model.specs.declared.products.Limit.TheVariants.{Total, Requires, Shelf, Ladder}
use Rattle.offer_model.specs.Problems.{ProblemData}
use Rattle.offer_model.specs.Chains.{ChainData}
use Rattle.proof_lines.specs.Acceptance.{Accepts, AcceptsChain}

-- Texts of lines, each with a line feed after it.
abbrev pub joined : List (List ℕ) → List ℕ
joined [] = []
joined (text ∷ texts) = text ++ 10 ∷ joined texts

abbrev pub plain : ℕ → Product
plain margin = record { margin = margin; category = 0; space = 0; price = 0; ladder = 0; grade = 0 }

-- One segment, in which buying nothing has this weight.
abbrev pub catalogue : ModelName → ℕ → List Product → List ℕ → List Limit → ProblemData
catalogue model none products attract limits = record {
  model = model;
  unit = 1;
  products = products;
  segments = record { size = 1; none = none; attract = attract; shadow = [] } ∷ [];
  limits = limits;
}

-- ---- Two products without limits: margin 10 and attraction 2, and margin 4 and attraction 3; buying nothing weighs 5.

abbrev pub free_pair : ProblemData
free_pair = catalogue Logit 5 (plain 10 ∷ plain 4 ∷ []) (2 ∷ 3 ∷ []) []

abbrev pub free_header : List (List ℕ)
free_header = codes "assort-proof 1" ∷ codes "model logit" ∷ codes "set 11" ∷ codes "value 32/10"
    ∷ codes "b 0" ∷ codes "b 1" ∷ codes "m" ∷ codes "m" ∷ []

abbrev pub FreePair : Type 0
FreePair = Accepts free_pair (joined (free_header ++ codes "m" ∷ codes "end" ∷ []))

-- The last leaf is missing; its number has a leading zero; the end is missing.
abbrev pub FreePairBroken : Type 0
FreePairBroken = ¬ Accepts free_pair (joined (free_header ++ codes "end" ∷ []))
    × ¬ Accepts free_pair (joined (free_header ++ codes "m 01" ∷ codes "end" ∷ []))
    × ¬ Accepts free_pair (joined (free_header ++ codes "m" ∷ []))

-- ---- Two equal products of which one may be offered.

abbrev pub capped_pair : ProblemData
capped_pair = catalogue Logit 2 (plain 10 ∷ plain 10 ∷ []) (2 ∷ 2 ∷ []) (Total 1 ∷ [])

abbrev pub capped_text : List ℕ → List ℕ
capped_text leaf = joined (codes "assort-proof 1" ∷ codes "model logit" ∷ codes "set 01" ∷ codes "value 20/4"
    ∷ codes "b 0" ∷ leaf ∷ codes "b 1" ∷ codes "m 0" ∷ codes "m 0" ∷ codes "end" ∷ [])

-- With the multiplier 40 the first leaf's bound is 0, with 39 it is 1.
abbrev pub CappedPair : Type 0
CappedPair = Accepts capped_pair (capped_text (codes "m 40")) × ¬ Accepts capped_pair (capped_text (codes "m 39"))

-- ---- Three products of which the first requires the second and the second the third.

abbrev pub required_chain : ProblemData
required_chain = catalogue Logit 2 (plain 10 ∷ plain 0 ∷ plain 0 ∷ []) (1 ∷ 1 ∷ 1 ∷ []) (Requires 0 1 ∷ Requires 1 2 ∷ [])

abbrev pub required_text : List ℕ → List ℕ
required_text leaf = joined (codes "assort-proof 1" ∷ codes "model logit" ∷ codes "set 111" ∷ codes "value 10/5"
    ∷ codes "b 0" ∷ codes "b 2" ∷ codes "b 1" ∷ codes "m 0 0" ∷ codes "x" ∷ leaf ∷ codes "m 0 0" ∷ codes "end" ∷ [])

-- With the multipliers 20 the leaf's bound is 0, and its node has a completion that comes before.
abbrev pub RequiredChain : Type 0
RequiredChain = Accepts required_chain (required_text (codes "m 21 21")) × ¬ Accepts required_chain (required_text (codes "m 20 20"))

-- ---- Mixed logit, with two products in one segment.

abbrev pub mixed_pair : ProblemData
mixed_pair = catalogue Mixed 1 (plain 10 ∷ plain 6 ∷ []) (1 ∷ 1 ∷ []) []

abbrev pub MixedPair : Type 0
MixedPair = Accepts mixed_pair (joined (codes "assort-proof 1" ∷ codes "model mixed" ∷ codes "set 10" ∷ codes "value 5"
    ∷ codes "b 0" ∷ codes "s 5" ∷ codes "s 3" ∷ codes "end" ∷ []))

-- ---- Products of space 3, 2 and 2 on a shelf of 4.

abbrev pub spaced_by : ℕ → ℕ → Product
spaced_by margin space = record { margin = margin; category = 0; space = space; price = 0; ladder = 0; grade = 0 }

abbrev pub shelf_of_three : ProblemData
shelf_of_three = catalogue Logit 4 (spaced_by 10 3 ∷ spaced_by 8 2 ∷ spaced_by 8 2 ∷ []) (2 ∷ 2 ∷ 2 ∷ []) (Shelf 4 ∷ [])

abbrev pub ShelfOfThree : Type 0
ShelfOfThree = Accepts shelf_of_three (joined (codes "assort-proof 1" ∷ codes "model logit" ∷ codes "set 011" ∷ codes "value 32/8"
    ∷ codes "b 0" ∷ codes "t" ∷ codes "b 1" ∷ codes "b 2" ∷ codes "t" ∷ codes "t" ∷ codes "t" ∷ codes "end" ∷ []))

-- ---- A price ladder: grades 1, 1 and 2, each product's price is its margin.

abbrev pub on_ladder : ℕ → ℕ → Product
on_ladder margin grade = record { margin = margin; category = 0; space = 0; price = margin; ladder = 1; grade = grade }

abbrev pub ladder_of_three : ProblemData
ladder_of_three = catalogue Logit 1 (on_ladder 5 1 ∷ on_ladder 8 1 ∷ on_ladder 6 2 ∷ []) (1 ∷ 1 ∷ 1 ∷ []) (Ladder 1 ∷ [])

abbrev pub ladder_text : List ℕ → List ℕ
ladder_text leaf = joined (codes "assort-proof 1" ∷ codes "model logit" ∷ codes "set 010" ∷ codes "value 8/2"
    ∷ codes "b 0" ∷ leaf ∷ codes "b 1" ∷ codes "p 0 0 0" ∷ codes "p 0 0 4" ∷ codes "end" ∷ [])

-- The third product's weight is 4.
abbrev pub LadderOfThree : Type 0
LadderOfThree = Accepts ladder_of_three (ladder_text (codes "p 0 0 4")) × ¬ Accepts ladder_of_three (ladder_text (codes "p 0 0 3"))

-- ---- A chain of three products: margins 10, 0 and 0, all customers arrive at the second, and of three parts one moves
-- from the second to the third and one from there to the first.

abbrev pub walk_of_three : ChainData
walk_of_three = record {
  scale = 3;
  away = 0;
  margins = 10 ∷ 0 ∷ 0 ∷ [];
  arrivals = 0 ∷ 1 ∷ 0 ∷ [];
  arcs = record { from = 1; to = 2; parts = 1 } ∷ record { from = 2; to = 0; parts = 1 } ∷ [];
}

abbrev pub walk_text : List ℕ → List ℕ → List ℕ
walk_text value upper = joined (codes "assort-proof 1" ∷ codes "model chain" ∷ codes "set 100" ∷ value ∷ upper
    ∷ codes "h 10000000 1111111 3333333" ∷ codes "end" ∷ [])

-- Three times 1111111 is below 3333334.
abbrev pub WalkOfThree : Type 0
WalkOfThree = AcceptsChain walk_of_three (walk_text (codes "value 1111111 1111112") (codes "u 10000000 1111112 3333334"))
    × ¬ AcceptsChain walk_of_three (walk_text (codes "value 1111111 1111111") (codes "u 10000000 1111111 3333334"))

-- ---- All of them.

pub record WorkedProofs : Type 0 where
  pub free_pair : FreePair
  pub free_pair_broken : FreePairBroken
  pub capped_pair : CappedPair
  pub required_chain : RequiredChain
  pub mixed_pair : MixedPair
  pub shelf_of_three : ShelfOfThree
  pub ladder_of_three : LadderOfThree
  pub walk_of_three : WalkOfThree

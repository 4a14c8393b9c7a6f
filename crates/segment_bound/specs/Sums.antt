-- Gain and weight of a segment: of what is In, and with the Open products whose margin is above their ratio. Own.
use Rattle.std.specs.Prelude.{◌≡◌, ℕ, ◌+◌, ◌*◌, nat_lt, Bool, cond, ◌&&◌, List, sum_by}
use Rattle.offer_model.specs.declared.node.Mark.{Mark}
use Rattle.offer_model.specs.Problems.{SegmentData, attraction_of}
use Rattle.offer_model.specs.Nodes.{mark_at, is_in, is_open}
use Rattle.segment_bound.specs.declared.order.Ranked.{Ranked}
use Rattle.segment_bound.specs.declared.sums.Sums.{Sums}

-- The gain of the products of the order that are In.
abbrev pub gain_in : List Ranked → SegmentData → List Mark → ℕ
gain_in order g node = sum_by (λ q. cond (is_in (mark_at node q.product)) (q.margin * attraction_of g q.product) 0) order

-- Their weight, with that of buying nothing.
abbrev pub weight_in : List Ranked → SegmentData → List Mark → ℕ
weight_in order g node = g.none + sum_by (λ q. cond (is_in (mark_at node q.product)) (attraction_of g q.product) 0) order

-- The sums are those of what is In.
pub record AreSums (order : List Ranked) (g : SegmentData) (node : List Mark) (s : Sums) : Type 0 where
  pub gain : s.gain ≡ gain_in order g node
  pub weight : s.weight ≡ weight_in order g node

-- The product is Open, and its margin is above the ratio of the sums.
abbrev pub is_above : List Mark → Sums → Ranked → Bool
is_above node s q = is_open (mark_at node q.product) && nat_lt s.gain (q.margin * s.weight)

-- What is reached is the start with exactly the Open products whose margin is above the ratio that is reached.
pub record IsReached (order : List Ranked) (g : SegmentData) (node : List Mark) (start reached : Sums) : Type 0 where
  pub gain : reached.gain ≡ start.gain + sum_by (λ q. cond (is_above node reached q) (q.margin * attraction_of g q.product) 0) order
  pub weight : reached.weight ≡ start.weight + sum_by (λ q. cond (is_above node reached q) (attraction_of g q.product) 0) order

abbrev pub with_product : Ranked → ℕ → Sums → Sums
with_product q attraction s = record { gain = s.gain + q.margin * attraction; weight = s.weight + attraction }

-- The sums with the product where it is taken, else the same.
abbrev pub taken_if : Bool → Ranked → ℕ → Sums → Sums
taken_if taken q attraction s = cond taken (with_product q attraction s) s

-- The product, which was among what is summed or wasn't, now is or isn't.
pub record IsMoved (was now_is : Bool) (q : Ranked) (attraction : ℕ) (s t : Sums) : Type 0 where
  pub gain : t.gain + cond was (q.margin * attraction) 0 ≡ s.gain + cond now_is (q.margin * attraction) 0
  pub weight : t.weight + cond was attraction 0 ≡ s.weight + cond now_is attraction 0

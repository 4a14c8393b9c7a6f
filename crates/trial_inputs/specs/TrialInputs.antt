-- The problem that a seed and a count give: each number is taken from the next word of SplitMix64 (Steele, Lea and Flood). Own.
use Rattle.std.specs.Prelude.{ℕ, zero, suc, ◌+◌, ◌*◌, ◌/◌, ◌%◌, min, List, [], ◌∷◌, map, replicate}
use Rattle.std.specs.List.{range_with_len}
use Rattle.rand_xoshiro.specs.SplitMix64.{mix_u64}
use Rattle.offer_model.specs.declared.products.ModelName.TheVariants.{Mixed}
use Rattle.offer_model.specs.declared.products.Product.{Product}
use Rattle.offer_model.specs.declared.products.Limit.TheVariants.{Total}
use Rattle.offer_model.specs.Problems.{SegmentData, ProblemData}

-- The generator's state once so many words are drawn; at first it is the seed.
unfoldable pub state_at : ℕ → ℕ → ℕ
state_at seed zero = seed
state_at seed (suc k) = (mix_u64 (state_at seed k)).1

-- The word at a place, counted from 0.
unfoldable pub word_at : ℕ → ℕ → ℕ
word_at seed k = (mix_u64 (state_at seed k)).0

-- The first words give the margins, one each, from 1 to 1000.
abbrev pub trial_margins : ℕ → ℕ → List ℕ
trial_margins seed count = map (λ i. 1 + word_at seed i % 1000) (range_with_len 0 count)

-- A product of which all but the margin is at its default.
abbrev pub trial_product : ℕ → Product
trial_product margin = record { margin = margin; category = 0; space = 0; price = 0; ladder = 0; grade = 0 }

-- The segment whose words begin at a place: one word gives the size, from 1 to 10, and the weight of buying nothing, from 50
-- to 149; then each product's word gives its attraction, from 0 to 99. There are no shadows.
abbrev pub segment_from : ℕ → ℕ → ℕ → SegmentData
segment_from seed count at = record {
  size = 1 + word_at seed at % 10;
  none = 50 + word_at seed at / 10 % 100;
  attract = map (λ i. word_at seed (at + 1 + i) % 100) (range_with_len 0 count);
  shadow = replicate count 0;
}

-- How many segments there are.
abbrev pub segment_count : ℕ → ℕ
segment_count count = min (count + 1) 4

-- The segments take their words in turn, after the margins.
abbrev pub trial_segments : ℕ → ℕ → List SegmentData
trial_segments seed count = map (λ g. segment_from seed count (count + g * (count + 1))) (range_with_len 0 (segment_count count))

-- Mixed logit in units of 100; at most a third of the products, rounded down, and one more.
abbrev pub trial_problem : ℕ → ℕ → ProblemData
trial_problem seed count = record {
  model = Mixed;
  unit = 100;
  products = map trial_product (trial_margins seed count);
  segments = trial_segments seed count;
  limits = Total (count / 3 + 1) ∷ [];
}

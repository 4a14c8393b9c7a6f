-- What an assortment earns. Gallego and Topaloglu (2019), Revenue Management and Pricing Analytics: multinomial logit,
-- generalised attraction and mixtures of logits; the rounding of mixed revenue is our own.
use Rattle.std.specs.Prelude.{ℕ, ◌+◌, ◌*◌, ◌/◌, ◌<◌, Bool, cond, List, length}
use Rattle.offer_model.specs.declared.products.ModelName.{ModelName}
use Rattle.offer_model.specs.declared.products.ModelName.TheVariants.{Logit, Attract, Mixed, Chain}
use Rattle.offer_model.specs.declared.products.Fraction.{Fraction}
use Rattle.offer_model.specs.Assortments.{offers, sum_below}
use Rattle.offer_model.specs.Problems.{SegmentData, ProblemData, product_count, margin_of, attraction_of, shadow_of, segment_at, first_segment}

-- The sum of f over what is offered.
abbrev pub sum_offered : ProblemData → List Bool → (ℕ → ℕ) → ℕ
sum_offered p x f = sum_below (product_count p) (λ i. cond (offers x i) (f i) 0)

-- The sum of f over what isn't.
abbrev pub sum_left_out : ProblemData → List Bool → (ℕ → ℕ) → ℕ
sum_left_out p x f = sum_below (product_count p) (λ i. cond (offers x i) 0 (f i))

-- Margin times attraction, over what is offered. It is the segment's expected revenue times the weight.
abbrev pub gain_of : ProblemData → SegmentData → List Bool → ℕ
gain_of p g x = sum_offered p x (λ i. margin_of p i * attraction_of g i)

-- The weight of all choices: buying nothing, the attractions of what is offered, the shadows of what isn't.
abbrev pub weight_of : ProblemData → SegmentData → List Bool → ℕ
weight_of p g x = g.none + sum_below (product_count p) (λ i. cond (offers x i) (attraction_of g i) (shadow_of g i))

-- Gain and weight in the only segment.
abbrev pub own_gain : ProblemData → List Bool → ℕ
own_gain p x = gain_of p (first_segment p) x

abbrev pub own_weight : ProblemData → List Bool → ℕ
own_weight p x = weight_of p (first_segment p) x

-- What the assortment earns: gain over weight.
abbrev pub revenue_of : ProblemData → List Bool → Fraction
revenue_of p x = record { num = own_gain p x; den = own_weight p x }

-- The chance that a customer of the segment buys product i.
abbrev pub chance_of : ProblemData → SegmentData → List Bool → ℕ → Fraction
chance_of p g x i = record { num = cond (offers x i) (attraction_of g i) 0; den = weight_of p g x }

-- The chance that he buys nothing.
abbrev pub leave_of : ProblemData → SegmentData → List Bool → Fraction
leave_of p g x = record { num = g.none + sum_left_out p x (shadow_of g); den = weight_of p g x }

-- Under mixed logit: the segment's revenue, rounded down to the unit.
abbrev pub segment_value : ProblemData → SegmentData → List Bool → ℕ
segment_value p g x = g.size * p.unit * gain_of p g x / weight_of p g x

-- Under mixed logit: the revenue of all segments.
abbrev pub value_of : ProblemData → List Bool → ℕ
value_of p x = sum_below (length p.segments) (λ k. segment_value p (segment_at p k) x)

-- x's gain over its weight is greater than y's.
abbrev pub EarnsMoreByRatio : ProblemData → List Bool → List Bool → Type 0
EarnsMoreByRatio p x y =
    gain_of p (first_segment p) y * weight_of p (first_segment p) x < gain_of p (first_segment p) x * weight_of p (first_segment p) y

abbrev pub EarnsMoreUnder : ModelName → ProblemData → List Bool → List Bool → Type 0
EarnsMoreUnder Logit p x y = EarnsMoreByRatio p x y
EarnsMoreUnder Attract p x y = EarnsMoreByRatio p x y
EarnsMoreUnder Mixed p x y = value_of p y < value_of p x
EarnsMoreUnder Chain p x y = ⊥

-- x earns more than y.
abbrev pub EarnsMore : ProblemData → List Bool → List Bool → Type 0
EarnsMore p x y = EarnsMoreUnder p.model p x y

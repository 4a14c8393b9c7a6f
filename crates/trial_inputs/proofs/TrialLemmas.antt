-- Trial problems meet the conditions of problems.
use Rattle.std.proofs.Common.{◌≡◌, ℕ, ◌+◌, ◌*◌, ◌/◌, ◌%◌, ◌≤◌, List, [], ◌∷◌, length, map, refl, ap, sym, ◌∙◌, arith}
use Rattle.std.specs.List.{All, range_with_len}
use Rattle.std.proofs.lemmas.Nat.{mod_below, div_below}
use Rattle.std.proofs.lemmas.List.{length-map}
use Rattle.std.proofs.lemmas.List.Elements.{All-map, All-cons, All-nil}
use Rattle.std.proofs.lemmas.List.FromFn.{length-map-range_with_len}
use Rattle.std.proofs.lemmas.List.Sums.{sum_by-le}
use Rattle.offer_model.specs.declared.products.ModelName.TheVariants.{Mixed}
use Rattle.offer_model.specs.declared.products.Product.{Product}
use Rattle.offer_model.specs.declared.products.Limit.{Limit}
use Rattle.offer_model.specs.declared.products.Limit.TheVariants.{Total}
use Rattle.offer_model.specs.Problems.{SegmentData, ProblemData, product_count, shadow_of}
use Rattle.offer_model.specs.Validity.{IsProduct, IsSegment, IsProblem, HasLimits, IsInRange, NamesExisting}
use Rattle.trial_inputs.specs.TrialInputs.{state_at, word_at, trial_margins, trial_product, segment_from, segment_count, trial_segments, trial_problem}
use Rattle.trial_inputs.proofs.ListedLemmas.{map-agree, zero_everywhere}
use Rattle.trial_inputs.proofs.SegmentLemmas.{segment_from-later, segment_valid, size_most}

-- Segments drawn once the margins are.
pub segments_drawn : (seed t count : ℕ) (gs : List SegmentData) → t ≡ state_at seed count
    → gs ≡ map (λ g. segment_from t count (g * (count + 1))) (range_with_len 0 (segment_count count)) → gs ≡ trial_segments seed count
segments_drawn seed t count gs at drawn = drawn
    ∙ map-agree (λ g. segment_from t count (g * (count + 1))) (λ g. segment_from seed count (count + g * (count + 1)))
    (λ g. ap (λ u. segment_from u count (g * (count + 1))) at ∙ segment_from-later seed count (g * (count + 1)) count) (range_with_len 0 (segment_count count))

-- A problem by its lists.
abbrev pub problem_by : List Product → List SegmentData → List Limit → ProblemData
problem_by products segments limits = record { model = Mixed; unit = 100; products = products; segments = segments; limits = limits }

-- What is drawn for a problem: the margins, then the segments.
pub problem_drawn : (seed r t count : ℕ) (margins : List ℕ) (products : List Product) (segments : List SegmentData) (limits : List Limit) → r ≡ seed
    → margins ≡ trial_margins r count → t ≡ state_at r count → products ≡ map trial_product margins
    → segments ≡ map (λ g. segment_from t count (g * (count + 1))) (range_with_len 0 (segment_count count)) → limits ≡ Total (count / 3 + 1) ∷ []
    → problem_by products segments limits ≡ trial_problem seed count
problem_drawn seed r t count margins products segments limits begins drawn at made groups cap =
    let margins_are = drawn ∙ ap (λ s. trial_margins s count) begins in
    let products_are = made ∙ ap (map trial_product) margins_are in
    let segments_are = segments_drawn seed t count segments (at ∙ ap (λ s. state_at s count) begins) groups in
    rw (products_are, segments_are, cap) refl

-- A margin from a word is in its range, and all else of the product is 0.
product_valid : (w : ℕ) → IsProduct (trial_product (1 + w % 1000))
product_valid w =
    let below = mod_below w 1000 (omega arith) in
    record { margin = omega (arith, below); space = omega arith; price = omega arith; grade = omega arith }

-- What holds of the segment at every place holds of each.
each_segment : (P : SegmentData → Type 0) (seed count : ℕ) → ((at : ℕ) → P (segment_from seed count at)) → All P (trial_segments seed count)
each_segment P seed count holds = All-map P (λ g. segment_from seed count (count + g * (count + 1))) (range_with_len 0 (segment_count count))
    (λ k d inside. holds _)

-- As many products as asked for.
pub product_count-trial : (seed count : ℕ) → product_count (trial_problem seed count) ≡ count
product_count-trial seed count =
    length-map (trial_margins seed count) trial_product ∙ length-map-range_with_len (λ i. 1 + word_at seed i % 1000) 0 count

-- The one limit is a cap in its range.
limits_valid : (seed count : ℕ) → count ≤ 256 → HasLimits (trial_problem seed count)
limits_valid seed count few =
    let third = div_below count 3 86 (omega arith) (omega arith) in
    record {
      few = omega arith;
      few_requires = omega arith;
      in_range = All-cons IsInRange (Total (count / 3 + 1)) [] (omega (arith, third)) (All-nil IsInRange);
      named = All-cons (NamesExisting (trial_problem seed count)) (Total (count / 3 + 1)) [] tt (All-nil (NamesExisting (trial_problem seed count)));
      once = λ i j d before inside same. omega (arith, before, inside);
    }

-- As many segments as are to be.
pub length-trial_segments : (seed count : ℕ) → length (trial_segments seed count) ≡ segment_count count
length-trial_segments seed count = length-map-range_with_len (λ g. segment_from seed count (count + g * (count + 1))) 0 (segment_count count)

-- Trial problems are problems.
pub trial_valid : (seed count : ℕ) → count ≤ 256 → IsProblem (trial_problem seed count)
trial_valid seed count few =
    let segments = length-trial_segments seed count in
    let products = product_count-trial seed count in
    let sizes = sum_by-le (λ g. g.size * 100) 1000 (trial_segments seed count) (each_segment (λ g. g.size * 100 ≤ 1000) seed count (size_most seed count)) in
    record {
      model = λ e. cc;
      unit = (omega arith, omega arith);
      few = omega (arith, products);
      products = All-map IsProduct trial_product (trial_margins seed count)
          (All-map (λ m. IsProduct (trial_product m)) (λ i. 1 + word_at seed i % 1000) (range_with_len 0 count) (λ k d inside. product_valid _));
      few_segments = omega (arith, segments);
      segments = each_segment IsSegment seed count (segment_valid seed count);
      each = each_segment (λ g. length g.attract ≡ product_count (trial_problem seed count)) seed count
          (λ at. length-map-range_with_len (λ i. word_at seed (at + 1 + i) % 100) 0 count ∙ sym products);
      sizes = omega (arith, segments, sizes);
      limits = limits_valid seed count few;
      single = λ ratio. absurd ratio;
      plain = λ _. each_segment (λ g. (i : ℕ) → shadow_of g i ≡ 0) seed count (λ at i. zero_everywhere count i);
    }

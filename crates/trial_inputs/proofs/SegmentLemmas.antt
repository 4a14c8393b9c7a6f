-- Segments drawn from words: which they are, and that they meet the conditions of segments.
use Rattle.std.proofs.Common.{◌≡◌, ℕ, ◌+◌, ◌*◌, ◌/◌, ◌%◌, ◌≤◌, List, map, replicate, zero-add, refl, ap, sym, ◌∙◌, arith}
use Rattle.std.specs.List.{range_with_len}
use Rattle.std.proofs.lemmas.Nat.{mod_below}
use Rattle.std.proofs.lemmas.List.{length-replicate}
use Rattle.std.proofs.lemmas.List.FromFn.{length-map-range_with_len}
use Rattle.offer_model.specs.Problems.{SegmentData}
use Rattle.offer_model.specs.Validity.{IsSegment}
use Rattle.trial_inputs.specs.TrialInputs.{state_at, word_at, segment_from}
use Rattle.trial_inputs.proofs.WordLemmas.{word_at-later}
use Rattle.trial_inputs.proofs.ListedLemmas.{map-agree, listed_most, zero_everywhere}

-- A segment by its first word and its lists.
abbrev pub segment_by : ℕ → List ℕ → List ℕ → SegmentData
segment_by head attract shadow = record { size = 1 + head % 10; none = 50 + head / 10 % 100; attract = attract; shadow = shadow }

-- Attractions by the words from a place on.
abbrev pub attractions : ℕ → ℕ → ℕ → List ℕ
attractions seed count from = map (λ i. word_at seed (from + i) % 100) (range_with_len 0 count)

-- Words that are drawn on give the same attractions.
attractions-later : (s a b count from : ℕ) → a + b ≡ from → attractions (state_at s a) count b ≡ attractions s count from
attractions-later s a b count from e = map-agree (λ i. word_at (state_at s a) (b + i) % 100) (λ i. word_at s (from + i) % 100)
    (λ i. ap (λ w. w % 100) (word_at-later s a (b + i) ∙ ap (word_at s) (omega arith))) (range_with_len 0 count)

-- A segment's words are those drawn on from where it begins.
pub segment_from-later : (s a b count : ℕ) → segment_from (state_at s a) count b ≡ segment_from s count (a + b)
segment_from-later s a b count =
    ap (λ w. segment_by w (attractions (state_at s a) count (b + 1)) (replicate count 0)) (word_at-later s a b)
    ∙ ap (λ xs. segment_by (word_at s (a + b)) xs (replicate count 0)) (attractions-later s a (b + 1) count (a + b + 1) (omega arith))

-- What is drawn for a segment: a word, then a word for each product.
pub segment_drawn : (s t count head : ℕ) (attract shadow : List ℕ) → head ≡ word_at s 0 → t ≡ state_at s 1
    → attract ≡ map (λ i. 0 + word_at t i % 100) (range_with_len 0 count) → shadow ≡ replicate count 0
    → segment_by head attract shadow ≡ segment_from s count 0
segment_drawn s t count head attract shadow h at drawn none =
    let same : (i : ℕ) → 0 + word_at t i % 100 ≡ word_at s (0 + 1 + i) % 100
    = λ i. zero-add (word_at t i % 100) ∙ ap (λ w. w % 100) (ap (λ u. word_at u i) at ∙ word_at-later s 1 i ∙ ap (word_at s) (omega arith)) in
    let listed = drawn ∙ map-agree (λ i. 0 + word_at t i % 100) (λ i. word_at s (0 + 1 + i) % 100) same (range_with_len 0 count) in
    rw (h, listed, none) refl

-- A segment of any words meets the conditions of segments.
pub segment_valid : (seed count at : ℕ) → IsSegment (segment_from seed count at)
segment_valid seed count at =
    let size = mod_below (word_at seed at) 10 (omega arith) in
    let none = mod_below (word_at seed at / 10) 100 (omega arith) in
    record {
      size = (omega arith, omega (arith, size));
      none = (omega arith, omega (arith, none));
      each = length-replicate count 0 ∙ sym (length-map-range_with_len (λ i. word_at seed (at + 1 + i) % 100) 0 count);
      attraction = listed_most (λ i. word_at seed (at + 1 + i) % 100) 1000000000 (λ i. small (word_at seed (at + 1 + i))) count 0;
      shadow = λ i. rw (zero_everywhere count i) (omega arith);
    }
  where
    small : (w : ℕ) → w % 100 ≤ 1000000000
    small w = let below = mod_below w 100 (omega arith) in omega (arith, below)

-- No segment's size is above ten.
pub size_most : (seed count at : ℕ) → (segment_from seed count at).size * 100 ≤ 1000
size_most seed count at = let size = mod_below (word_at seed at) 10 (omega arith) in omega (arith, size)

-- How far multipliers move prices, and that sums of the prices that they move still fit.
use Rattle.std.specs.Prelude.{pos, negsuc, ◌+ℤ◌, ◌-ℤ◌, ◌≤ℤ◌, ◌==◌, slice_index, slice_get}
use Rattle.std.proofs.Common.{◌≡◌, ℕ, zero, suc, ◌+◌, ◌*◌, ◌^◌, ◌<◌, ◌≤◌, Bool, true, false, cond, List, [], ◌∷◌, length, get_or, refl, sym, ◌∙◌, ap, subst, arith, add-one, Some, take, ◌++◌, append-nil}
use lib.IntN.{ℤ}
use Rattle.std.proofs.lemmas.Int.{ints}
use Rattle.std.proofs.lemmas.Option.{get_or_from_slice_get, slice_get_within}
use Rattle.std.specs.List.{filter}
use Rattle.std.proofs.lemmas.List.Elements.{All-get_or, All-filter, All-from_recursion, filter_more}
use Rattle.std.proofs.lemmas.List.Kept.{AllPairs-filter}
use Rattle.std.proofs.Math.Nat.{mul-le-mul}
use Rattle.offer_model.specs.declared.node.Mark.{Mark}
use Rattle.offer_model.specs.declared.node.Mark.TheVariants.{In, Out, Open}
use Rattle.offer_model.specs.declared.products.Limit.{Limit}
use Rattle.offer_model.specs.declared.products.Limit.TheVariants.{Total, Category, Requires, Shelf, Ladder}
use Rattle.offer_model.specs.Assortments.{sum_below}
use Rattle.offer_model.specs.Problems.{ProblemData, product_count, product_at, no_product}
use Rattle.offer_model.specs.Nodes.{mark_at}
use Rattle.offer_model.specs.Prices.{Prices, int_sum_below, positive_part, most_of}
use Rattle.offer_model.specs.Validity.{IsProblem, IsProduct, IsInRange, NamesExisting, Repeats, is_shelf}
use Rattle.offer_model.specs.LeafBounds.{is_priced, priced_limits, priced_limit_at, taken_by, added_by, allowed_by, IsMultiplier, taken_off, added_to, allowed_in_all, relaxed}
use Rattle.offer_model.proofs.SumLemmas.{point_le, sum_most}
use Rattle.offer_model.proofs.LimitLemmas.{priced_limits-few}
use Rattle.offer_model.proofs.MultiplierLemmas.{exchanged}
use Rattle.linear_weights.specs.Weights.{IsWithin, WeightsData, AreWeights, SumsFit, weight_at, prices_of}
use Rattle.multiplier_bound.specs.Fits.{AreFit, AreNumbers}
use Rattle.multiplier_bound.specs.Pricing.{IsMoved, AreRelaxed}

-- ---- Sums of bounded parts.

-- Where at most one part is exceptional.
sum_with_one : (m : ℕ) (f : ℕ → ℕ) (s : ℕ → Bool) (a b : ℕ) → ((k : ℕ) → k < m → f k ≤ a + cond (s k) b 0)
    → ((j k : ℕ) → j < k → k < m → s j ≡ true → s k ≡ true → ⊥) → sum_below m f ≤ m * a + b
sum_with_one zero f s a b h one = omega arith
sum_with_one (suc m) f s a b h one = elim (s m) as (λ v. s m ≡ v → sum_below m f + f m ≤ (suc m) * a + b) [
  | true ↦ λ e.
      let here : f m ≤ a + b = subst (λ v. f m ≤ a + cond v b 0) e (h m (omega arith)) in
      let before = sum_most m a f (λ k l. plain k (s k) refl (h k (omega arith)) (λ t. one k m l (omega arith) t e)) in
      omega arith
  | false ↦ λ e.
      let here : f m ≤ a + 0 = subst (λ v. f m ≤ a + cond v b 0) e (h m (omega arith)) in
      let before = sum_with_one m f s a b (λ k l. h k (omega arith)) (λ j k l d. one j k l (omega arith)) in
      omega arith
] refl
  where
    plain : (k : ℕ) (v : Bool) → s k ≡ v → f k ≤ a + cond (s k) b 0 → (s k ≡ true → ⊥) → f k ≤ a
    plain k true d most never = absurd (never d)
    plain k false d most never = let here : f k ≤ a + 0 = subst (λ v. f k ≤ a + cond v b 0) d most in omega arith

-- ---- One limit.

-- A multiplier that a line may have.
pub record IsNumber (limit : Limit) (u : ℕ) : Type 0 where
  pub fits : IsMultiplier limit u
  pub small : u ≤ 2 ^ 108

times_flag : (u m : ℕ) (b : Bool) → u ≤ m → u * cond b 1 0 ≤ m
times_flag u m true h = omega arith
times_flag u m false h = omega arith

when : (u m : ℕ) (b : Bool) → u ≤ m → cond b u 0 ≤ m
when u m true h = h
when u m false h = omega arith

space_few : (p : ProblemData) (i : ℕ) → IsProblem p → i < product_count p → (product_at p i).space ≤ 1000
space_few p i v l = (All-get_or IsProduct p.products i no_product l v.products).space

-- What one multiplier takes off a price is small.
pub taken_small : (p : ProblemData) (limit : Limit) (u i : ℕ) → IsProblem p → i < product_count p → IsNumber limit u → taken_by p limit u i ≤ 2 ^ 110
taken_small p (Total cap) u i v l h = let most = h.fits in omega arith
taken_small p (Category c cap) u i v l h = let most = h.fits in let less = times_flag u (2 ^ 100) ((product_at p i).category == c) most in omega arith
taken_small p (Shelf space) u i v l h = let less = mul-le-mul h.fits (space_few p i v l) in omega arith
taken_small p (Requires a b) u i v l h = let less = when u (2 ^ 108) (i == a) h.small in omega arith
taken_small p (Ladder k) u i v l h = absurd h.fits

-- What it adds to one is.
pub added_small : (limit : Limit) (u i : ℕ) → IsNumber limit u → added_by limit u i ≤ 2 ^ 108
added_small (Requires a b) u i h = when u (2 ^ 108) (i == b) h.small
added_small (Total cap) u i h = omega arith
added_small (Category c cap) u i h = omega arith
added_small (Shelf space) u i h = omega arith
added_small (Ladder k) u i h = omega arith

-- And what it adds to the constant.
pub allowed_small : (limit : Limit) (u : ℕ) → IsInRange limit → IsNumber limit u → allowed_by limit u ≤ 2 ^ 110
allowed_small (Total cap) u r h = let less = mul-le-mul h.fits r in omega arith
allowed_small (Category c cap) u r h = let less = mul-le-mul h.fits r in omega arith
allowed_small (Shelf space) u r h = let less = mul-le-mul h.fits r in omega arith
allowed_small (Requires a b) u r h = omega arith
allowed_small (Ladder k) u r h = omega arith

-- What a limit's multiplier takes off all products, and adds to them.
taken_in_all : (p : ProblemData) (limit : Limit) (u n : ℕ) → IsProblem p → n ≤ product_count p → IsNumber limit u
    → sum_below n (taken_by p limit u) ≤ 2 ^ 108 + cond (is_shelf limit) (2 ^ 118) 0
taken_in_all p (Total cap) u n v l h =
    let few = v.few in
    let all = sum_most n (2 ^ 100) (taken_by p (Total cap) u) (λ i k. let most = h.fits in omega arith) in omega arith
taken_in_all p (Category c cap) u n v l h =
    let few = v.few in
    let all = sum_most n (2 ^ 100) (taken_by p (Category c cap) u) (λ i k. times_flag u (2 ^ 100) ((product_at p i).category == c) h.fits) in omega arith
taken_in_all p (Shelf space) u n v l h =
    let few = v.few in
    let all = sum_most n (2 ^ 110) (taken_by p (Shelf space) u) (λ i k. taken_small p (Shelf space) u i v (omega arith) h) in omega arith
taken_in_all p (Requires a b) u n v l h =
    let one = point_le n (λ i. true) u a in
    let small = h.small in omega arith
taken_in_all p (Ladder k) u n v l h = absurd h.fits

added_in_all : (limit : Limit) (u n : ℕ) → IsNumber limit u → sum_below n (added_by limit u) ≤ 2 ^ 108
added_in_all (Requires a b) u n h =
    let one = point_le n (λ i. true) u b in
    let small = h.small in omega arith
added_in_all (Total cap) u n h = none n
  where
    none : (n : ℕ) → sum_below n (λ i. 0) ≤ 2 ^ 108
    none n = let all = sum_most n 0 (λ i. 0) (λ i k. omega arith) in omega arith
added_in_all (Category c cap) u n h = let all = sum_most n 0 (λ i. 0) (λ i k. omega arith) in omega arith
added_in_all (Shelf space) u n h = let all = sum_most n 0 (λ i. 0) (λ i k. omega arith) in omega arith
added_in_all (Ladder k) u n h = let all = sum_most n 0 (λ i. 0) (λ i k. omega arith) in omega arith

-- ---- All limits.

number_small : (us : List ℕ) (k : ℕ) → AreNumbers us → k < length us → slice_index us k ≤ 2 ^ 108
number_small us k a l = All-get_or (λ n. n ≤ 2 ^ 108) us k 0 l (All-from_recursion (λ n. n ≤ 2 ^ 108) us a)

-- Each of the multipliers fits its limit.
pub number_is : (p : ProblemData) (us : List ℕ) (k : ℕ) → AreFit p us → k < length us → IsNumber (priced_limit_at p k) (slice_index us k)
number_is p us k f l = record { fits = f.fit.small k l; small = number_small us k f.numbers l }

-- There are at most 1,024 of them.
pub us_few : (p : ProblemData) (us : List ℕ) → AreFit p us → length us ≤ 1024
us_few p us f = let each = f.fit.each in let few = priced_limits-few p f.valid in omega arith

inside_priced : (p : ProblemData) (us : List ℕ) (k : ℕ) → AreFit p us → k < length us → k < length (priced_limits p)
inside_priced p us k f l = let each = f.fit.each in omega arith

-- The number of each limit is in range.
pub range_is : (p : ProblemData) (us : List ℕ) (k : ℕ) → AreFit p us → k < length us → IsInRange (priced_limit_at p k)
range_is p us k f l = All-get_or IsInRange (priced_limits p) k (Ladder 0) (inside_priced p us k f l) (All-filter is_priced IsInRange p.limits f.valid.limits.in_range)

-- What each limit names is there.
pub named_is : (p : ProblemData) (us : List ℕ) (k : ℕ) → AreFit p us → k < length us → NamesExisting p (priced_limit_at p k)
named_is p us k f l = All-get_or (NamesExisting p) (priced_limits p) k (Ladder 0) (inside_priced p us k f l) (All-filter is_priced (NamesExisting p) p.limits f.valid.limits.named)

two_shelves : (a b : Limit) → is_shelf a ≡ true → is_shelf b ≡ true → Repeats a b
two_shelves (Shelf space) (Shelf other) e h = tt
two_shelves (Shelf space) (Total cap) e h = cc
two_shelves (Shelf space) (Category c cap) e h = cc
two_shelves (Shelf space) (Requires i j) e h = cc
two_shelves (Shelf space) (Ladder k) e h = cc
two_shelves (Total cap) b e h = cc
two_shelves (Category c cap) b e h = cc
two_shelves (Requires i j) b e h = cc
two_shelves (Ladder k) b e h = cc

one_shelf : (p : ProblemData) → IsProblem p → (j k : ℕ) → j < k → k < length (priced_limits p)
    → is_shelf (priced_limit_at p j) ≡ true → is_shelf (priced_limit_at p k) ≡ true → ⊥
one_shelf p v j k l inside e h =
    AllPairs-filter (λ a b. Repeats a b → ⊥) is_priced p.limits v.limits.once j k (Ladder 0) l inside (two_shelves (priced_limit_at p j) (priced_limit_at p k) e h)

-- What all multipliers take off the products below n, and add to them.
taken_bounded : (p : ProblemData) (us : List ℕ) (n : ℕ) → AreFit p us → n ≤ product_count p → sum_below n (taken_off p us) ≤ 2 ^ 119
taken_bounded p us n f l =
    let few = us_few p us f in
    let each = f.fit.each in
    let turned = exchanged (length us) n (λ i. true) (λ k. taken_by p (priced_limit_at p k) (slice_index us k)) in
    let all = sum_with_one (length us) (λ k. sum_below n (taken_by p (priced_limit_at p k) (slice_index us k))) (λ k. is_shelf (priced_limit_at p k)) (2 ^ 108) (2 ^ 118)
    (λ k h. taken_in_all p (priced_limit_at p k) (slice_index us k) n f.valid l (number_is p us k f h))
    (λ j k lt h. one_shelf p f.valid j k lt (omega arith)) in
    omega arith

added_bounded : (p : ProblemData) (us : List ℕ) (n : ℕ) → AreFit p us → sum_below n (added_to p us) ≤ 2 ^ 118
added_bounded p us n f =
    let few = us_few p us f in
    let turned = exchanged (length us) n (λ i. true) (λ k. added_by (priced_limit_at p k) (slice_index us k)) in
    let all = sum_most (length us) (2 ^ 108) (λ k. sum_below n (added_by (priced_limit_at p k) (slice_index us k)))
    (λ k h. added_in_all (priced_limit_at p k) (slice_index us k) n (number_is p us k f h)) in
    omega arith

-- ---- While the multipliers come, one after the other.

-- What the first k take off a price is small.
pub taken_so_far : (p : ProblemData) (us : List ℕ) (k i : ℕ) → AreFit p us → k ≤ length us → i < product_count p
    → sum_below k (λ j. taken_by p (priced_limit_at p j) (slice_index us j) i) ≤ 2 ^ 120
taken_so_far p us k i f l h =
    let few = us_few p us f in
    let all = sum_most k (2 ^ 110) (λ j. taken_by p (priced_limit_at p j) (slice_index us j) i) (λ j lj. taken_small p (priced_limit_at p j) (slice_index us j) i f.valid h (number_is p us j f (omega arith))) in
    omega arith

-- What they add to one is.
pub added_so_far : (p : ProblemData) (us : List ℕ) (k i : ℕ) → AreFit p us → k ≤ length us → sum_below k (λ j. added_by (priced_limit_at p j) (slice_index us j) i) ≤ 2 ^ 118
added_so_far p us k i f l =
    let few = us_few p us f in
    let all = sum_most k (2 ^ 108) (λ j. added_by (priced_limit_at p j) (slice_index us j) i) (λ j lj. added_small (priced_limit_at p j) (slice_index us j) i (number_is p us j f (omega arith))) in
    omega arith

-- And what they add to the constant.
pub allowed_so_far : (p : ProblemData) (us : List ℕ) (k : ℕ) → AreFit p us → k ≤ length us → sum_below k (λ j. allowed_by (priced_limit_at p j) (slice_index us j)) ≤ 2 ^ 120
allowed_so_far p us k f l =
    let few = us_few p us f in
    let all = sum_most k (2 ^ 110) (λ j. allowed_by (priced_limit_at p j) (slice_index us j)) (λ j lj. allowed_small (priced_limit_at p j) (slice_index us j) (range_is p us j f (omega arith)) (number_is p us j f (omega arith))) in
    omega arith

moved_within : (a z : ℤ) (up down : ℕ) → IsWithin (2 ^ 106) a → up ≤ 2 ^ 120 → down ≤ 2 ^ 120 → z ≡ (a +ℤ pos up) -ℤ pos down → IsWithin (2 ^ 122) z
moved_within a z up down w u d e = let low = w.0 in let high = w.1 in (omega (arith, ints), omega (arith, ints))

wider : (z : ℤ) → IsWithin (2 ^ 98) z → IsWithin (2 ^ 106) z
wider z w = let low = w.0 in let high = w.1 in (omega (arith, ints), omega (arith, ints))

-- The prices on the way are small.
pub relaxed_small : (p : ProblemData) (us : List ℕ) (w : WeightsData) (list : WeightsData) (k i : ℕ) → AreFit p us → AreWeights p w → k ≤ length us
    → AreRelaxed p us (prices_of w) list k → i < product_count p → IsWithin (2 ^ 122) (weight_at list i)
relaxed_small p us w list k i f s l r h =
    let up = added_so_far p us k i f l in
    moved_within (weight_at w i) (weight_at list i) _ _ (wider (weight_at w i) (s.small i h)) (omega arith) (taken_so_far p us k i f l h) (r.price i h)

-- So is the constant on the way.
pub constant_small : (p : ProblemData) (us : List ℕ) (w : WeightsData) (list : WeightsData) (k : ℕ) → AreFit p us → AreWeights p w → k ≤ length us
    → AreRelaxed p us (prices_of w) list k → IsWithin (2 ^ 122) list.constant
constant_small p us w list k f s l r =
    let up = allowed_so_far p us k f l in
    let e = r.constant in
    moved_within w.constant list.constant _ 0 s.constant up (omega arith) (omega (arith, ints))

-- One more multiplier.
next_price : (a b c : ℤ) (up down u d : ℕ) → b ≡ (a +ℤ pos up) -ℤ pos down → c ≡ (b +ℤ pos u) -ℤ pos d → c ≡ (a +ℤ pos (up + u)) -ℤ pos (down + d)
next_price a b c up down u d e h = omega (arith, ints)

next_constant : (a b c : ℤ) (up u : ℕ) → b ≡ a +ℤ pos up → c ≡ b +ℤ pos u → c ≡ a +ℤ pos (up + u)
next_constant a b c up u e h = omega (arith, ints)

-- One more multiplier moves prices and constant on.
pub relaxed_more : (p : ProblemData) (us : List ℕ) (at : Prices) (list next : WeightsData) (k : ℕ) → AreRelaxed p us at list k
    → IsMoved p (priced_limit_at p k) (slice_index us k) (prices_of list) next → AreRelaxed p us at next (k + 1)
relaxed_more p us at list next k r m = record {
  each = m.each;
  price = λ i l. rw add-one (next_price (at.price i) (weight_at list i) (weight_at next i) _ _ _ _ (r.price i l) (m.price i l));
  constant = rw add-one (next_constant at.constant list.constant next.constant _ _ r.constant m.constant);
}

-- ---- The sums of the prices that all multipliers have moved.

part_le : (z b : ℤ) → z ≤ℤ b → pos 0 ≤ℤ b → positive_part z ≤ℤ b
part_le (pos n) b h k = h
part_le (negsuc n) b h k = k

part_ge : (z : ℤ) → pos 0 ≤ℤ positive_part z
part_ge (pos n) = omega (arith, ints)
part_ge (negsuc n) = omega (arith, ints)

-- What a product with a moved price adds at most.
most_high : (m : Mark) (a : ℤ) (up down : ℕ) → IsWithin (2 ^ 98) a → most_of m ((a +ℤ pos up) -ℤ pos down) ≤ℤ pos (2 ^ 98 + up)
most_high In a up down w = let high = w.0 in omega (arith, ints)
most_high Out a up down w = omega (arith, ints)
most_high Open a up down w = let high = w.0 in part_le ((a +ℤ pos up) -ℤ pos down) (pos (2 ^ 98 + up)) (omega (arith, ints)) (omega (arith, ints))

most_low : (m : Mark) (a : ℤ) (up down : ℕ) → IsWithin (2 ^ 98) a → pos 0 ≤ℤ (most_of m ((a +ℤ pos up) -ℤ pos down) +ℤ pos (2 ^ 98 + down))
most_low In a up down w = let low = w.1 in omega (arith, ints)
most_low Out a up down w = omega (arith, ints)
most_low Open a up down w = let part = part_ge ((a +ℤ pos up) -ℤ pos down) in omega (arith, ints)

sum_high : (n : ℕ) (m : ℕ → Mark) (a : ℕ → ℤ) (up down : ℕ → ℕ) → ((i : ℕ) → i < n → IsWithin (2 ^ 98) (a i))
    → int_sum_below n (λ i. most_of (m i) ((a i +ℤ pos (up i)) -ℤ pos (down i))) ≤ℤ pos (n * 2 ^ 98 + sum_below n up)
sum_high zero m a up down w = omega (arith, ints)
sum_high (suc n) m a up down w =
    let before = sum_high n m a up down (λ i l. w i (omega arith)) in
    let here = most_high (m n) (a n) (up n) (down n) (w n (omega arith)) in
    omega (arith, ints)

sum_low : (n : ℕ) (m : ℕ → Mark) (a : ℕ → ℤ) (up down : ℕ → ℕ) → ((i : ℕ) → i < n → IsWithin (2 ^ 98) (a i))
    → pos 0 ≤ℤ (int_sum_below n (λ i. most_of (m i) ((a i +ℤ pos (up i)) -ℤ pos (down i))) +ℤ pos (n * 2 ^ 98 + sum_below n down))
sum_low zero m a up down w = omega (arith, ints)
sum_low (suc n) m a up down w =
    let before = sum_low n m a up down (λ i l. w i (omega arith)) in
    let here = most_low (m n) (a n) (up n) (down n) (w n (omega arith)) in
    omega (arith, ints)

sums_within : (c z : ℤ) (allowed n up down : ℕ) → IsWithin (2 ^ 106) c → allowed ≤ 2 ^ 120 → n ≤ 256 → up ≤ 2 ^ 118 → down ≤ 2 ^ 119
    → z ≤ℤ pos (n * 2 ^ 98 + up) → pos 0 ≤ℤ (z +ℤ pos (n * 2 ^ 98 + down)) → IsWithin (2 ^ 126) ((c +ℤ pos allowed) +ℤ z)
sums_within c z allowed n up down w a few u d high low = let one = w.0 in let two = w.1 in (omega (arith, ints), omega (arith, ints))

-- Sums of the prices that all have moved fit.
pub relaxed_sums_fit : (p : ProblemData) (node : List Mark) (us : List ℕ) (w : WeightsData) → AreFit p us → AreWeights p w → SumsFit p node (relaxed p us (prices_of w))
relaxed_sums_fit p node us w f s n l =
    let few = f.valid.few in
    sums_within w.constant (int_sum_below n (λ i. most_of (mark_at node i) ((weight_at w i +ℤ pos (added_to p us i)) -ℤ pos (taken_off p us i)))) (allowed_in_all p us) n (sum_below n (added_to p us)) (sum_below n (taken_off p us))
    s.constant (allowed_so_far p us (length us) f (omega arith)) (omega arith) (added_bounded p us n f) (taken_bounded p us n f l)
    (sum_high n (mark_at node) (weight_at w) (added_to p us) (taken_off p us) (λ i h. s.small i (omega arith)))
    (sum_low n (mark_at node) (weight_at w) (added_to p us) (taken_off p us) (λ i h. s.small i (omega arith)))

-- ---- The limit at a place.

-- The limit as the code reads it is the one of the definition.
pub limit_is : (p : ProblemData) (limits : List Limit) (k : ℕ) (limit : Limit) → limits ≡ priced_limits p → slice_get limits k ≡ Some limit → priced_limit_at p k ≡ limit
limit_is p limits k limit e got = ap (λ z. get_or z k (Ladder 0)) (sym e) ∙ get_or_from_slice_get limits k limit (Ladder 0) got

-- A limit with a multiplier is kept.
pub kept_yes : (limits kept next : List Limit) (k : ℕ) (limit : Limit) → slice_get limits k ≡ Some limit → is_priced limit ≡ true
    → kept ≡ filter is_priced (take k limits) → next ≡ kept ++ limit ∷ [] → next ≡ filter is_priced (take (k + 1) limits)
kept_yes limits kept next k limit got priced was is =
    let inside = slice_get_within limits k limit got in
    let here : get_or limits k limit ≡ limit = get_or_from_slice_get limits k limit limit got in
    let more = filter_more is_priced limits k limit inside in
    is ∙ ap (λ z. z ++ limit ∷ []) was ∙ sym (more ∙ rw (here, priced) refl)

-- One without isn't.
pub kept_no : (limits kept : List Limit) (k : ℕ) (limit : Limit) → slice_get limits k ≡ Some limit → is_priced limit ≡ false
    → kept ≡ filter is_priced (take k limits) → kept ≡ filter is_priced (take (k + 1) limits)
kept_no limits kept k limit got no_price was =
    let inside = slice_get_within limits k limit got in
    let here : get_or limits k limit ≡ limit = get_or_from_slice_get limits k limit limit got in
    let more = filter_more is_priced limits k limit inside in
    was ∙ sym (more ∙ rw (here, no_price) (append-nil (filter is_priced (take k limits))))

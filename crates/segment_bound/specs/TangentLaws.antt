-- No completion brings more than the tangent, so the goal with both bounds keeps the laws of goals. They stand here since the
-- goal's impl can cite only what stands in specs/.
use Rattle.std.specs.Prelude.{◌≡◌, ℕ, ◌+◌, ◌-◌, ◌*◌, ◌/◌, ◌≤◌, ◌==◌, min, nat_lt, Bool, true, false, ◌&&◌, ◌||◌, cond, Some, List, [], ◌∷◌, length}
use Rattle.std.specs.List.{All}
use Rattle.std.proofs.Common.{zero, suc, refl, sym, ap, subst, arith}
use Rattle.std.proofs.lemmas.Bool.Decides.{nat_tests}
use Rattle.std.proofs.lemmas.List.Elements.{All-tail}
use Rattle.std.proofs.lemmas.Int.{ints}
use Rattle.std.proofs.Math.Nat.{mul-le-mul_left, div-mul-le_self, le-div_iff_mul-le}
use Rattle.offer_model.specs.declared.node.Mark.{Mark}
use Rattle.offer_model.specs.declared.node.Mark.TheVariants.{In, Out, Open}
use Rattle.offer_model.specs.declared.products.Limit.{Limit}
use Rattle.offer_model.specs.declared.products.Limit.TheVariants.{Total, Category, Requires, Shelf, Ladder}
use Rattle.offer_model.specs.Assortments.{offers, sum_below}
use Rattle.offer_model.specs.Problems.{ProblemData, product_count, product_at, segment_at}
use Rattle.offer_model.specs.Revenue.{sum_offered, gain_of, weight_of, segment_value, value_of}
use Rattle.offer_model.specs.Limits.{Meets, IsFeasible}
use Rattle.offer_model.specs.Nodes.{mark_at, is_in, is_open, Agrees, Completes}
use Rattle.offer_model.proofs.SumLemmas.{sum_le}
use Rattle.offer_model.proofs.CompletionLemmas.{Completes-agrees}
use Rattle.offer_model.proofs.PotentialLemmas.{is_open-true}
use Rattle.tree_search.specs.Goals.{IsLawful, IsOpenOf}
use Rattle.segment_bound.specs.Greatest.{greatest}
use Rattle.segment_bound.specs.MixedGoals.{greatest_sum}
use Rattle.segment_bound.specs.MixedLaws.{most, value_bounded, mixed_lawful}
use Rattle.segment_bound.specs.Tangents.{parts, units_at, total_cap, caps_category, left_out, most_offered, room_at, added, within_cap, scale_at, share_at, raised, lowered, tangent_at, tangent_bound, next_in, tangent_rules}

-- ---- The inequality, in natural numbers.

slack : (s v u W P cG k : ℕ) → u ≡ v + s → k * W ≤ P → v * W ≤ cG → v * P + k * (u * W) ≤ P * u + k * cG
slack s v u W P cG k e h q = subst (λ t. v * P + k * (t * W) ≤ P * t + k * cG) (sym e)
    (let a : s * (k * W) ≤ s * P = mul-le-mul_left s h in
    let b : k * (v * W) ≤ k * cG = mul-le-mul_left k q in
    omega arith)

-- In one segment: a quotient that is at most u, at a scale at which its divisor is worth at most P.
tangent_term : (c G W u k P : ℕ) → k * W ≤ P → c * G / W ≤ u → c * G / W * P + k * (u * W) ≤ P * u + k * (c * G)
tangent_term c G W u k P h l =
    let v : ℕ = c * G / W in
    let q : v * W ≤ c * G = div-mul-le_self (c * G) W in
    slack (u - v) v u W P (c * G) k (omega arith) h q

-- In all segments.
tangent_sum : (n : ℕ) (c G W u k : ℕ → ℕ) (P : ℕ) → ((i : ℕ) → k i * W i ≤ P) → ((i : ℕ) → c i * G i / W i ≤ u i)
    → sum_below n (λ i. c i * G i / W i) * P + sum_below n (λ i. k i * (u i * W i)) ≤ sum_below n (λ i. P * u i + k i * (c i * G i))
tangent_sum zero c G W u k P h l = omega arith
tangent_sum (suc n) c G W u k P h l =
    let before = tangent_sum n c G W u k P h l in
    let here = tangent_term (c n) (G n) (W n) (u n) (k n) P (h n) (l n) in
    omega (arith, before, here)

-- ---- In parts.

-- At the scale of a greatest weight no weight is worth more than P.
pub scaled_most : (P H W : ℕ) → W ≤ H → P / H * W ≤ P
scaled_most P H W l =
    let q : P / H * H ≤ P = div-mul-le_self P H in
    let m : P / H * W ≤ P / H * H = mul-le-mul_left (P / H) l in
    omega (arith, q, m)

-- What there is room for has no more of a function than its greatest.
pub capped_most : (p : ProblemData) (node : List Mark) (f : List Bool → ℕ) (y : List Bool) → Completes node y → nat_lt (room_at p node) (added p node y) ≡ false → f y ≤ greatest (within_cap p node f) node
capped_most p node f y c e = rw e at (most (within_cap p node f) node y c)

-- A completion with room brings no more parts than the tangent says.
pub value_tangent : (p : ProblemData) (node : List Mark) (y : List Bool) → Completes node y → nat_lt (room_at p node) (added p node y) ≡ false → value_of p y * parts ≤ tangent_at p node y
value_tangent p node y c e =
    let h = tangent_sum (length p.segments) (share_at p) (λ k. gain_of p (segment_at p k) y) (λ k. weight_of p (segment_at p k) y) (units_at p node) (scale_at p node) parts
    (λ k. scaled_most parts (greatest (within_cap p node (weight_of p (segment_at p k))) node) (weight_of p (segment_at p k) y) (capped_most p node (weight_of p (segment_at p k)) y c e))
    (λ k. most (segment_value p (segment_at p k)) node y c) in
    less (value_of p y * parts) (lowered p node y) (raised p node y) h
  where
    less : (a b r : ℕ) → a + b ≤ r → a ≤ r - b
    less a b r h = omega arith

-- ---- The total cap.

-- What keeps to the limits keeps to the total cap.
below_cap : (p : ProblemData) (y : List Bool) (limits : List Limit) (n : ℕ) → All (Meets p y) limits → sum_offered p y (λ i. 1) ≤ n → sum_offered p y (λ i. 1) ≤ total_cap limits n
below_cap p y [] n h l = l
below_cap p y (Total cap ∷ limits) n h l = below_cap p y limits (min cap n) (All-tail (Meets p y) (Total cap) limits h) (let m = h 0 (Total cap) (omega arith) in both (sum_offered p y (λ i. 1)) cap n m l)
  where
    both : (s a b : ℕ) → s ≤ a → s ≤ b → s ≤ min a b
    both s a b g k = omega arith
below_cap p y (Category d cap ∷ limits) n h l = below_cap p y limits n (All-tail (Meets p y) (Category d cap) limits h) l
below_cap p y (Requires a b ∷ limits) n h l = below_cap p y limits n (All-tail (Meets p y) (Requires a b) limits h) l
below_cap p y (Shelf space ∷ limits) n h l = below_cap p y limits n (All-tail (Meets p y) (Shelf space) limits h) l
below_cap p y (Ladder k ∷ limits) n h l = below_cap p y limits n (All-tail (Meets p y) (Ladder k) limits h) l

-- ---- What category caps leave out.

sums_add : (n : ℕ) (f g h : ℕ → ℕ) → ((i : ℕ) → f i ≡ g i + h i) → sum_below n f ≡ sum_below n g + sum_below n h
sums_add zero f g h e = omega arith
sums_add (suc n) f g h e = let before = sums_add n f g h e in let here = e n in omega (arith, before, here)

-- The products in play without those of a category.
abbrev without : ProblemData → ℕ → (ℕ → Bool) → ℕ → Bool
without p c in_play i = cond ((product_at p i).category == c) false (in_play i)

part_here : (u t y : Bool) → (t ≡ true → u ≡ true) → cond (u && y) 1 0 ≡ cond (cond t false u && y) 1 0 + cond y (cond t 1 0) 0
part_here true true true h = refl
part_here true true false h = refl
part_here true false true h = refl
part_here true false false h = refl
part_here false true y h = let e = h refl in absurd cc
part_here false false true h = refl
part_here false false false h = refl

whole_here : (u t : Bool) → (t ≡ true → u ≡ true) → cond u 1 0 ≡ cond (cond t false u) 1 0 + cond t 1 0
whole_here true true h = refl
whole_here true false h = refl
whole_here false true h = let e = h refl in absurd cc
whole_here false false h = refl

some_here : (y t : Bool) → cond y (cond t 1 0) 0 ≤ cond t 1 0
some_here true t = omega arith
some_here false t = omega arith

named_by : (d c : ℕ) (rest : Bool) → (c == d) ≡ true → (d == c || rest) ≡ true
named_by d c rest e = grind (arith, nat_tests)

named_later : (d c : ℕ) (rest : Bool) → rest ≡ true → (d == c || rest) ≡ true
named_later d c rest e = grind (arith, nat_tests)

same_category : (c d : ℕ) → (c == d) ≡ true → c ≡ d
same_category c d e = grind (arith, nat_tests)

-- What is offered of the products in play, and what category caps leave out, are no more than they.
abbrev LeavesOut : ProblemData → List Bool → List Limit → Type 0
LeavesOut p y limits = (in_play : ℕ → Bool) → ((i : ℕ) → caps_category limits (product_at p i).category ≡ true → in_play i ≡ true)
    → sum_below (product_count p) (λ i. cond (in_play i && offers y i) 1 0) + left_out p limits ≤ sum_below (product_count p) (λ i. cond (in_play i) 1 0)

leaves_out : (p : ProblemData) (y : List Bool) (limits : List Limit) → All (Meets p y) limits → LeavesOut p y limits
leaves_out p y [] h in_play named = let le = sum_le (product_count p) (λ i. cond (in_play i && offers y i) 1 0) (λ i. cond (in_play i) 1 0) (λ i l. less (in_play i) (offers y i)) in omega (arith, le)
  where
    less : (u b : Bool) → cond (u && b) 1 0 ≤ cond u 1 0
    less true true = omega arith
    less true false = omega arith
    less false b = omega arith
leaves_out p y (Total cap ∷ limits) h in_play named = leaves_out p y limits (All-tail (Meets p y) (Total cap) limits h) in_play named
leaves_out p y (Requires a b ∷ limits) h in_play named = leaves_out p y limits (All-tail (Meets p y) (Requires a b) limits h) in_play named
leaves_out p y (Shelf space ∷ limits) h in_play named = leaves_out p y limits (All-tail (Meets p y) (Shelf space) limits h) in_play named
leaves_out p y (Ladder k ∷ limits) h in_play named = leaves_out p y limits (All-tail (Meets p y) (Ladder k) limits h) in_play named
leaves_out p y (Category c cap ∷ limits) h in_play named = by_test (leaves_out p y limits (All-tail (Meets p y) (Category c cap) limits h)) (caps_category limits c) refl
  where
    inner : caps_category limits c ≡ false → (i : ℕ) → caps_category limits (product_at p i).category ≡ true → without p c in_play i ≡ true
    inner e i k = by_category ((product_at p i).category == c) refl
      where
        by_category : (t : Bool) → ((product_at p i).category == c) ≡ t → without p c in_play i ≡ true
        by_category true q = let same = ap (caps_category limits) (same_category (product_at p i).category c q) in absurd cc
        by_category false q = rw q (named i (named_later c (product_at p i).category (caps_category limits (product_at p i).category) k))

    by_test : LeavesOut p y limits → (t : Bool) → caps_category limits c ≡ t → sum_below (product_count p) (λ i. cond (in_play i && offers y i) 1 0) + left_out p (Category c cap ∷ limits) ≤ sum_below (product_count p) (λ i. cond (in_play i) 1 0)
    by_test rest true e = let r = rest in_play (λ i k. named i (named_later c (product_at p i).category (caps_category limits (product_at p i).category) k)) in rw e (omega (arith, r))
    by_test rest false e =
        let ih = rest (without p c in_play) (inner e) in
        let held : (i : ℕ) → ((product_at p i).category == c) ≡ true → in_play i ≡ true = λ i q. named i (named_by c (product_at p i).category (caps_category limits (product_at p i).category) q) in
        let parts_are = sums_add (product_count p) (λ i. cond (in_play i && offers y i) 1 0) (λ i. cond (without p c in_play i && offers y i) 1 0) (λ i. cond (offers y i) (cond ((product_at p i).category == c) 1 0) 0)
        (λ i. part_here (in_play i) ((product_at p i).category == c) (offers y i) (held i)) in
        let whole_is = sums_add (product_count p) (λ i. cond (in_play i) 1 0) (λ i. cond (without p c in_play i) 1 0) (λ i. cond ((product_at p i).category == c) 1 0) (λ i. whole_here (in_play i) ((product_at p i).category == c) (held i)) in
        let some = sum_le (product_count p) (λ i. cond (offers y i) (cond ((product_at p i).category == c) 1 0) 0) (λ i. cond ((product_at p i).category == c) 1 0) (λ i l. some_here (offers y i) ((product_at p i).category == c)) in
        let meets = h 0 (Category c cap) (omega arith) in
        rw e (omega (arith, ih, parts_are, whole_is, some, meets))

ones : (n : ℕ) → sum_below n (λ i. cond true 1 0) ≡ n
ones zero = refl
ones (suc n) = let before = ones n in omega (arith, before)

-- What keeps to the limits is no more than category caps leave.
below_left : (p : ProblemData) (y : List Bool) → All (Meets p y) p.limits → sum_offered p y (λ i. 1) ≤ product_count p - left_out p p.limits
below_left p y h =
    let all = leaves_out p y p.limits h (λ i. true) (λ i k. refl) in
    let whole = ones (product_count p) in
    omega (arith, all, whole)

-- ---- The room.

count_here : (m : Mark) (b : Bool) → Agrees m b → cond b 1 0 ≡ cond (is_in m) 1 0 + cond (is_open m && b) 1 0
count_here In true a = refl
count_here In false a = absurd cc
count_here Out true a = absurd cc
count_here Out false a = refl
count_here Open true a = refl
count_here Open false a = refl

-- A completion offers what is In and some of what is Open.
count_both : (n : ℕ) (node : List Mark) (y : List Bool) → Completes node y
    → sum_below n (λ i. cond (offers y i) 1 0) ≡ sum_below n (λ i. cond (is_in (mark_at node i)) 1 0) + sum_below n (λ i. cond (is_open (mark_at node i) && offers y i) 1 0)
count_both zero node y c = refl
count_both (suc n) node y c =
    let before = count_both n node y c in
    let here = count_here (mark_at node n) (offers y n) (Completes-agrees node y c n) in
    omega (arith, before, here)

-- The caps have room for a feasible completion.
has_room : (p : ProblemData) (node : List Mark) (y : List Bool) → Completes node y → IsFeasible p y → nat_lt (room_at p node) (added p node y) ≡ false
has_room p node y c f =
    let count = count_both (product_count p) node y c in
    let capped = below_cap p y p.limits (product_count p - left_out p p.limits) f.1 (below_left p y f.1) in
    not_above (sum_offered p y (λ i. 1)) (sum_below (product_count p) (λ i. cond (is_in (mark_at node i)) 1 0)) (added p node y) (most_offered p) count capped
  where
    not_above : (s a b t : ℕ) → s ≡ a + b → s ≤ t → nat_lt (t - a) b ≡ false
    not_above s a b t e l = let h : b ≤ t - a = omega arith in grind (arith, nat_tests)

-- ---- The bound.

-- A completion with room brings no more than the bound.
pub room_bounded : (p : ProblemData) (node : List Mark) (y : List Bool) → Completes node y → nat_lt (room_at p node) (added p node y) ≡ false → value_of p y ≤ tangent_bound p node
room_bounded p node y c e =
    floor (value_of p y) (tangent_at p node y) (greatest (within_cap p node (tangent_at p node)) node) (value_tangent p node y c e) (capped_most p node (tangent_at p node) y c e)
  where
    floor : (v t g : ℕ) → v * parts ≤ t → t ≤ g → v ≤ g / parts
    floor v t g h l = (le-div_iff_mul-le {k = parts} {x = v} {y = g} (omega arith)).1 (omega arith)

tangent_bounded : (p : ProblemData) (node : List Mark) (y : List Bool) → Completes node y → IsFeasible p y → value_of p y ≤ tangent_bound p node
tangent_bounded p node y c f = room_bounded p node y c (has_room p node y c f)

-- ---- The laws.

lesser : (v a b : ℕ) → v ≤ a → v ≤ b → v ≤ min a b
lesser v a b l m = omega arith

-- The next product is Open.
next_open : (p : ProblemData) (node : List Mark) (order : List ℕ) → length node ≡ product_count p → IsOpenOf node (next_in p node order)
next_open p node [] l = (mixed_lawful p).next node l
next_open p node (i ∷ order) l = by_mark (is_open (mark_at node i)) refl (next_open p node order l)
  where
    by_mark : (b : Bool) → is_open (mark_at node i) ≡ b → IsOpenOf node (next_in p node order) → IsOpenOf node (cond b (Some i) (next_in p node order))
    by_mark true e rest = is_open-true (mark_at node i) e
    by_mark false e rest = rest

pub tangent_lawful : (p : ProblemData) (order : List ℕ) → IsLawful (tangent_rules p order)
tangent_lawful p order = record {
  clashing = (mixed_lawful p).clashing;
  full = (mixed_lawful p).full;
  bounded = λ node x l c f. (let r = lesser (value_of p x) (greatest_sum p node) (tangent_bound p node) (value_bounded p node x c) (tangent_bounded p node x c f) in omega (arith, ints));
  next = λ node l. next_open p node order l;
}

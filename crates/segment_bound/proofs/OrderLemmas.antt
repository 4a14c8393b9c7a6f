-- The products by falling margin: what holds of each, sums over them, and that a sort gives them.
use Rattle.std.proofs.Common.{◌≡◌, ℕ, zero, suc, ◌+◌, ◌-◌, ◌<◌, ◌≤◌, false, List, [], ◌∷◌, length, get_or, refl, sym, ap, ◌∙◌, subst, arith, inl, inr, length-append}
use Rattle.std.specs.Prelude.{sum_by}
use Rattle.std.specs.List.{All, AllPairs}
use Rattle.std.specs.List.Sorted.{IsPermutation, IsNonDecreasingBy, IsSortedByKey, IsStableByKey}
use Rattle.std.specs.Ordering.{nat_cmp, is_lt}
use Rattle.std.proofs.lemmas.Bool.{cases_eq}
use Rattle.std.proofs.lemmas.Bool.Decides.{nat_tests}
use Rattle.std.proofs.lemmas.List.Elements.{All-push, All-nil, All-cons}
use Rattle.std.proofs.lemmas.List.Kept.{AllPairs-cons}
use Rattle.std.proofs.lemmas.List.Sums.{sum_by_push}
use Rattle.std.proofs.Math.ListN.{get_or-append}
use Rattle.std.proofs.lemmas.List.{get_or_push}
use Rattle.std.proofs.lemmas.List.Sorted.{ties_still_rise, All-permutation, IsPermutation-sym, length_permutation, sum_by-IsPermutation}
use Rattle.offer_model.specs.Assortments.{sum_below}
use Rattle.offer_model.specs.Problems.{ProblemData, product_count, margin_of}
use Rattle.offer_model.specs.Validity.{IsProblem}
use Rattle.offer_model.proofs.EarningLemmas.{margin_most}
use Rattle.segment_bound.specs.declared.order.Ranked.{Ranked}
use Rattle.segment_bound.specs.Orders.{ranked_at, ranked, Precedes, IsOrder, listed_at}
use Rattle.segment_bound.specs.Kept.{IsListed}

-- ---- The products in catalogue order.

-- There are n of them.
pub length-ranked : (p : ProblemData) (n : ℕ) → length (ranked p n) ≡ n
length-ranked p zero = refl
length-ranked p (suc n) = let before = length-ranked p n in let e = length-append (ranked p n) (ranked_at p n ∷ []) in omega arith

-- The one at place k is product k.
pub get_or-ranked : (p : ProblemData) (n k : ℕ) (d : Ranked) → k < n → get_or (ranked p n) k d ≡ ranked_at p k
get_or-ranked p zero k d l = absurd (omega arith)
get_or-ranked p (suc n) k d l = elim (cases_eq k n) [
  | inl e ↦ rw e (get_or_push (ranked p n) (ranked_at p n) d n (length-ranked p n))
  | inr ne ↦ (let long = length-ranked p n in get_or-append (ranked p n) (ranked_at p n ∷ []) d k (omega arith) ∙ get_or-ranked p n k d (omega arith))
]

-- What holds of each product holds of each in the list.
pub All-ranked : (p : ProblemData) (P : Ranked → Type 0) (n : ℕ) → ((i : ℕ) → i < n → P (ranked_at p i)) → All P (ranked p n)
All-ranked p P zero h = All-nil P
All-ranked p P (suc n) h = All-push P (ranked p n) (ranked_at p n) (All-ranked p P n (λ i l. h i (omega arith))) (h n (omega arith))

-- ---- The order.

-- It has as many products as the problem.
pub length-order : (p : ProblemData) (order : List Ranked) → IsOrder p order → length order ≡ product_count p
length-order p order o = length_permutation (ranked p (product_count p)) order o.all ∙ length-ranked p (product_count p)

-- What holds of each product of the problem holds of each in the order.
pub All-order : (p : ProblemData) (P : Ranked → Type 0) (order : List Ranked) → IsPermutation (ranked p (product_count p)) order
    → ((i : ℕ) → i < product_count p → P (ranked_at p i)) → All P order
All-order p P order all h = All-permutation P (ranked p (product_count p)) order all (All-ranked p P (product_count p) h)

-- And the other way round.
pub from_order : (p : ProblemData) (order : List Ranked) → IsOrder p order → (P : Ranked → Type 0) → All P order → (i : ℕ) → i < product_count p → P (ranked_at p i)
from_order p order o P h i l =
    let all = All-permutation P order (ranked p (product_count p)) (IsPermutation-sym (ranked p (product_count p)) order o.all) h in
    let long = length-ranked p (product_count p) in
    let d : Ranked = record { margin = 0; product = 0 } in
    subst P (get_or-ranked p (product_count p) i d l) (all i d (omega arith))

-- Each is a product of the problem, with a margin in its range.
pub order_listed : (p : ProblemData) (order : List Ranked) → IsProblem p → IsOrder p order → All (IsListed (product_count p)) order
order_listed p order v o = All-order p (IsListed (product_count p)) order o.all (λ i l. (l, margin_most p i v l))

-- Each has the margin of its product.
abbrev pub IsOf : ProblemData → Ranked → Type 0
IsOf p q = (q.margin ≡ margin_of p q.product) × (q.product < product_count p)

pub order_of : (p : ProblemData) (order : List Ranked) → IsOrder p order → All (IsOf p) order
order_of p order o = All-order p (IsOf p) order o.all (λ i l. (refl, l))

-- A sum over the order is a sum over the products.
pub sum_ranked : (p : ProblemData) (f : Ranked → ℕ) (n : ℕ) → sum_by f (ranked p n) ≡ sum_below n (λ i. f (ranked_at p i))
sum_ranked p f zero = refl
sum_ranked p f (suc n) = sum_by_push f (ranked p n) (ranked_at p n) ∙ ap (λ s. s + f (ranked_at p n)) (sum_ranked p f n)

pub sum_order : (p : ProblemData) (order : List Ranked) → IsOrder p order → (f : Ranked → ℕ) → sum_by f order ≡ sum_below (product_count p) (λ i. f (ranked_at p i))
sum_order p order o f = sum_by-IsPermutation f (ranked p (product_count p)) order o.all ∙ sum_ranked p f (product_count p)

-- ---- Falling lists, by recursion.

abbrev pub Falling : List Ranked → Type 0
Falling [] = Unit {0}
Falling (q ∷ qs) = All (Precedes q) qs × Falling qs

-- A list each of whose items may stand before the later ones falls.
pub Falling-from_pairs : (qs : List Ranked) → AllPairs Precedes qs → Falling qs
Falling-from_pairs [] h = tt
Falling-from_pairs (q ∷ qs) h = (
  λ k d l. h 0 (suc k) d (omega arith) (omega arith),
  Falling-from_pairs qs (λ i j d l m. h (suc i) (suc j) d (omega arith) (omega arith)),
)

pub pairs_from_falling : (qs : List Ranked) → Falling qs → AllPairs Precedes qs
pairs_from_falling [] h = λ i j d l m. absurd (omega arith)
pairs_from_falling (q ∷ qs) h = AllPairs-cons Precedes q qs h.0 (pairs_from_falling qs h.1)

-- No margin is above one that stands before it.
pub margin_falls : (order : List Ranked) (r j : ℕ) → AllPairs Precedes order → r ≤ j → j < length order → (listed_at order j).margin ≤ (listed_at order r).margin
margin_falls order r j falling from below = elim (cases_eq j r) [
  | inl e ↦ rw e (omega arith)
  | inr ne ↦ lower (listed_at order r) (listed_at order j) (falling r j (record { margin = 0; product = 0 }) (omega arith) below)
]
  where
    lower : (a b : Ranked) → Precedes a b → b.margin ≤ a.margin
    lower a b (inl l) = omega (arith, l)
    lower a b (inr l) = let e = l.0 in omega (arith, e)

Precedes-trans : (a b c : Ranked) → Precedes a b → Precedes b c → Precedes a c
Precedes-trans a b c (inl p) (inl q) = inl (omega arith)
Precedes-trans a b c (inl p) (inr q) = inl (let e = q.0 in omega arith)
Precedes-trans a b c (inr p) (inl q) = inl (let e = p.0 in omega arith)
Precedes-trans a b c (inr p) (inr q) = inr (q.0 ∙ p.0, (let e = p.1 in let f = q.1 in omega arith))

-- It is enough that each may stand before the next.
Falling-from_next : (d : Ranked) (qs : List Ranked) → ((k : ℕ) → suc k < length qs → Precedes (get_or qs k d) (get_or qs (suc k) d)) → Falling qs
Falling-from_next d [] h = tt
Falling-from_next d (q ∷ []) h = (All-nil (Precedes q), tt)
Falling-from_next d (q ∷ s ∷ qs) h =
    let rest = Falling-from_next d (s ∷ qs) (λ k l. h (suc k) (omega arith)) in
    let first = h 0 (omega arith) in
    (All-cons (Precedes q) s qs first (λ k e l. Precedes-trans q s (get_or qs k e) first (rest.0 k e l)), rest)

-- ---- The sort.

not_below : (a b : ℕ) → b ≤ a → is_lt (nat_cmp a b) ≡ false
not_below a b l = grind (arith, nat_tests)

ranked_rising : (p : ProblemData) (n : ℕ) → IsSortedByKey (λ (q : Ranked). q.product) nat_cmp (ranked p n)
ranked_rising p n k d z l =
    let long = length-ranked p n in
    let a : (get_or (ranked p n) k d).product ≡ k = ap (λ (q : Ranked). q.product) (get_or-ranked p n k d (omega arith)) in
    let b : (get_or (ranked p n) (k + 1) d).product ≡ k + 1 = ap (λ (q : Ranked). q.product) (get_or-ranked p n (k + 1) d (omega arith)) in
    not_below (get_or (ranked p n) (k + 1) d).product (get_or (ranked p n) k d).product (omega arith)

neighbour : (top : ℕ) (a b : Ranked) → a.margin ≤ top → b.margin ≤ top → top - a.margin ≤ top - b.margin
    → (top - a.margin ≡ top - b.margin → a.product ≤ b.product) → Precedes a b
neighbour top a b la lb h e = elim (cases_eq b.margin a.margin) [ inl s ↦ inr (s, e (omega arith)) | inr n ↦ inl (omega arith) ]

-- A stable sort of the products by what their margins lack of a top is the order.
pub sorted_order : (p : ProblemData) (top : ℕ) (xs ys : List Ranked) → IsProblem p → 1000000000 ≤ top → xs ≡ ranked p (product_count p) → IsPermutation xs ys
    → IsNonDecreasingBy (λ (q : Ranked). top - q.margin) ys → IsStableByKey (λ (q : Ranked). top - q.margin) nat_cmp xs ys → IsOrder p ys
sorted_order p top xs ys v t e perm up stable =
    let all : IsPermutation (ranked p (product_count p)) ys = subst (λ (zs : List Ranked). IsPermutation zs ys) e perm in
    let small = All-order p (λ (q : Ranked). q.margin ≤ top) ys all (λ i l. (let m = margin_most p i v l in omega arith)) in
    let rising : IsSortedByKey (λ (q : Ranked). q.product) nat_cmp xs = subst (λ (zs : List Ranked). IsSortedByKey (λ (q : Ranked). q.product) nat_cmp zs) (sym e) (ranked_rising p (product_count p)) in
    let d : Ranked = record { margin = 0; product = 0 } in
    record {
      all = all;
      falling = pairs_from_falling ys (Falling-from_next d ys (λ k l.
          let one : k + 1 ≡ suc k = omega arith in
          let m : k + 1 < length ys = omega arith in
          subst (λ j. Precedes (get_or ys k d) (get_or ys j d)) one
          (neighbour top (get_or ys k d) (get_or ys (k + 1) d) (small k d (omega arith)) (small (k + 1) d m) (up k (k + 1) d (omega arith) m)
          (ties_still_rise (λ (q : Ranked). q.product) (λ (q : Ranked). top - q.margin) xs ys rising stable k d m))));
    }

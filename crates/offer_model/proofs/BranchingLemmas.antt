-- The product that a branch is on: there is one where a product is Open, and no other.
use Rattle.std.proofs.Common.{◌≡◌, ◌≢◌, ℕ, zero, suc, ◌<◌, ◌≤◌, ◌⊎◌, List, length, refl, sym, arith, inl, inr, subst}
use Rattle.std.proofs.lemmas.Bool.{cases_lt, cases_eq}
use Rattle.offer_model.specs.declared.node.Mark.{Mark}
use Rattle.offer_model.specs.declared.node.Mark.TheVariants.{In, Out, Open}
use Rattle.offer_model.specs.Problems.{ProblemData, margin_of}
use Rattle.offer_model.specs.Nodes.{mark_at}
use Rattle.offer_model.specs.Branching.{GoesFirst, IsDearestOpen}
use Rattle.offer_model.proofs.NodeLemmas.{open_inside}

-- Of two products not both go first.
first_apart : (p : ProblemData) (i j : ℕ) → GoesFirst p i j → GoesFirst p j i → ⊥
first_apart p i j (inl a) (inl b) = omega arith
first_apart p i j (inl a) (inr b) = omega (arith, b.0)
first_apart p i j (inr a) (inl b) = omega (arith, a.0)
first_apart p i j (inr a) (inr b) = omega (arith, a.1, b.1)

-- Two dearest Open products are one.
pub dearest_one : (p : ProblemData) (node : List Mark) (i j : ℕ) → IsDearestOpen p node i → IsDearestOpen p node j → i ≡ j
dearest_one p node i j h k = elim (cases_eq i j) [
  | inl e ↦ e
  | inr d ↦ absurd (first_apart p i j (h.first j k.open_mark (λ e. d (sym e))) (k.first i h.open_mark d))
]

-- ---- There is one where a product is Open.

-- The dearest of the Open products below k.
record IsDearestBelow (p : ProblemData) (node : List Mark) (k i : ℕ) : Type 0 where
  open_mark : mark_at node i ≡ Open
  below : i < k
  first : (j : ℕ) → j < k → mark_at node j ≡ Open → j ≢ i → GoesFirst p i j

NoneBelow : List Mark → ℕ → Type 0
NoneBelow node k = (i : ℕ) → i < k → mark_at node i ≡ Open → ⊥

settled_next : (p : ProblemData) (node : List Mark) (k : ℕ) → (mark_at node k ≡ Open → ⊥) → ((i : ℕ) × IsDearestBelow p node k i) ⊎ NoneBelow node k
    → ((i : ℕ) × IsDearestBelow p node (suc k) i) ⊎ NoneBelow node (suc k)
unfolding NoneBelow
settled_next p node k no_open (inl h) = inl (h.0, record { open_mark = h.1.open_mark; below = (let l = h.1.below in omega arith); first = at })
  where
    at : (j : ℕ) → j < suc k → mark_at node j ≡ Open → j ≢ h.0 → GoesFirst p h.0 j
    at j l o d = elim (cases_lt j k) [ inl a ↦ h.1.first j a o d | inr a ↦ (let e : j ≡ k = omega arith in absurd (no_open (subst (λ z. mark_at node z ≡ Open) e o))) ]
settled_next p node k no_open (inr none) = inr (λ i l o. elim (cases_lt i k) [ inl a ↦ none i a o | inr a ↦ (let e : i ≡ k = omega arith in no_open (subst (λ z. mark_at node z ≡ Open) e o)) ])

open_next : (p : ProblemData) (node : List Mark) (k : ℕ) → mark_at node k ≡ Open → ((i : ℕ) × IsDearestBelow p node k i) ⊎ NoneBelow node k
    → (i : ℕ) × IsDearestBelow p node (suc k) i
unfolding NoneBelow
open_next p node k own (inr none) = (k, record { open_mark = own; below = omega arith; first = at })
  where
    at : (j : ℕ) → j < suc k → mark_at node j ≡ Open → j ≢ k → GoesFirst p k j
    at j l o d = elim (cases_lt j k) [ inl a ↦ absurd (none j a o) | inr a ↦ absurd (d (omega arith)) ]
open_next p node k own (inl h) = by_margin (cases_lt (margin_of p h.0) (margin_of p k))
  where
    dearer : margin_of p h.0 < margin_of p k → (j : ℕ) → j < suc k → mark_at node j ≡ Open → j ≢ k → GoesFirst p k j
    dearer less j l o d = elim (cases_eq j h.0) [
      | inl e ↦ inl (rw e less)
      | inr other ↦ elim (h.1.first j (omega arith) o other) [ inl a ↦ inl (omega arith) | inr a ↦ inl (let e = a.0 in omega arith) ]
    ]

    kept : margin_of p k ≤ margin_of p h.0 → (j : ℕ) → j < suc k → mark_at node j ≡ Open → j ≢ h.0 → GoesFirst p h.0 j
    kept most j l o d = elim (cases_lt j k) [
      | inl a ↦ h.1.first j a o d
      | inr a ↦ (let e : j ≡ k = omega arith in let first = h.1.below in rw e (elim (cases_lt (margin_of p k) (margin_of p h.0)) [
        | inl b ↦ inl b
        | inr b ↦ inr (omega arith, first)
      ]))
    ]

    by_margin : (margin_of p h.0 < margin_of p k) ⊎ (margin_of p k ≤ margin_of p h.0) → (i : ℕ) × IsDearestBelow p node (suc k) i
    by_margin (inl less) = (k, record { open_mark = own; below = omega arith; first = dearer less })
    by_margin (inr most) = (h.0, record { open_mark = h.1.open_mark; below = (let l = h.1.below in omega arith); first = kept most })

is_open_or : (m : Mark) → (m ≡ Open) ⊎ (m ≡ Open → ⊥)
is_open_or Open = inl refl
is_open_or In = inr (λ e. cc)
is_open_or Out = inr (λ e. cc)

below_or_none : (p : ProblemData) (node : List Mark) (k : ℕ) → ((i : ℕ) × IsDearestBelow p node k i) ⊎ NoneBelow node k
unfolding NoneBelow
below_or_none p node zero = inr (λ i l o. absurd (omega arith))
below_or_none p node (suc k) = elim (is_open_or (mark_at node k)) [
  | inl own ↦ inl (open_next p node k own (below_or_none p node k))
  | inr no_open ↦ settled_next p node k no_open (below_or_none p node k)
]

-- There is a dearest Open product, or none is Open.
pub dearest_or_none : (p : ProblemData) (node : List Mark) → ((i : ℕ) × IsDearestOpen p node i) ⊎ ((i : ℕ) → i < length node → mark_at node i ≢ Open)
unfolding NoneBelow
dearest_or_none p node = elim (below_or_none p node (length node)) [
  | inl h ↦ inl (h.0, record { open_mark = h.1.open_mark; first = λ j o d. h.1.first j (open_inside node j o) o d })
  | inr none ↦ inr none
]

-- What a search asks at its nodes is so or it isn't.
use Rattle.std.proofs.Common.{◌≡◌, ◌≢◌, ℕ, zero, suc, ◌<◌, ◌≤◌, ◌⊎◌, Bool, true, false, IsTrue, List, [], ◌∷◌, length, refl, sym, arith, subst, inl, inr}
use Rattle.std.specs.Prelude.{Any, Some, pos, negsuc, slice_index_or}
use Rattle.std.proofs.lemmas.Int.{ints}
use Rattle.std.proofs.lemmas.Bool.{cases_lt, cases_eq}
use Rattle.std.proofs.Math.Nat.{eq-or-lt_of_le}
use lib.IntN.{ℤ}
use Rattle.offer_model.specs.declared.node.Mark.{Mark}
use Rattle.offer_model.specs.declared.node.Mark.TheVariants.{In, Out, Open}
use Rattle.offer_model.specs.declared.products.Product.{Product}
use Rattle.offer_model.specs.declared.products.Limit.{Limit}
use Rattle.offer_model.specs.declared.products.Limit.TheVariants.{Total, Category, Requires, Shelf, Ladder}
use Rattle.offer_model.specs.Assortments.{IsBefore, offers}
use Rattle.offer_model.specs.Problems.{ProblemData, product_count, product_at}
use Rattle.offer_model.specs.Limits.{MayStand, Meets}
use Rattle.offer_model.specs.Nodes.{fill_of, settled_node, settled_mark, ClashesAt, Clashes}
use Rattle.proof_lines.specs.Closing.{BoundCloses}

abbrev pub Decided : Type 0 → Type 0
Decided P = P ⊎ (P → ⊥)

not_so : {P : Type 0} → Decided P → Decided (P → ⊥)
not_so (inl p) = inr (λ n. n p)
not_so (inr n) = inl n

both : {P Q : Type 0} → Decided P → Decided Q → Decided (P × Q)
both (inl p) (inl q) = inl (p, q)
both (inl p) (inr n) = inr (λ h. n h.1)
both (inr n) d = inr (λ h. n h.0)

if_so : {P Q : Type 0} → Decided P → Decided Q → Decided (P → Q)
if_so d (inl q) = inl (λ p. q)
if_so (inl p) (inr n) = inr (λ f. n (f p))
if_so (inr m) (inr n) = inl (λ p. absurd (m p))

at_most : (a b : ℕ) → Decided (a ≤ b)
at_most a b = by_order (cases_lt b a)
  where
    by_order : (b < a) ⊎ (a ≤ b) → Decided (a ≤ b)
    by_order (inl l) = inr (λ h. omega arith)
    by_order (inr l) = inl l

is_true : (b : Bool) → Decided (IsTrue b)
is_true true = inl refl
is_true false = inr (λ h. cc)

-- Of each number below n.
all_below : (n : ℕ) (P : ℕ → Type 0) → ((i : ℕ) → Decided (P i)) → Decided ((i : ℕ) → i < n → P i)
all_below zero P d = inl (λ i l. absurd (omega arith))
all_below (suc n) P d = by_last (all_below n P d) (d n)
  where
    by_last : Decided ((i : ℕ) → i < n → P i) → Decided (P n) → Decided ((i : ℕ) → i < suc n → P i)
    by_last (inr some) last = inr (λ h. some (λ i l. h i (omega arith)))
    by_last (inl all) (inr not) = inr (λ h. not (h n (omega arith)))
    by_last (inl all) (inl last) = inl (λ i l. by_place i (eq-or-lt_of_le (omega arith)))
      where
        by_place : (i : ℕ) → (i ≡ n) ⊎ (i < n) → P i
        by_place i (inl e) = subst P (sym e) last
        by_place i (inr b) = all i b

-- Of some element of a list.
any : {X : Type 0} (P : X → Type 0) → ((x : X) → Decided (P x)) → (xs : List X) → Decided (Any P xs)
any P d [] = inr (λ h. let below = h.2 in absurd (omega arith))
any {X} P d (y ∷ ys) = by_first (d y) (any P d ys)
  where
    by_place : (P y → ⊥) → (Any P ys → ⊥) → (k : ℕ) (x : X) → k < length (y ∷ ys) → slice_index_or (y ∷ ys) k x ≡ x → P x → ⊥
    by_place first others zero x l e p = first (subst P (sym e) p)
    by_place first others (suc k) x l e p = others (k, x, omega arith, e, p)

    by_first : Decided (P y) → Decided (Any P ys) → Decided (Any P (y ∷ ys))
    by_first (inl p) others = inl (0, y, omega arith, refl, p)
    by_first (inr n) (inl a) = inl (suc a.0, a.1, let l = a.2 in omega arith, a.3, a.4)
    by_first (inr n) (inr m) = inr (λ a. by_place n m a.0 a.1 a.2 a.3 a.4)

-- ---- Limits.

stands : (a b : Product) → Decided (MayStand a b)
stands a b = both (not_so (cases_eq a.grade b.grade)) (if_so (at_most (suc a.grade) b.grade) (at_most a.price b.price))

-- Two products of an assortment, where they are on the ladder.
abbrev StandTogether : ProblemData → List Bool → ℕ → ℕ → ℕ → Type 0
StandTogether p x l i j = i ≢ j → IsTrue (offers x i) → IsTrue (offers x j) → (product_at p i).ladder ≡ l → (product_at p j).ladder ≡ l
    → MayStand (product_at p i) (product_at p j)

together : (p : ProblemData) (x : List Bool) (l i j : ℕ) → Decided (StandTogether p x l i j)
together p x l i j = if_so (not_so (cases_eq i j)) (if_so (is_true (offers x i)) (if_so (is_true (offers x j))
    (if_so (cases_eq (product_at p i).ladder l) (if_so (cases_eq (product_at p j).ladder l) (stands (product_at p i) (product_at p j))))))

ladder : (p : ProblemData) (x : List Bool) (l : ℕ) → Decided (Meets p x (Ladder l))
ladder p x l = in_order (all_below (product_count p) (λ i. (j : ℕ) → j < product_count p → StandTogether p x l i j)
    (λ i. all_below (product_count p) (StandTogether p x l i) (together p x l i)))
  where
    in_order : Decided ((i : ℕ) → i < product_count p → (j : ℕ) → j < product_count p → StandTogether p x l i j) → Decided (Meets p x (Ladder l))
    in_order (inl all) = inl (λ i j b c. all i b j c)
    in_order (inr some) = inr (λ keeps. some (λ i b j c. keeps i j b c))

-- Whether an assortment keeps to a limit.
pub meets : (p : ProblemData) (x : List Bool) (limit : Limit) → Decided (Meets p x limit)
meets p x (Total cap) = at_most _ cap
meets p x (Category c cap) = at_most _ cap
meets p x (Requires a b) = if_so (is_true (offers x a)) (is_true (offers x b))
meets p x (Shelf space) = at_most _ space
meets p x (Ladder l) = ladder p x l

is_marked_in : (m : Mark) → Decided (m ≡ In)
is_marked_in In = inl refl
is_marked_in Out = inr (λ e. cc)
is_marked_in Open = inr (λ e. cc)

is_marked_out : (m : Mark) → Decided (m ≡ Out)
is_marked_out In = inr (λ e. cc)
is_marked_out Out = inl refl
is_marked_out Open = inr (λ e. cc)

clashes_at : (p : ProblemData) (node : List Mark) (limit : Limit) → Decided (ClashesAt p node limit)
clashes_at p node (Requires a b) = both (is_marked_in (settled_mark p node a)) (is_marked_out (settled_mark p node b))
clashes_at p node (Total cap) = not_so (meets p (fill_of (settled_node p node)) (Total cap))
clashes_at p node (Category c cap) = not_so (meets p (fill_of (settled_node p node)) (Category c cap))
clashes_at p node (Shelf space) = not_so (meets p (fill_of (settled_node p node)) (Shelf space))
clashes_at p node (Ladder l) = not_so (meets p (fill_of (settled_node p node)) (Ladder l))

-- Whether a node clashes.
pub clashes : (p : ProblemData) (node : List Mark) → Decided (Clashes p node)
clashes p node = any (ClashesAt p node) (clashes_at p node) p.limits

-- ---- Bounds.

pub before : (x y : List Bool) → Decided (IsBefore x y)
before [] y = inr (λ h. h)
before (b ∷ x) [] = inr (λ h. h)
before (false ∷ x) (true ∷ y) = inl tt
before (true ∷ x) (false ∷ y) = inr (λ h. h)
before (true ∷ x) (true ∷ y) = before x y
before (false ∷ x) (false ∷ y) = before x y

-- Whether a bound closes a node.
pub closes : (x : List Bool) (node : List Mark) (z : ℤ) → Decided (BoundCloses x node (Some z))
closes x node (negsuc n) = inl (inl (omega (arith, ints)))
closes x node (pos (suc n)) = inr never
  where
    never : BoundCloses x node (Some (pos (suc n))) → ⊥
    never (inl below) = omega (arith, ints)
    never (inr tie) = let e = tie.0 in omega (arith, ints)
closes x node (pos zero) = by_order (before (fill_of node) x)
  where
    by_order : Decided (IsBefore (fill_of node) x) → Decided (BoundCloses x node (Some (pos 0)))
    by_order (inr after) = inl (inr (refl, after))
    by_order (inl first) = inr (λ h. never h)
      where
        never : BoundCloses x node (Some (pos 0)) → ⊥
        never (inl below) = omega (arith, ints)
        never (inr tie) = tie.1 first

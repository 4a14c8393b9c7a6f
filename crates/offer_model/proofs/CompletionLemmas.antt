-- Completions of a node, product by product.
use Rattle.std.specs.Prelude.{◌==◌}
use Rattle.std.proofs.Common.{◌≡◌, ℕ, Bool, true, false, cond, List, [], ◌∷◌, length, refl, arith, suc, zero, ◌<◌, ◌≤◌}
use Rattle.std.specs.Prelude.{pos, negsuc, ◌≤ℤ◌, slice_set}
use Rattle.std.proofs.lemmas.Int.{ints}
use lib.IntN.{ℤ}
use Rattle.offer_model.specs.declared.node.Mark.{Mark}
use Rattle.offer_model.specs.declared.node.Mark.TheVariants.{In, Out, Open}
use Rattle.offer_model.specs.declared.products.Limit.{Limit}
use Rattle.offer_model.specs.declared.products.Limit.TheVariants.{Total, Category, Requires, Shelf, Ladder}
use Rattle.offer_model.specs.Assortments.{offers, sum_below}
use Rattle.offer_model.specs.Problems.{ProblemData, product_count, product_at}
use Rattle.offer_model.specs.Limits.{Meets, IsFeasible}
use Rattle.offer_model.specs.Nodes.{mark_at, open_node, Agrees, Completes, fill_of, settled_node, ClashesAt, Clashes}
use Rattle.offer_model.specs.Prices.{Prices, worth_of, greatest_worth, most_of}
use Rattle.offer_model.proofs.SumLemmas.{sum_mono, sum_le}

-- A completion agrees with the mark of each product.
pub Completes-agrees : (node : List Mark) (y : List Bool) → Completes node y → (i : ℕ) → Agrees (mark_at node i) (offers y i)
Completes-agrees [] [] c i = refl
Completes-agrees (m ∷ node) (b ∷ y) c zero = c.0
Completes-agrees (m ∷ node) (b ∷ y) c (suc i) = Completes-agrees node y c.1 i
Completes-agrees [] (b ∷ y) c i = absurd c
Completes-agrees (m ∷ node) [] c i = absurd c

-- A completion is as long as the node.
pub Completes-length : (node : List Mark) (y : List Bool) → Completes node y → length y ≡ length node
Completes-length [] [] c = refl
Completes-length (m ∷ node) (b ∷ y) c = let l = Completes-length node y c.1 in omega arith
Completes-length [] (b ∷ y) c = absurd c
Completes-length (m ∷ node) [] c = absurd c

-- An assortment of the node's length completes it where it agrees with each mark.
pub Completes-from_marks : (node : List Mark) (y : List Bool) → length y ≡ length node
    → ((i : ℕ) → i < length node → Agrees (mark_at node i) (offers y i)) → Completes node y
Completes-from_marks [] [] l h = tt
Completes-from_marks (m ∷ node) (b ∷ y) l h = (h 0 (omega arith), Completes-from_marks node y (omega arith) (λ i lt. h (suc i) (omega arith)))
Completes-from_marks [] (b ∷ y) l h = absurd (omega arith)
Completes-from_marks (m ∷ node) [] l h = absurd (omega arith)

-- A completion that agrees with a new mark completes the node with that mark.
pub Completes-set : (node : List Mark) (y : List Bool) (i : ℕ) (m : Mark) → Completes node y → Agrees m (offers y i)
    → Completes (slice_set node i m) y
Completes-set [] [] i m c a = tt
Completes-set (k ∷ node) (b ∷ y) zero m c a = (a, c.1)
Completes-set (k ∷ node) (b ∷ y) (suc i) m c a = (c.0, Completes-set node y i m c.1 a)
Completes-set [] (b ∷ y) i m c a = absurd c
Completes-set (k ∷ node) [] i m c a = absurd c

-- Each assortment of n products completes the node of which nothing is settled.
pub Completes-open : (n : ℕ) (y : List Bool) → length y ≡ n → Completes (open_node n) y
Completes-open zero [] l = tt
Completes-open (suc n) (b ∷ y) l = (tt, Completes-open n y (omega arith))
Completes-open zero (b ∷ y) l = absurd (omega arith)
Completes-open (suc n) [] l = absurd (omega arith)

-- A feasible completion agrees with the settled marks too.
pub settled_completes : (p : ProblemData) (node : List Mark) (y : List Bool) → IsFeasible p y → Completes node y → Completes (settled_node p node) y
settled_completes p node y f c = c

-- ---- What a completion is worth.

-- What agrees with a mark adds no more than the mark allows.
pub worth_at : (m : Mark) (b : Bool) (z : ℤ) → Agrees m b → cond b z (pos 0) ≤ℤ most_of m z
worth_at In true z a = omega (arith, ints)
worth_at In false z a = cc
worth_at Out true z a = cc
worth_at Out false z a = omega (arith, ints)
worth_at Open true (pos n) a = omega (arith, ints)
worth_at Open true (negsuc n) a = omega (arith, ints)
worth_at Open false (pos n) a = omega (arith, ints)
worth_at Open false (negsuc n) a = omega (arith, ints)

-- No completion is worth more than the node's greatest worth.
pub worth_of-le : (p : ProblemData) (at : Prices) (node : List Mark) (y : List Bool) → Completes node y → worth_of p at y ≤ℤ greatest_worth p node at
worth_of-le p at node y c =
    let h = sum_mono (product_count p) (λ i. cond (offers y i) (at.price i) (pos 0)) (λ i. most_of (mark_at node i) (at.price i))
    (λ i l. worth_at (mark_at node i) (offers y i) (at.price i) (Completes-agrees node y c i)) in
    omega (arith, ints)

-- ---- Clashes.

-- What is In is offered by each completion.
pub fill_offered : (node : List Mark) (y : List Bool) → Completes node y → (i : ℕ) → offers (fill_of node) i ≡ true → offers y i ≡ true
fill_offered (m ∷ node) (b ∷ y) c (suc i) h = fill_offered node y c.1 i h
fill_offered (In ∷ node) (b ∷ y) c zero h = c.0
fill_offered (Out ∷ node) (b ∷ y) c zero h = cc
fill_offered (Open ∷ node) (b ∷ y) c zero h = cc
fill_offered [] y c i h = cc
fill_offered (m ∷ node) [] c i h = absurd c

-- A product that is offered where another choice offers it adds no more.
pub fewer_here : (a b : Bool) (f : ℕ) → (a ≡ true → b ≡ true) → cond a f 0 ≤ cond b f 0
fewer_here false b f h = omega arith
fewer_here true b f h = rw (h refl) (omega arith)

-- An assortment that offers more uses more.
pub fewer : (n : ℕ) (a b : ℕ → Bool) (f : ℕ → ℕ) → ((i : ℕ) → a i ≡ true → b i ≡ true)
    → sum_below n (λ i. cond (a i) (f i) 0) ≤ sum_below n (λ i. cond (b i) (f i) 0)
fewer n a b f h = sum_le n (λ i. cond (a i) (f i) 0) (λ i. cond (b i) (f i) 0) (λ i l. fewer_here (a i) (b i) (f i) (h i))

-- An assortment that offers what another offers breaks the limits that count what is offered, where the other does.
pub breaks_too : (p : ProblemData) (x y : List Bool) (f : ℕ → ℕ) (cap : ℕ) → ((i : ℕ) → offers x i ≡ true → offers y i ≡ true)
    → (sum_below (product_count p) (λ i. cond (offers x i) (f i) 0) ≤ cap → ⊥)
    → sum_below (product_count p) (λ i. cond (offers y i) (f i) 0) ≤ cap → ⊥
breaks_too p x y f cap h k m = let le = fewer (product_count p) (offers x) (offers y) f h in k (omega arith)

-- A completion breaks a limit with which the node clashes.
pub clash_at : (p : ProblemData) (node : List Mark) (y : List Bool) (limit : Limit) → Completes (settled_node p node) y → ClashesAt p node limit → Meets p y limit → ⊥
clash_at p node y (Requires a b) c k m =
    let e = Completes-agrees (settled_node p node) y c a in
    let o = Completes-agrees (settled_node p node) y c b in
    let e' = rw k.0 at e in
    let o' = rw k.1 at o in
    let t = m e' in
    cc
clash_at p node y (Total cap) c k m = breaks_too p (fill_of (settled_node p node)) y (λ i. 1) cap (fill_offered (settled_node p node) y c) k m
clash_at p node y (Category d cap) c k m =
    breaks_too p (fill_of (settled_node p node)) y (λ i. cond ((product_at p i).category == d) 1 0) cap (fill_offered (settled_node p node) y c) k m
clash_at p node y (Shelf space) c k m =
    breaks_too p (fill_of (settled_node p node)) y (λ i. (product_at p i).space) space (fill_offered (settled_node p node) y c) k m
clash_at p node y (Ladder l) c k m =
    let up = fill_offered (settled_node p node) y c in
    k (λ i j li lj d oi oj ki kj. m i j li lj d (up i oi) (up j oj) ki kj)

-- A node that clashes has no feasible completion.
pub clash_none : (p : ProblemData) (node : List Mark) (y : List Bool) → Clashes p node → IsFeasible p y → Completes node y → ⊥
clash_none p node y k f c = clash_at p node y k.1 (settled_completes p node y f c) k.4 (rw k.3 at (f.1 k.0 k.1 k.2))

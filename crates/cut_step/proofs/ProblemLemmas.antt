-- Problems whose limits are all requirements, and their rows.
use Rattle.std.proofs.Common.{◌≡◌, ℕ, Bool, true, cond, List, [], ◌∷◌, length, refl, arith, suc, zero, ◌<◌, eqb, ap, sym, subst, ◌∙◌, get_or}
use Rattle.std.specs.Prelude.{pos, ◌+ℤ◌, ◌-ℤ◌, slice_index}
use Rattle.std.specs.List.{AllByRecursion, filter, list_all, All}
use Rattle.std.proofs.lemmas.List.Elements.{recursion_from_All, All-from_recursion}
use Rattle.std.proofs.lemmas.Int.{ints}
use lib.IntN.{ℤ}
use Rattle.offer_model.specs.declared.products.Limit.{Limit}
use Rattle.offer_model.specs.declared.products.Limit.TheVariants.{Total, Category, Requires, Shelf, Ladder}
use Rattle.offer_model.specs.Problems.{ProblemData, product_count}
use Rattle.offer_model.specs.Limits.{Meets, IsFeasible}
use Rattle.offer_model.specs.LeafBounds.{multipliers_bound, is_priced, priced_limit_at, taken_by, added_by, allowed_by, taken_off, added_to, allowed_in_all, MultipliersFit}
use Rattle.offer_model.specs.Validity.{NamesExisting, is_requires}
use Rattle.offer_model.proofs.CompletionLemmas.{Completes-agrees, Completes-from_marks}
use Rattle.linear_step.specs.Weights.{WeightsData, prices_of}
use Rattle.linear_step.specs.Answers.{IsGreatest, HasNone}
use Rattle.offer_model.specs.declared.node.Mark.{Mark}
use Rattle.offer_model.specs.Assortments.{sum_below, offers}
use Rattle.offer_model.specs.Prices.{int_sum_below, most_of, worth_of}
use Rattle.offer_model.specs.Nodes.{mark_at, Completes}
use Rattle.offer_model.proofs.SumLemmas.{int_sum_below-same, sum_below-same, sum_below-zeros}
use Rattle.cut_step.specs.declared.rows.Row.{Row}
use Rattle.cut_step.specs.Closures.{rows_of, first_of, second_of, AreNamed, Keeps, IsClosure, HasNoClosure, price_at, sum_over, total_of, IsGreatestClosure}
use Rattle.cut_step.specs.Flows.{IsBalanced, bound}
use Rattle.cut_step.specs.Trees.{cap}
use Rattle.cut_step.proofs.ClosingLemmas.{left_priced}

-- ---- The rows.

all_keep : (p : ProblemData) (y : List Bool) (limits : List Limit) → list_all is_requires limits ≡ true → AllByRecursion (Meets p y) limits
    → Keeps (rows_of limits) (offers y)
all_keep p y [] c m k l = absurd (omega arith)
all_keep p y (Requires a b ∷ limits) c m zero l = m.0
all_keep p y (Requires a b ∷ limits) c m (suc k) l = all_keep p y limits c m.1 k (omega arith)
all_keep p y (Total cap ∷ limits) c m k l = cc
all_keep p y (Category d cap ∷ limits) c m k l = cc
all_keep p y (Shelf space ∷ limits) c m k l = cc
all_keep p y (Ladder d ∷ limits) c m k l = cc

keep_all : (p : ProblemData) (y : List Bool) (limits : List Limit) → list_all is_requires limits ≡ true → Keeps (rows_of limits) (offers y)
    → AllByRecursion (Meets p y) limits
keep_all p y [] c m = tt
keep_all p y (Requires a b ∷ limits) c m = (m 0 (omega arith), keep_all p y limits c (λ k l. m (suc k) (omega arith)))
keep_all p y (Total cap ∷ limits) c m = cc
keep_all p y (Category d cap ∷ limits) c m = cc
keep_all p y (Shelf space ∷ limits) c m = cc
keep_all p y (Ladder d ∷ limits) c m = cc

named_all : (p : ProblemData) (limits : List Limit) → list_all is_requires limits ≡ true → AllByRecursion (NamesExisting p) limits
    → AreNamed (rows_of limits) (product_count p)
named_all p [] c m k l = absurd (omega arith)
named_all p (Requires a b ∷ limits) c m zero l = m.0
named_all p (Requires a b ∷ limits) c m (suc k) l = named_all p limits c m.1 k (omega arith)
named_all p (Total cap ∷ limits) c m k l = cc
named_all p (Category d cap ∷ limits) c m k l = cc
named_all p (Shelf space ∷ limits) c m k l = cc
named_all p (Ladder d ∷ limits) c m k l = cc

-- The rows of a problem name its products.
pub rows_named : (p : ProblemData) → list_all is_requires p.limits ≡ true → All (NamesExisting p) p.limits → AreNamed (rows_of p.limits) (product_count p)
rows_named p c m = named_all p p.limits c (recursion_from_All (NamesExisting p) p.limits m)

-- ---- Closed sets and feasible completions.

-- A feasible completion is a closed set that agrees with the node.
pub feasible_closed : (p : ProblemData) (node : List Mark) (y : List Bool) → list_all is_requires p.limits ≡ true → IsFeasible p y → Completes node y
    → IsClosure (rows_of p.limits) node (offers y)
feasible_closed p node y c f n = record {
  keeps = all_keep p y p.limits c (recursion_from_All (Meets p y) p.limits f.1);
  agrees = λ i l. Completes-agrees node y n i;
}

-- The worth of an assortment is the total of its set, with the constant.
pub worth_total : (p : ProblemData) (w : WeightsData) (y : List Bool) → length w.items ≡ product_count p
    → worth_of p (prices_of w) y ≡ w.constant +ℤ total_of w.items (offers y)
worth_total p w y e = ap (λ (n : ℕ). w.constant +ℤ sum_over n (offers y) (price_at w.items)) (sym e)

-- An assortment whose set is the greatest closed one is a feasible completion of greatest worth.
pub closure_greatest : (p : ProblemData) (node : List Mark) (w : WeightsData) (x : List Bool) → list_all is_requires p.limits ≡ true
    → length node ≡ product_count p → length w.items ≡ product_count p → length x ≡ product_count p
    → IsGreatestClosure (rows_of p.limits) node w.items (offers x) → IsGreatest p (prices_of w) node x
closure_greatest p node w x c ln lw lx g = record {
  feasible = (lx, All-from_recursion (Meets p x) p.limits (keep_all p x p.limits c g.closed.keeps));
  completes = Completes-from_marks node x (lx ∙ sym ln) g.closed.agrees;
  most = λ y f n.
      let le = g.most (offers y) (feasible_closed p node y c f n) in
      let a = worth_total p w x lw in
      let b = worth_total p w y lw in
      omega (arith, ints, le, a, b);
}

-- Where no closed set agrees with the node, the node has no feasible completion.
pub none_feasible : (p : ProblemData) (node : List Mark) → list_all is_requires p.limits ≡ true → HasNoClosure (rows_of p.limits) node → HasNone p node
none_feasible p node c none y f n = none (offers y) (feasible_closed p node y c f n)

-- ---- The bound.

filter_same : (limits : List Limit) → list_all is_requires limits ≡ true → filter is_priced limits ≡ limits
filter_same [] c = refl
filter_same (Requires a b ∷ limits) c = ap (λ (l : List Limit). Requires a b ∷ l) (filter_same limits c)
filter_same (Total cap ∷ limits) c = cc
filter_same (Category d cap ∷ limits) c = cc
filter_same (Shelf space ∷ limits) c = cc
filter_same (Ladder d ∷ limits) c = cc

rows_each : (limits : List Limit) → list_all is_requires limits ≡ true → length (rows_of limits) ≡ length limits
rows_each [] c = refl
rows_each (Requires a b ∷ limits) c = let e = rows_each limits c in omega (arith, e)
rows_each (Total cap ∷ limits) c = cc
rows_each (Category d cap ∷ limits) c = cc
rows_each (Shelf space ∷ limits) c = cc
rows_each (Ladder d ∷ limits) c = cc

limit_row : (limits : List Limit) → list_all is_requires limits ≡ true → (k : ℕ) → k < length (rows_of limits)
    → get_or limits k (Ladder 0) ≡ Requires (first_of (rows_of limits) k) (second_of (rows_of limits) k)
limit_row [] c k l = absurd (omega arith)
limit_row (Requires a b ∷ limits) c zero l = refl
limit_row (Requires a b ∷ limits) c (suc k) l = limit_row limits c k (omega arith)
limit_row (Total cap ∷ limits) c k l = cc
limit_row (Category d cap ∷ limits) c k l = cc
limit_row (Shelf space ∷ limits) c k l = cc
limit_row (Ladder d ∷ limits) c k l = cc

-- The k-th limit that has a multiplier is the k-th row.
priced_row : (p : ProblemData) → list_all is_requires p.limits ≡ true → (k : ℕ) → k < length (rows_of p.limits)
    → priced_limit_at p k ≡ Requires (first_of (rows_of p.limits) k) (second_of (rows_of p.limits) k)
priced_row p c k l = ap (λ (x : List Limit). get_or x k (Ladder 0)) (filter_same p.limits c) ∙ limit_row p.limits c k l

price_same : (z a b : ℤ) (m n k l : ℕ) → z ≡ ((a +ℤ pos m) -ℤ pos k) → a ≡ b → m ≡ n → k ≡ l → z ≡ ((b +ℤ pos n) -ℤ pos l)
price_same z a b m n k l h e f g = omega (arith, ints, h, e, f, g)

-- The multipliers fit the problem.
pub amounts_fit : (p : ProblemData) (us : List ℕ) → list_all is_requires p.limits ≡ true → length us ≡ length (rows_of p.limits) → MultipliersFit p us
amounts_fit p us c e = record {
  each = e ∙ rows_each p.limits c ∙ ap length (sym (filter_same p.limits c));
  small = λ k l. rw (priced_row p c k (omega (arith, l, e))) tt;
}

-- The bound of the amounts as multipliers is the bound at what is left.
pub bound_excess : (p : ProblemData) (node : List Mark) (w : WeightsData) (r : List ℤ) (us : List ℕ) → list_all is_requires p.limits ≡ true
    → length w.items ≡ product_count p → length us ≡ length (rows_of p.limits) → IsBalanced (rows_of p.limits) w.items r us
    → multipliers_bound p node us (prices_of w) ≡ w.constant +ℤ bound node (length w.items) (price_at r)
bound_excess p node w r us c lw e b =
    let rows : List Row = rows_of p.limits in
    let row : (k : ℕ) → k < length us → priced_limit_at p k ≡ Requires (first_of rows k) (second_of rows k) = λ k l.
    priced_row p c k (subst (λ (n : ℕ). k < n) e l) in
    let none : allowed_in_all p us ≡ 0 = sum_below-zeros (length us) (λ k. allowed_by (priced_limit_at p k) (slice_index us k)) (λ k l. ap (λ (m : Limit). allowed_by m (slice_index us k)) (row k l)) in
    let on : (i : ℕ) → sum_below (length rows) (λ k. cond (eqb i (second_of rows k)) (slice_index us k) 0) ≡ added_to p us i = λ i. sym (
    sum_below-same (length us) (λ k. added_by (priced_limit_at p k) (slice_index us k) i) (λ k. cond (eqb i (second_of rows k)) (slice_index us k) 0) (λ k l. ap (λ (m : Limit). added_by m (slice_index us k) i) (row k l))
    ∙ ap (λ (n : ℕ). sum_below n (λ k. cond (eqb i (second_of rows k)) (slice_index us k) 0)) e) in
    let off : (i : ℕ) → sum_below (length rows) (λ k. cond (eqb i (first_of rows k)) (slice_index us k) 0) ≡ taken_off p us i = λ i. sym (
    sum_below-same (length us) (λ k. taken_by p (priced_limit_at p k) (slice_index us k) i) (λ k. cond (eqb i (first_of rows k)) (slice_index us k) 0) (λ k l. ap (λ (m : Limit). taken_by p m (slice_index us k) i) (row k l))
    ∙ ap (λ (n : ℕ). sum_below n (λ k. cond (eqb i (first_of rows k)) (slice_index us k) 0)) e) in
    let sums = int_sum_below-same (length w.items) (λ i. most_of (mark_at node i) (price_at r i)) (λ i. most_of (mark_at node i) ((price_at w.items i +ℤ pos (added_to p us i)) -ℤ pos (taken_off p us i)))
    (λ i l. ap (most_of (mark_at node i)) (price_same (price_at r i) (price_at w.items i) (price_at w.items i) _ (added_to p us i) _ (taken_off p us i)
    (left_priced rows w.items r us i b l) refl (on i) (off i))) in
    let there = ap (λ (n : ℕ). int_sum_below n (λ i. most_of (mark_at node i) ((price_at w.items i +ℤ pos (added_to p us i)) -ℤ pos (taken_off p us i)))) lw in
    omega (arith, ints, none, sums, there)

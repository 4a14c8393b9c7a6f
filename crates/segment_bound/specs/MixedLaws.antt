-- The goal of mixed logit keeps the laws of goals. They stand here since the goal's impl can cite only what stands in specs/.
use Rattle.std.specs.Prelude.{◌≡◌, ℕ, ◌<◌, ◌≤◌, nat_lt, Bool, true, false, cond, Option, Some, None, List, [], ◌∷◌, length}
use Rattle.std.proofs.Common.{zero, suc, refl, inl, inr, arith}
use Rattle.std.proofs.lemmas.Bool.{cases_eq}
use Rattle.std.proofs.lemmas.Int.{ints}
use Rattle.offer_model.specs.declared.node.Mark.{Mark}
use Rattle.offer_model.specs.declared.node.Mark.TheVariants.{In, Out, Open}
use Rattle.offer_model.specs.Problems.{ProblemData, product_count, margin_of, segment_at}
use Rattle.offer_model.specs.Revenue.{segment_value, value_of}
use Rattle.offer_model.specs.Nodes.{mark_at, is_open, Completes}
use Rattle.offer_model.proofs.SumLemmas.{sum_le}
use Rattle.offer_model.proofs.CompletionLemmas.{clash_none}
use Rattle.offer_model.proofs.FullNodeLemmas.{full_feasible}
use Rattle.offer_model.proofs.NodeLemmas.{open_inside}
use Rattle.offer_model.proofs.PotentialLemmas.{is_open-true}
use Rattle.tree_search.specs.Goals.{IsLawful, IsOpenOf}
use Rattle.segment_bound.specs.Greatest.{greatest}
use Rattle.segment_bound.specs.Orders.{dearer, dearest_below, dearest}
use Rattle.segment_bound.specs.MixedGoals.{greatest_sum, mixed_rules}

-- ---- No completion brings more than the greatest.

pub most : (f : List Bool → ℕ) (node : List Mark) (y : List Bool) → Completes node y → f y ≤ greatest f node
most f [] [] c = omega arith
most f [] (b ∷ y) c = absurd c
most f (m ∷ node) [] c = absurd c
most f (In ∷ node) (true ∷ y) c = most (λ z. f (true ∷ z)) node y c.1
most f (In ∷ node) (false ∷ y) c = let e = c.0 in absurd cc
most f (Out ∷ node) (true ∷ y) c = let e = c.0 in absurd cc
most f (Out ∷ node) (false ∷ y) c = most (λ z. f (false ∷ z)) node y c.1
most f (Open ∷ node) (true ∷ y) c = let r = most (λ z. f (true ∷ z)) node y c.1 in omega arith
most f (Open ∷ node) (false ∷ y) c = let r = most (λ z. f (false ∷ z)) node y c.1 in omega arith

pub value_bounded : (p : ProblemData) (node : List Mark) (x : List Bool) → Completes node x → value_of p x ≤ greatest_sum p node
value_bounded p node x c = sum_le (length p.segments) (λ k. segment_value p (segment_at p k) x) (λ k. greatest (segment_value p (segment_at p k)) node)
    (λ k l. most (segment_value p (segment_at p k)) node x c)

-- ---- The dearest product is Open.

-- An Open product below n, or none of these is Open.
abbrev IsOpenBelow : List Mark → ℕ → Option ℕ → Type 0
IsOpenBelow node n (Some i) = mark_at node i ≡ Open
IsOpenBelow node n None = (i : ℕ) → i < n → mark_at node i ≡ Open → ⊥

dearer_is_open : (p : ProblemData) (node : List Mark) (n : ℕ) (o : Option ℕ) (b : Bool) → is_open (mark_at node n) ≡ b → IsOpenBelow node n o
    → IsOpenBelow node (suc n) (dearer p node n o)
dearer_is_open p node n None true e h = rw e (is_open-true (mark_at node n) e)
dearer_is_open p node n None false e h = rw e later
  where
    later : (i : ℕ) → i < suc n → mark_at node i ≡ Open → ⊥
    later i l o = elim (cases_eq i n) [ inl same ↦ (let t = rw same at o in let u = rw t at e in cc) | inr other ↦ h i (omega arith) o ]
dearer_is_open p node n (Some i) false e h = rw e h
dearer_is_open p node n (Some i) true e h =
    rw e (elim (nat_lt (margin_of p i) (margin_of p n)) as (λ v. IsOpenBelow node (suc n) (cond v (Some n) (Some i))) [ true ↦ is_open-true (mark_at node n) e | false ↦ h ])

below_is_open : (p : ProblemData) (node : List Mark) (n : ℕ) → IsOpenBelow node n (dearest_below p node n)
below_is_open p node zero = λ i l. absurd (omega arith)
below_is_open p node (suc n) = dearer_is_open p node n (dearest_below p node n) (is_open (mark_at node n)) refl (below_is_open p node n)

open_of : (node : List Mark) (n : ℕ) (o : Option ℕ) → length node ≡ n → IsOpenBelow node n o → IsOpenOf node o
open_of node n (Some i) l h = h
open_of node n None l h = λ i e. h i (let inside = open_inside node i e in omega arith) e

-- ---- The laws.

pub mixed_lawful : (p : ProblemData) → IsLawful (mixed_rules p)
mixed_lawful p = record {
  clashing = λ node x l k c f. clash_none p node x k f c;
  full = λ node l full free. full_feasible p node l full free;
  bounded = λ node x l c f. (let r = value_bounded p node x c in omega (arith, ints));
  next = λ node l. open_of node (product_count p) (dearest p node) l (below_is_open p node (product_count p));
}

-- The goal of the tests, whose assortments are worth the number of products that they offer, or nothing. Own.
use Rattle.std.specs.Prelude.{⊤, ℕ, ◌≤◌, ◌≤ℤ◌, pos, Bool, true, false, cond, if◌then◌else◌, List, length}
use Rattle.std.proofs.Common.{arith, subst}
use Rattle.std.proofs.lemmas.Int.{ints}
use Rattle.offer_model.specs.declared.node.Mark.{Mark}
use Rattle.offer_model.specs.declared.node.Mark.TheVariants.{In, Out, Open}
use Rattle.offer_model.specs.Assortments.{offers, sum_below}
use Rattle.offer_model.specs.Nodes.{mark_at, first_open, Agrees, Completes}
use Rattle.offer_model.proofs.SumLemmas.{sum_le}
use Rattle.offer_model.proofs.CompletionLemmas.{Completes-agrees, Completes-length}
use Rattle.tree_search.specs.Goals.{Rules, IsLawful}
use Rattle.several_step.specs.Opens.{first_is_open}

-- How many of n products are offered.
abbrev pub offered_of : ℕ → List Bool → ℕ
offered_of n x = sum_below n (λ i. cond (offers x i) 1 0)

abbrev pub one_unless_out : Mark → ℕ
one_unless_out In = 1
one_unless_out Open = 1
one_unless_out Out = 0

-- How many of n products aren't Out.
abbrev pub left_of : ℕ → List Mark → ℕ
left_of n node = sum_below n (λ i. one_unless_out (mark_at node i))

-- How many products there are, and whether those that are offered count.
pub record CountingData : Type 0 where
  pub products : ℕ
  pub valued : Bool

-- Each assortment is feasible, and worth the number of products that it offers, or nothing.
abbrev pub counting_rules : CountingData → Rules
counting_rules g = record {
  products = g.products;
  value = λ x. if g.valued then pos (offered_of (length x) x) else pos 0;
  Feasible = λ x. ⊤;
  Clashing = λ node. ⊥;
  bound = λ node. pos (left_of (length node) node);
  next = first_open;
}

-- ---- It keeps the laws. The goal's impl can cite only what stands in specs/.

at_most : (m : Mark) (b : Bool) → Agrees m b → cond b 1 0 ≤ one_unless_out m
at_most In true a = omega arith
at_most In false a = omega arith
at_most Open true a = omega arith
at_most Open false a = omega arith
at_most Out true a = absurd cc
at_most Out false a = omega arith

no_more : (n : ℕ) (node : List Mark) (x : List Bool) → Completes node x → offered_of n x ≤ left_of n node
no_more n node x c = sum_le n (λ i. cond (offers x i) 1 0) (λ i. one_unless_out (mark_at node i))
    (λ i l. at_most (mark_at node i) (offers x i) (Completes-agrees node x c i))

bounded : (valued : Bool) (a b : ℕ) → a ≤ b → (if valued then pos a else pos 0) ≤ℤ pos b
bounded true a b l = omega (arith, ints)
bounded false a b l = omega (arith, ints)

pub counting_lawful : (g : CountingData) → IsLawful (counting_rules g)
counting_lawful g = record {
  clashing = λ node x l k c f. k;
  full = λ node l f k. tt;
  bounded = λ node x l c f. bounded g.valued (offered_of (length x) x) (left_of (length node) node)
      (subst (λ (n : ℕ). offered_of (length x) x ≤ left_of n node) (Completes-length node x c) (no_more (length x) node x c));
  next = λ node l. first_is_open node;
}

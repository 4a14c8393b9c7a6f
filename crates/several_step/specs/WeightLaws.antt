-- The goal of weights keeps the laws of goals. They stand here since the goal's impl can cite only what stands in specs/.
use Rattle.std.specs.Prelude.{int_lt, ◌≡◌, ℕ, ◌-◌, ◌≤◌, Bool, true, false, cond, List, length, ◌≤ℤ◌}
use lib.IntN.{ℤ}
use Rattle.std.proofs.Common.{zero, suc, refl, inl, inr, arith}
use Rattle.std.specs.Int.{int_min}
use Rattle.offer_model.specs.declared.node.Mark.{Mark}
use Rattle.offer_model.specs.declared.node.Mark.TheVariants.{In, Out, Open}
use Rattle.offer_model.specs.Assortments.{offers}
use Rattle.offer_model.specs.Problems.{ProblemData, product_count}
use Rattle.offer_model.specs.Nodes.{mark_at, Agrees, Completes}
use Rattle.offer_model.proofs.CompletionLemmas.{Completes-agrees, clash_none}
use Rattle.linear_weights.specs.Weights.{WeightsData, prices_of}
use Rattle.offer_model.proofs.FullNodeLemmas.{full_feasible, full_completes}
use Rattle.several_step.specs.declared.branch_order.Ranked.{Ranked}
use Rattle.tree_search.specs.Goals.{IsLawful}
use Rattle.several_step.specs.Opens.{next_is_open}
use Rattle.several_step.specs.WeightGoals.{is_opposite, Disagrees, GoalData, rules_of}

-- No choice agrees with opposite marks.
opposite_none : (r m : Mark) (b : Bool) → is_opposite r m ≡ true → Agrees r b → Agrees m b → ⊥
opposite_none In Out true e a c = cc
opposite_none In Out false e a c = cc
opposite_none Out In true e a c = cc
opposite_none Out In false e a c = cc
opposite_none In In b e a c = cc
opposite_none In Open b e a c = cc
opposite_none Out Out b e a c = cc
opposite_none Out Open b e a c = cc
opposite_none Open In b e a c = cc
opposite_none Open Out b e a c = cc
opposite_none Open Open b e a c = cc

disagrees_none : (root node : List Mark) (y : List Bool) → Disagrees root node → Completes root y → Completes node y → ⊥
disagrees_none root node y d a c =
    opposite_none (mark_at root d.0) (mark_at node d.0) (offers y d.0) d.2 (Completes-agrees root y a d.0) (Completes-agrees node y c d.0)

opposite_of : (r m : Mark) → r ≡ In → m ≡ Out → is_opposite r m ≡ true
opposite_of r m e f = rw (e, f) refl

opposite_to : (r m : Mark) → r ≡ Out → m ≡ In → is_opposite r m ≡ true
opposite_to r m e f = rw (e, f) refl

pub weights_lawful : (g : GoalData) → IsLawful (rules_of g)
weights_lawful g = record {
  clashing = λ node x l k c f. elim k [ inl h ↦ clash_none g.problem node x h f.0 c | inr d ↦ disagrees_none g.root node x d f.1 c ];
  full = λ node l full free. (
    full_feasible g.problem node l full (λ k. free (inl k)),
    full_completes g.root node (let long = g.root_long in omega arith) full (λ i h r m. free (inr (i, h, opposite_of _ _ r m))) (λ i h r m. free (inr (i, h, opposite_to _ _ r m))),
  );
  bounded = λ node x l c f. g.bounds.bounds node x f.0 c;
  next = λ node l. next_is_open g.problem.limits g.order node;
}

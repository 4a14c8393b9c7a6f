-- The goal of weights: of the assortments that keep to the limits and complete a root, those of greatest worth, bounded by
-- relaxed prices and the best chains of ladders. Own; the bound is a Lagrange relaxation.
use Rattle.std.specs.Prelude.{◌≡◌, ◌⊎◌, ℕ, ◌<◌, Bool, true, false, List, length, ◌≤ℤ◌}
use lib.IntN.{ℤ}
use Rattle.offer_model.specs.declared.node.Mark.{Mark}
use Rattle.offer_model.specs.declared.node.Mark.TheVariants.{In, Out, Open}
use Rattle.offer_model.specs.Problems.{ProblemData, product_count}
use Rattle.offer_model.specs.Limits.{IsFeasible}
use Rattle.offer_model.specs.Nodes.{mark_at, Completes, Clashes}
use Rattle.offer_model.specs.Prices.{Prices, worth_of}
use Rattle.linear_weights.specs.Weights.{WeightsData, AreWeights, prices_of}
use Rattle.several_step.specs.declared.branch_order.Ranked.{Ranked}
use Rattle.several_step.specs.declared.rungs.Rung.{Rung}
use Rattle.tree_search.specs.Goals.{Rules}
use Rattle.several_step.specs.Chains.{chains_bound}
use Rattle.several_step.specs.ChainFits.{IsList, FitRungs}
use Rattle.several_step.specs.Opens.{next_by}

-- The marks settle a product in opposite ways.
abbrev pub is_opposite : Mark → Mark → Bool
is_opposite In Out = true
is_opposite In In = false
is_opposite In Open = false
is_opposite Out In = true
is_opposite Out Out = false
is_opposite Out Open = false
is_opposite Open In = false
is_opposite Open Out = false
is_opposite Open Open = false

-- The nodes settle some product in opposite ways. No assortment then completes both.
abbrev pub Disagrees : List Mark → List Mark → Type 0
Disagrees root node = (i : ℕ) × (i < length node) × (is_opposite (mark_at root i) (mark_at node i) ≡ true)

abbrev pub weights_rules : ProblemData → Prices → List Mark → WeightsData → List Rung → List Bool → List Ranked → Rules
weights_rules p at root list rungs limited order = record {
  products = product_count p;
  value = worth_of p at;
  Feasible = λ x. IsFeasible p x × Completes root x;
  Clashing = λ node. Clashes p node ⊎ Disagrees root node;
  bound = λ node. chains_bound p node (prices_of list) rungs limited;
  next = next_by p.limits order;
}

-- At the weights no feasible completion of any node is worth more than the bound by the list's prices and these rungs.
pub record AreBounds (p : ProblemData) (w : WeightsData) (list : WeightsData) (rungs : List Rung) (limited : List Bool) : Type 0 where
  pub weights : AreWeights p w
  pub prices : IsList p list
  pub are : FitRungs p rungs limited
  pub bounds : (node : List Mark) (y : List Bool) → IsFeasible p y → Completes node y
      → worth_of p (prices_of w) y ≤ℤ chains_bound p node (prices_of list) rungs limited

-- What the goal is of: the weights, the root, and what bounds.
pub record GoalData : Type 0 where
  pub problem : ProblemData
  pub weights : WeightsData
  pub root : List Mark
  pub list : WeightsData
  pub rungs : List Rung
  pub limited : List Bool
  pub order : List Ranked
  pub bounds : AreBounds problem weights list rungs limited
  pub root_long : length root ≡ product_count problem

abbrev pub rules_of : GoalData → Rules
rules_of g = weights_rules g.problem (prices_of g.weights) g.root g.list g.rungs g.limited g.order

-- What relaxed prices bound, for callers' proofs.
use Rattle.std.proofs.Common.{ℕ, Bool, List, sym, subst}
use Rattle.std.specs.Prelude.{◌≤ℤ◌}
use lib.IntN.{ℤ}
use Rattle.offer_model.specs.declared.node.Mark.{Mark}
use Rattle.offer_model.specs.Problems.{ProblemData}
use Rattle.offer_model.specs.Limits.{IsFeasible}
use Rattle.offer_model.specs.Nodes.{Completes}
use Rattle.offer_model.specs.Prices.{Prices, worth_of, greatest_worth}
use Rattle.offer_model.specs.LeafBounds.{MultipliersFit, relaxed}
use Rattle.offer_model.proofs.MultiplierLemmas.{multipliers_hold}
use Rattle.linear_weights.specs.Weights.{WeightsData, prices_of}
use Rattle.multiplier_bound.specs.Fits.{IsRelaxed, Relaxes}
use Rattle.linear_weights.proofs.WeightLemmas.{greatest_worth-same}

-- No feasible completion of a node is worth more than the greatest worth at the relaxed prices.
pub IsRelaxed-bounds : (p : ProblemData) (us : List ℕ) (at : Prices) (list : WeightsData) (node : List Mark) (y : List Bool) → MultipliersFit p us
    → IsRelaxed p us at list → IsFeasible p y → Completes node y → worth_of p at y ≤ℤ greatest_worth p node (prices_of list)
IsRelaxed-bounds p us at list node y fit r f c =
    let same = greatest_worth-same p node (prices_of list) (relaxed p us at) r.constant r.price in
    subst (λ (z : ℤ). worth_of p at y ≤ℤ z) (sym same) (multipliers_hold p node us at y c f fit)

-- The same of prices that some multipliers have relaxed.
pub Relaxes-bounds : (p : ProblemData) (at : Prices) (list : WeightsData) (node : List Mark) (y : List Bool) → Relaxes p at list → IsFeasible p y
    → Completes node y → worth_of p at y ≤ℤ greatest_worth p node (prices_of list)
Relaxes-bounds p at list node y r f c = IsRelaxed-bounds p r.us at list node y r.fit.fit r.relaxed f c

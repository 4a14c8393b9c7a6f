-- What holds from one trial to the next, and from one mark to the next. Only proofs speak of it.
use Rattle.std.proofs.Common.{◌≡◌, ◌≢◌, ℕ, ◌+◌, ◌*◌, ◌^◌, ◌<◌, ◌≤◌, ◌⊎◌, Bool, true, false, List, [], ◌∷◌, length}
use Rattle.offer_model.specs.declared.node.Mark.{Mark}
use Rattle.offer_model.specs.declared.node.Mark.TheVariants.{In, Out, Open}
use Rattle.offer_model.specs.declared.products.Fraction.{Fraction}
use Rattle.offer_model.specs.Problems.{ProblemData, product_count}
use Rattle.offer_model.specs.Ranges.{gain_bound, weight_bound}
use Rattle.offer_model.specs.Limits.{IsFeasible}
use Rattle.offer_model.specs.Nodes.{mark_at, Completes}
use Rattle.offer_model.specs.Revenue.{own_gain, own_weight}
use Rattle.ratio_loop.specs.Earnings.{Earns}
use Rattle.ratio_loop.specs.Trials.{most_trials}
use Rattle.ratio_loop.specs.Ties.{IsCompletionAt}

-- k trials have led to x: what another assortment weighs at the revenue of x, times its weight and over that of x, has
-- fallen to a fourth k times.
pub record IsReached (p : ProblemData) (x : List Bool) (k : ℕ) : Type 0 where
  pub feasible : IsFeasible p x
  pub few : k < most_trials
  pub room : (y : List Bool) (u : ℕ) → IsFeasible p y → own_weight p x * own_gain p y ≡ own_gain p x * own_weight p y + u
      → 4 ^ k * (u * own_weight p y) ≤ own_weight p x * (gain_bound * weight_bound)

-- The assortment comes after all completions of the node: at the first product where it leaves the marks, the mark is
-- Out, and up to there none is Open.
abbrev pub ComesAfter : List Mark → List Bool → Type 0
ComesAfter [] y = ⊥
ComesAfter (m ∷ node) [] = ⊥
ComesAfter (In ∷ node) (true ∷ y) = ComesAfter node y
ComesAfter (Out ∷ node) (false ∷ y) = ComesAfter node y
ComesAfter (Out ∷ node) (true ∷ y) = Unit {0}
ComesAfter (In ∷ node) (false ∷ y) = ⊥
ComesAfter (Open ∷ node) (b ∷ y) = ⊥

-- The first i products are marked, x completes the node at this revenue, and each other assortment that earns it
-- completes the node too or comes after.
pub record Leads (p : ProblemData) (at : Fraction) (i : ℕ) (node : List Mark) (x : List Bool) : Type 0 where
  pub each : length node ≡ product_count p
  pub marked : (k : ℕ) → k < i → mark_at node k ≢ Open
  pub rest : (k : ℕ) → i ≤ k → k < product_count p → mark_at node k ≡ Open
  pub own : IsCompletionAt p at node x
  pub others : (y : List Bool) → IsFeasible p y → Earns p y at → Completes node y ⊎ ComesAfter node y

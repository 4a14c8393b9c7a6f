-- The rule of a search that tries multipliers that are all 0. Own.
use Rattle.std.specs.Prelude.{◌≡◌, ℕ, Bool, List, [], length, replicate}
use Rattle.offer_model.specs.Best.{IsBest}
use Rattle.offer_model.specs.LeafBounds.{priced_limits}
use Rattle.offer_model.specs.Problems.{ProblemData}
use Rattle.offer_model.specs.Validity.{IsProblem, IsRatioModel}
use Rattle.multiplier_bound.specs.Fits.{IsRelaxed}
use Rattle.linear_weights.specs.Weights.{WeightsData}
use Rattle.proof_lines.specs.declared.line.Line.{Line}
use Rattle.proof_lines.specs.declared.line.Shape.TheVariants as S
use Rattle.proof_lines.specs.Closing.{own_prices}
use Rattle.proof_lines.specs.Lines.{line}
use Rattle.proof_tree.specs.Pens.{line_data}

-- A multiplier of 0 for each limit that has one.
abbrev pub zeros_of : ProblemData → List ℕ
zeros_of p = replicate (length (priced_limits p)) 0

-- The two leaves, and the prices that multipliers of 0 make of those at the revenue of x.
pub record IsZeroRule (p : ProblemData) (x : List Bool) (clash zeros : Line) (prices : WeightsData) : Type 0 where
  pub model : IsRatioModel p.model
  pub valid : IsProblem p
  pub best : IsBest p x
  pub clash_line : line_data clash ≡ line S.Clash []
  pub zeros_line : line_data zeros ≡ line S.Multipliers (zeros_of p)
  pub prices_are : IsRelaxed p (zeros_of p) (own_prices p x) prices

-- The rule of certificates of mixed logit. Own.
use Rattle.std.specs.Prelude.{◌≡◌, ℕ, ◌+◌, ◌≤◌, Bool, List, [], length}
use Rattle.offer_model.specs.declared.products.ModelName.TheVariants.{Mixed}
use Rattle.offer_model.specs.Best.{IsBest}
use Rattle.offer_model.specs.Problems.{ProblemData}
use Rattle.offer_model.specs.Revenue.{value_of}
use Rattle.offer_model.specs.Validity.{IsProblem}
use Rattle.segment_bound.specs.Kept.{BoundsData, Fits}
use Rattle.proof_lines.specs.declared.line.Line.{Line}
use Rattle.proof_lines.specs.declared.line.Shape.TheVariants as S
use Rattle.proof_lines.specs.Lines.{line}
use Rattle.proof_tree.specs.Pens.{line_data}

-- What the best assortment brings, bounds of the problem, a number and room in a line for each segment, and the line of a clash.
pub record IsMixedRule (p : ProblemData) (x : List Bool) (value : ℕ) (bounds : BoundsData) (values : List ℕ) (clash segments : Line) : Type 0 where
  pub valid : IsProblem p
  pub model : p.model ≡ Mixed
  pub best : IsBest p x
  pub value_is : value ≡ value_of p x
  pub fits : Fits p bounds
  pub each : length values ≡ length p.segments
  pub clash_line : line_data clash ≡ line S.Clash []
  pub shape : segments.shape ≡ S.Segments
  pub room : length p.segments ≤ segments.numbers.spare + length segments.numbers.items

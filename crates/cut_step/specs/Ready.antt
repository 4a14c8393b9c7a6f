-- Which problems a step was prepared for.
use Rattle.std.specs.Prelude.{◌≡◌, ◌≤◌, length, vec_capacity}
use Rattle.offer_model.specs.Problems.{ProblemData, product_count}
use Rattle.offer_model.specs.Validity.{IsProblem}
use Rattle.limit_rules.specs.declared.kind.Kind.TheVariants as K
use Rattle.limit_rules.specs.Kinds.{kind_of}
use Rattle.cut_step.specs.declared.step.ClosureStep.{ClosureStep}
use Rattle.cut_step.specs.Closures.{rows_of}
use Rattle.cut_step.specs.Adjacencies.{IsAdjacency}

-- The step has the problem's requirements as its rows, and work lists for its products and rows.
pub record IsReady (s : ClosureStep) (p : ProblemData) : Type 0 where
  pub problem : IsProblem p
  pub kind : kind_of p.limits ≡ K.Closure
  pub rows : s.rows.items ≡ rows_of p.limits
  pub adjacency : IsAdjacency s.rows.items (product_count p) s.adjacency
  pub amounts : length s.flow.amounts.items ≡ length s.rows.items
  pub excess : length s.flow.excess.items ≡ product_count p
  pub spots : length s.reach.spots.items ≡ product_count p
  pub room : product_count p ≤ vec_capacity s.reach.tree

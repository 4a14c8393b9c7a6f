-- A first completion, which a search begins with. Own.
use Rattle.std.specs.Prelude.{◌≡◌, Bool, true, List}
use Rattle.offer_model.specs.declared.node.Mark.{Mark}
use Rattle.offer_model.specs.Problems.{ProblemData}
use Rattle.offer_model.specs.Limits.{IsFeasible}
use Rattle.offer_model.specs.Nodes.{Completes}

-- An assortment, and whether it is known to be a feasible completion.
pub record FirstData : Type 0 where
  pub known : Bool
  pub offered : List Bool

-- Where it is known, it is a feasible completion of the node.
abbrev pub IsFirst : ProblemData → List Mark → FirstData → Type 0
IsFirst p node f = f.known ≡ true → IsFeasible p f.offered × Completes node f.offered

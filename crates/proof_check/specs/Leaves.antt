-- The room that leaves of a problem are judged in. Own.
use Rattle.std.specs.Prelude.{ℕ, ◌↔◌, Bool, List, Option}
use lib.IntN.{ℤ}
use Rattle.offer_model.specs.Problems.{ProblemData}
use Rattle.offer_model.specs.declared.node.Mark.{Mark}
use Rattle.offer_model.specs.Prices.{Prices}
use Rattle.proof_lines.specs.declared.line.Shape.{Shape}
use Rattle.proof_lines.specs.Closing.{BoundCloses, PricesClose}
use Rattle.multiplier_bound.specs.Fits.{HasLists}
use Rattle.leaf_bounds.specs.Kept.{HasSets, HasCells, HasTable}
use Rattle.proof_check.specs.declared.leaf.Leaves.{Leaves}

-- The leaf closes the node exactly where this bound does, whatever the assortment.
abbrev pub ClosesBy : ProblemData → Prices → List Mark → Shape → List ℕ → Option ℤ → Type 0
ClosesBy p at node shape us bound = (x : List Bool) → PricesClose p x node shape us at ↔ BoundCloses x node bound

pub record HasRoom (p : ProblemData) (leaves : Leaves) : Type 0 where
  pub multipliers : HasLists p leaves.multipliers
  pub potentials : HasSets p leaves.potentials
  pub kept : HasTable p leaves.kept
  pub shelf : HasCells p leaves.shelf

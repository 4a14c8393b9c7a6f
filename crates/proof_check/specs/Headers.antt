-- What the lines of the header do. Own.
use Rattle.std.specs.Prelude.{◌≡◌, ℕ, ◌⊎◌, ◌↔◌, Bool, List, ◌∷◌, Option, Some}
use Rattle.offer_model.specs.declared.products.ModelName.{ModelName}
use Rattle.offer_model.specs.Limits.{IsFeasible}
use Rattle.offer_model.specs.Problems.{ProblemData, product_count}
use Rattle.offer_model.specs.Roomy.{Roomy}
use Rattle.proof_lines.specs.declared.line.Shape.{Shape}
use Rattle.proof_lines.specs.declared.line.Shape.TheVariants as S
use Rattle.proof_lines.specs.Acceptance.{digits_of, value_numbers}
use Rattle.proof_tree.specs.declared.progress.TreeProgress.{TreeProgress}
use Rattle.proof_tree.specs.Stages.{products_of, HasNumbers}
use Rattle.proof_tree.specs.Trees.{TreePhase}
use Rattle.proof_check.specs.declared.header.Head.{Head}
use Rattle.proof_check.specs.declared.header.Head.TheVariants as H
use Rattle.proof_check.specs.Waiting.{HeadPhase, Waits}
use Rattle.proof_check.specs.Waiting.HeadPhase.{at_start, at_model, at_set, at_value, at_tree, refused}

-- What the head waits for, with the assortment that leaves are judged by.
abbrev pub head_phase : Head → List Bool → HeadPhase
head_phase H.Start x = at_start
head_phase H.Model x = at_model
head_phase H.Set x = at_set
head_phase H.Value x = at_value x
head_phase H.Tree x = at_tree x
head_phase H.Refused x = refused

-- The line leads from one phase to the other, before this tree.
abbrev pub Leads : ProblemData → TreePhase → HeadPhase → HeadPhase → List ℕ → Type 0
Leads p tree before after l = (ls : List (List ℕ)) → Waits p after tree ls ↔ Waits p before tree (l ∷ ls)

-- The nodes have a mark for each product, and there is room for the numbers of a line.
pub record IsMachine (p : ProblemData) (tree : TreeProgress) (numbers : Roomy ℕ) : Type 0 where
  pub each : product_count p ≡ products_of tree
  pub room : HasNumbers numbers

-- ---- What was read leads on, or to nothing.

abbrev pub StartsBy : Option Shape → Head → Type 0
StartsBy read after = ((read ≡ Some S.Start) × (after ≡ H.Model)) ⊎ (¬ (read ≡ Some S.Start) × (after ≡ H.Refused))

abbrev pub ModelBy : Option Shape → ModelName → Head → Type 0
ModelBy read model after = ((read ≡ Some (S.Model model)) × (after ≡ H.Set)) ⊎ (¬ (read ≡ Some (S.Model model)) × (after ≡ H.Refused))

abbrev pub SetBy : ProblemData → Option Shape → List ℕ → List Bool → Head → Type 0
SetBy p read ns x after = ((read ≡ Some S.Set) × (digits_of x ≡ ns) × IsFeasible p x × (after ≡ H.Value))
    ⊎ (((y : List Bool) → read ≡ Some S.Set → ns ≡ digits_of y → ¬ IsFeasible p y) × (after ≡ H.Refused))

abbrev pub ValueBy : ProblemData → Option Shape → List ℕ → List Bool → Head → Type 0
ValueBy p read ns x after = ((read ≡ Some S.Value) × (ns ≡ value_numbers p x) × (after ≡ H.Tree))
    ⊎ ((read ≡ Some S.Value → ¬ (ns ≡ value_numbers p x)) × (after ≡ H.Refused))

-- What a checker waits for, and which texts it takes. Own.
use Rattle.std.specs.Prelude.{◌≡◌, ℕ, ◌≤◌, Bool, List, [], ◌∷◌}
use Rattle.offer_model.specs.Problems.{ProblemData, product_count}
use Rattle.offer_model.specs.Limits.{IsFeasible}
use Rattle.offer_model.specs.Nodes.{open_node}
use Rattle.proof_lines.specs.declared.line.Shape.TheVariants as S
use Rattle.proof_lines.specs.Lines.{line_text}
use Rattle.proof_lines.specs.Acceptance.{digits_of, value_numbers}
use Rattle.proof_tree.specs.declared.either_machine.EitherMachine.{EitherMachine}
use Rattle.proof_tree.specs.declared.either_machine.EitherMachine.TheVariants as M
use Rattle.proof_tree.specs.Either.{either_waits}
use Rattle.proof_tree.specs.Feeding.{FeederData, TakesBy}
use Rattle.proof_tree.specs.LineLeaves.{LeafCloses}
use Rattle.proof_tree.specs.Stages.{BranchesOpen}
use Rattle.proof_tree.specs.Trees.{Spells, TreePhase, TreeWaits}
use Rattle.proof_tree.specs.Trees.TreePhase.{in_trees}
use Rattle.chain_check.specs.Waiting.{ChainMachineData}
use Rattle.chain_check.specs.Waiting.{Waits as ChainWaits}

-- What comes next of the header: the first line, the model, the assortment, or its value; after it the tree; or nothing that
-- could be accepted.
pub data HeadPhase : Type 0 where
  at_start : HeadPhase
  at_model : HeadPhase
  at_set : HeadPhase
  at_value : List Bool → HeadPhase
  at_tree : List Bool → HeadPhase
  refused : HeadPhase

-- The lines are those of the header that are still to come, and then what is still to come of the tree.
abbrev pub Waits : ProblemData → HeadPhase → TreePhase → List (List ℕ) → Type 0
Waits p refused tree ls = ⊥
Waits p (at_tree x) tree ls = TreeWaits (LeafCloses p x) tree ls
Waits p (at_value x) tree [] = ⊥
Waits p (at_value x) tree (l ∷ ls) = Spells S.Value (value_numbers p x) l × Waits p (at_tree x) tree ls
Waits p at_set tree [] = ⊥
Waits p at_set tree (l ∷ ls) = (x : List Bool) × Spells S.Set (digits_of x) l × IsFeasible p x × Waits p (at_value x) tree ls
Waits p at_model tree [] = ⊥
Waits p at_model tree (l ∷ ls) = (l ≡ line_text (S.Model p.model) []) × Waits p at_set tree ls
Waits p at_start tree [] = ⊥
Waits p at_start tree (l ∷ ls) = (l ≡ line_text S.Start []) × Waits p at_model tree ls

-- The whole tree is to come.
abbrev pub whole_tree : ProblemData → TreePhase
whole_tree p = in_trees (open_node (product_count p) ∷ [])

-- What contracts see of a reader of lines: its problem, and what is still to come of the header and of the tree.
pub record MachineData : Type 0 where
  pub problem : ProblemData
  pub head : HeadPhase
  pub tree : TreePhase

-- What contracts see of the machine of a problem's or a chain's certificates.
abbrev pub AnyMachine : Type 0
AnyMachine = EitherMachine MachineData ChainMachineData

-- The lines are those that the machine still waits for.
abbrev pub AnyWaits : AnyMachine → List (List ℕ) → Type 0
AnyWaits machine ls = either_waits (λ m. Waits m.problem m.head m.tree) (λ m. ChainWaits m.chain m.phase) machine ls

-- So many branches of a problem's tree are open, at most as many as there are products. A chain's certificate has none.
abbrev pub HasFrames : AnyMachine → ℕ → Type 0
HasFrames (M.First m) n = BranchesOpen m.tree n × (n ≤ product_count m.problem)
HasFrames (M.Second m) n = n ≡ 0

-- The checker accepts where r is all that is still to come: the line that has begun and r are the text of lines that it
-- waits for.
abbrev pub Takes : FeederData AnyMachine → List ℕ → Type 0
Takes checker r = TakesBy (AnyWaits checker.machine) checker.begun r

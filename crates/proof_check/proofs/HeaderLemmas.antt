-- Where a line of the header leads.
use Rattle.std.proofs.Common.{◌≡◌, ℕ, Bool, List, [], ◌∷◌, refl, sym, ◌∙◌, subst, ◌↔◌, inl, inr}
use Rattle.std.specs.Prelude.{Option}
use Rattle.offer_model.specs.Problems.{ProblemData}
use Rattle.offer_model.specs.Limits.{IsFeasible}
use Rattle.proof_lines.specs.declared.line.Shape.{Shape}
use Rattle.proof_lines.specs.declared.line.Shape.TheVariants as S
use Rattle.proof_lines.specs.Acceptance.{digits_of, value_numbers}
use Rattle.proof_lines.proofs.ProofsDiffer.{digits_of-one}
use Rattle.proof_tree.specs.LineLeaves.{LeafCloses}
use Rattle.proof_tree.specs.Trees.{Spells, IsRead, TreePhase, TreeLeads}
use Rattle.proof_tree.specs.Trees.TreePhase.{at_end}
use Rattle.proof_tree.proofs.TreeLemmas.{read_as, read_text, tree_ends}
use Rattle.proof_check.specs.declared.header.Head.{Head}
use Rattle.proof_check.specs.declared.header.Head.TheVariants as H
use Rattle.proof_check.specs.Headers.{head_phase, Leads, StartsBy, ModelBy, SetBy, ValueBy}
use Rattle.proof_check.specs.Judging.{LeavesData}
use Rattle.proof_check.specs.Waiting.{Waits, MachineData}
use Rattle.proof_check.specs.Waiting.HeadPhase.{at_start, at_model, at_set, at_value}

-- The first line.
pub start_leads : (p : ProblemData) (x : List Bool) (l : List ℕ) (read : Option Shape) (ns : List ℕ) (after : Head) → IsRead l read ns → StartsBy read after
    → (tree : TreePhase) → Leads p tree at_start (head_phase after x) l
start_leads p x l read ns after r (inl h) = rw h.1 (λ tree ls. (λ t. ((read_text l read ns S.Start r h.0).1, t), λ t. t.1))
start_leads p x l read ns after r (inr h) = rw h.1 (λ tree ls. (λ t. absurd t, λ t. h.0 (read_as l read ns S.Start [] r (refl, t.0)).0))

-- The model's.
pub model_leads : (p : ProblemData) (x : List Bool) (l : List ℕ) (read : Option Shape) (ns : List ℕ) (after : Head) → IsRead l read ns → ModelBy read p.model after
    → (tree : TreePhase) → Leads p tree at_model (head_phase after x) l
model_leads p x l read ns after r (inl h) = rw h.1 (λ tree ls. (λ t. ((read_text l read ns (S.Model p.model) r h.0).1, t), λ t. t.1))
model_leads p x l read ns after r (inr h) = rw h.1 (λ tree ls. (λ t. absurd t, λ t. h.0 (read_as l read ns (S.Model p.model) [] r (refl, t.0)).0))

-- The assortment's.
pub set_leads : (p : ProblemData) (x : List Bool) (l : List ℕ) (read : Option Shape) (ns : List ℕ) (after : Head) → IsRead l read ns → SetBy p read ns x after
    → (tree : TreePhase) → Leads p tree at_set (head_phase after x) l
set_leads p x l read ns after r (inl h) = rw h.3 (λ tree ls. (λ t. (x, here, h.2, t), λ t. back tree ls t.0 t.1 t.3))
  where
    here : Spells S.Set (digits_of x) l
    here = subst (λ z. Spells S.Set z l) (sym h.1) (read_text l read ns S.Set r h.0)

    back : (tree : TreePhase) (ls : List (List ℕ)) (y : List Bool) → Spells S.Set (digits_of y) l → Waits p (at_value y) tree ls → Waits p (at_value x) tree ls
    back tree ls y e t =
        let same = (read_as l read ns S.Set (digits_of y) r e).1 in
        subst (λ z. Waits p (at_value z) tree ls) (digits_of-one y x (sym same ∙ sym h.1)) t
set_leads p x l read ns after r (inr h) = rw h.1 (λ tree ls. (λ t. absurd t, λ t. none t.0 t.1 t.2))
  where
    none : (y : List Bool) → Spells S.Set (digits_of y) l → IsFeasible p y → ⊥
    none y e f = let same = read_as l read ns S.Set (digits_of y) r e in h.0 y same.0 same.1 f

-- The value's.
pub value_leads : (p : ProblemData) (x : List Bool) (l : List ℕ) (read : Option Shape) (ns : List ℕ) (after : Head) → IsRead l read ns → ValueBy p read ns x after
    → (tree : TreePhase) → Leads p tree (at_value x) (head_phase after x) l
value_leads p x l read ns after r (inl h) = rw h.2 (λ tree ls. (λ t. (subst (λ z. Spells S.Value z l) h.1 (read_text l read ns S.Value r h.0), t), λ t. t.1))
value_leads p x l read ns after r (inr h) = rw h.1 (λ tree ls. (λ t. absurd t, λ t. none t.0))
  where
    none : Spells S.Value (value_numbers p x) l → ⊥
    none e = let same = read_as l read ns S.Value (value_numbers p x) r e in h.0 same.0 same.1

-- ---- The machine, as it stands.

abbrev pub shown : Head → LeavesData → TreePhase → MachineData
shown head leaves tree = record { problem = leaves.problem; head = head_phase head leaves.set; tree = tree }

-- A line of the tree leads the machine on.
pub tree_step : (before : MachineData) (head : Head) (old new : LeavesData) (t u : TreePhase) (l : List ℕ) → shown head old t ≡ before → head ≡ H.Tree → new ≡ old
    → TreeLeads (LeafCloses old.problem old.set) t u l
    → (ls : List (List ℕ)) → Waits new.problem (head_phase head new.set) u ls ↔ Waits before.problem before.head before.tree (l ∷ ls)
tree_step before head old new t u l is e same leads =
    subst (λ (z : MachineData). (ls : List (List ℕ)) → Waits new.problem (head_phase head new.set) u ls ↔ Waits z.problem z.head z.tree (l ∷ ls)) is
    (subst (λ (z : LeavesData). (ls : List (List ℕ)) → Waits z.problem (head_phase head z.set) u ls ↔ Waits old.problem (head_phase head old.set) t (l ∷ ls)) (sym same)
    (rw e leads))

-- A line of the header leads the machine on.
pub head_step : (before : MachineData) (head after : Head) (old new : LeavesData) (tree : TreePhase) (l : List ℕ) → shown head old tree ≡ before → new.problem ≡ old.problem
    → Leads old.problem tree (head_phase head old.set) (head_phase after new.set) l
    → (ls : List (List ℕ)) → Waits new.problem (head_phase after new.set) tree ls ↔ Waits before.problem before.head before.tree (l ∷ ls)
head_step before head after old new tree l is same leads =
    subst (λ (z : MachineData). (ls : List (List ℕ)) → Waits new.problem (head_phase after new.set) tree ls ↔ Waits z.problem z.head z.tree (l ∷ ls)) is
    (subst (λ (z : ProblemData). (ls : List (List ℕ)) → Waits z (head_phase after new.set) tree ls ↔ Waits old.problem (head_phase head old.set) tree (l ∷ ls)) (sym same) leads)

-- In the tree everything has come exactly where the tree has.
pub machine_ends : (before : MachineData) (head : Head) (leaves : LeavesData) (tree : TreePhase) → shown head leaves tree ≡ before → head ≡ H.Tree
    → (tree ≡ at_end) ↔ Waits before.problem before.head before.tree []
machine_ends before head leaves tree is e =
    subst (λ (z : MachineData). (tree ≡ at_end) ↔ Waits z.problem z.head z.tree []) is (rw e (tree_ends (LeafCloses leaves.problem leaves.set) tree))

-- Where a line of a chain's certificate leads.
use Rattle.std.proofs.Common.{◌≡◌, ℕ, Bool, List, [], ◌∷◌, length, refl, sym, ◌∙◌, ap, subst, ◌↔◌, inl, inr}
use Rattle.std.specs.Prelude.{Option}
use Rattle.std.proofs.lemmas.List.{length-map}
use Rattle.offer_model.specs.declared.products.ModelName.TheVariants.{Chain}
use Rattle.offer_model.specs.Chains.{ChainData, place_count}
use Rattle.proof_lines.specs.declared.line.Shape.{Shape}
use Rattle.proof_lines.specs.declared.line.Shape.TheVariants as S
use Rattle.proof_lines.specs.Acceptance.{digit_of, digits_of}
use Rattle.proof_lines.proofs.ProofsDiffer.{digits_of-one}
use Rattle.proof_tree.specs.Trees.{Spells, IsRead}
use Rattle.proof_tree.proofs.TreeLemmas.{read_as, read_text}
use Rattle.chain_check.specs.declared.stages.Stage.{Stage}
use Rattle.chain_check.specs.declared.stages.Stage.TheVariants as T
use Rattle.chain_check.specs.Stages.{JudgeData, phase_at, Leads, OnBy, SetBy, ValueBy, UpperBy, LowerBy}
use Rattle.chain_check.specs.Waiting.{Waits, ChainMachineData, AreNear, GivesUp, GivesLo}
use Rattle.chain_check.specs.Waiting.ChainPhase.{at_start, at_model, at_set, at_value, at_upper, at_lower, at_end}

-- The first line.
pub start_leads : (c : ChainData) (j : JudgeData) (l : List ℕ) (read : Option Shape) (ns : List ℕ) (after : Stage) → IsRead l read ns → OnBy read S.Start T.Model after
    → Leads c at_start (phase_at after j) l
start_leads c j l read ns after r (inl h) = rw h.1 (λ ls. (λ t. ((read_text l read ns S.Start r h.0).1, t), λ t. t.1))
start_leads c j l read ns after r (inr h) = rw h.1 (λ ls. (λ t. absurd t, λ t. h.0 (read_as l read ns S.Start [] r (refl, t.0)).0))

-- The model's.
pub model_leads : (c : ChainData) (j : JudgeData) (l : List ℕ) (read : Option Shape) (ns : List ℕ) (after : Stage) → IsRead l read ns → OnBy read (S.Model Chain) T.Set after
    → Leads c at_model (phase_at after j) l
model_leads c j l read ns after r (inl h) = rw h.1 (λ ls. (λ t. ((read_text l read ns (S.Model Chain) r h.0).1, t), λ t. t.1))
model_leads c j l read ns after r (inr h) = rw h.1 (λ ls. (λ t. absurd t, λ t. h.0 (read_as l read ns (S.Model Chain) [] r (refl, t.0)).0))

-- The last line.
pub end_leads : (c : ChainData) (j : JudgeData) (l : List ℕ) (read : Option Shape) (ns : List ℕ) (after : Stage) → IsRead l read ns → OnBy read S.End T.Ended after
    → Leads c at_end (phase_at after j) l
end_leads c j l read ns after r (inl h) = rw h.1 (λ ls. (λ t. ((read_text l read ns S.End r h.0).1, t), λ t. t.1))
end_leads c j l read ns after r (inr h) = rw h.1 (λ ls. (λ t. absurd t, λ t. h.0 (read_as l read ns S.End [] r (refl, t.0)).0))

-- The assortment's.
pub set_leads : (j : JudgeData) (l : List ℕ) (read : Option Shape) (ns : List ℕ) (after : Stage) → IsRead l read ns → SetBy j read ns after
    → Leads j.chain at_set (phase_at after j) l
set_leads j l read ns after r (inl h) = rw h.3 (λ ls. (λ t. (j.set, here, h.2, t), λ t. back ls t.0 t.1 t.3))
  where
    here : Spells S.Set (digits_of j.set) l
    here = subst (λ z. Spells S.Set z l) (sym h.1) (read_text l read ns S.Set r h.0)

    back : (ls : List (List ℕ)) (y : List Bool) → Spells S.Set (digits_of y) l → Waits j.chain (at_value y) ls → Waits j.chain (at_value j.set) ls
    back ls y e t =
        let same = (read_as l read ns S.Set (digits_of y) r e).1 in
        subst (λ z. Waits j.chain (at_value z) ls) (digits_of-one y j.set (sym same ∙ sym h.1)) t
set_leads j l read ns after r (inr h) = rw h.1 (λ ls. (λ t. absurd t, λ t. none t.0 t.1 t.2))
  where
    none : (y : List Bool) → Spells S.Set (digits_of y) l → length y ≡ place_count j.chain → ⊥
    none y e each = let same = read_as l read ns S.Set (digits_of y) r e in h.0 same.0 (ap length same.1 ∙ length-map y digit_of ∙ each)

-- The bounds'.
pub value_leads : (j : JudgeData) (l : List ℕ) (read : Option Shape) (ns : List ℕ) (after : Stage) → IsRead l read ns → ValueBy j read ns after
    → Leads j.chain (at_value j.set) (phase_at after j) l
value_leads j l read ns after r (inl h) = rw h.3 (λ ls. (λ t. (j.lo, j.up, here, h.2, t), λ t. back ls t.0 t.1 t.2 t.4))
  where
    here : Spells S.Value (2 ∷ j.lo ∷ j.up ∷ []) l
    here = subst (λ z. Spells S.Value z l) h.1 (read_text l read ns S.Value r h.0)

    back : (ls : List (List ℕ)) (lo up : ℕ) → Spells S.Value (2 ∷ lo ∷ up ∷ []) l → Waits j.chain (at_upper j.set lo up) ls → Waits j.chain (at_upper j.set j.lo j.up) ls
    back ls lo up e t =
        let same = (read_as l read ns S.Value (2 ∷ lo ∷ up ∷ []) r e).1 in
        let both : 2 ∷ lo ∷ up ∷ [] ≡ 2 ∷ j.lo ∷ j.up ∷ [] = sym same ∙ h.1 in
        let low : lo ≡ j.lo = cc in
        let high : up ≡ j.up = cc in
        subst (λ z. Waits j.chain (at_upper j.set z j.up) ls) low (subst (λ z. Waits j.chain (at_upper j.set lo z) ls) high t)
value_leads j l read ns after r (inr h) = rw h.1 (λ ls. (λ t. absurd t, λ t. none t.0 t.1 t.2 t.3))
  where
    none : (lo up : ℕ) → Spells S.Value (2 ∷ lo ∷ up ∷ []) l → AreNear j.chain lo up → ⊥
    none lo up e near = let same = read_as l read ns S.Value (2 ∷ lo ∷ up ∷ []) r e in h.0 lo up same.0 same.1 near

-- The upper vector's.
pub upper_leads : (j : JudgeData) (l : List ℕ) (read : Option Shape) (ns : List ℕ) (after : Stage) → IsRead l read ns → UpperBy j read ns after
    → Leads j.chain (at_upper j.set j.lo j.up) (phase_at after j) l
upper_leads j l read ns after r (inl h) = rw h.2 (λ ls. (λ t. (ns, read_text l read ns S.Upper r h.0, h.1, t), λ t. t.3))
upper_leads j l read ns after r (inr h) = rw h.1 (λ ls. (λ t. absurd t, λ t. none t.0 t.1 t.2))
  where
    none : (us : List ℕ) → Spells S.Upper us l → GivesUp j.chain j.up us → ⊥
    none us e gives = let same = read_as l read ns S.Upper us r e in h.0 same.0 (subst (λ z. GivesUp j.chain j.up z) (sym same.1) gives)

-- The lower vector's.
pub lower_leads : (j : JudgeData) (l : List ℕ) (read : Option Shape) (ns : List ℕ) (after : Stage) → IsRead l read ns → LowerBy j read ns after
    → Leads j.chain (at_lower j.set j.lo) (phase_at after j) l
lower_leads j l read ns after r (inl h) = rw h.2 (λ ls. (λ t. (ns, read_text l read ns S.Lower r h.0, h.1, t), λ t. t.3))
lower_leads j l read ns after r (inr h) = rw h.1 (λ ls. (λ t. absurd t, λ t. none t.0 t.1 t.2))
  where
    none : (hs : List ℕ) → Spells S.Lower hs l → GivesLo j.chain j.set j.lo hs → ⊥
    none hs e gives = let same = read_as l read ns S.Lower hs r e in h.0 same.0 (subst (λ z. GivesLo j.chain j.set j.lo z) (sym same.1) gives)

-- ---- The machine, as it stands.

abbrev pub shown : Stage → JudgeData → ChainMachineData
shown stage j = record { chain = j.chain; phase = phase_at stage j }

-- A line leads the machine on.
pub machine_step : (before : ChainMachineData) (stage after : Stage) (old new : JudgeData) (l : List ℕ) → shown stage old ≡ before → new.chain ≡ old.chain
    → Leads old.chain (phase_at stage old) (phase_at after new) l
    → (ls : List (List ℕ)) → Waits new.chain (phase_at after new) ls ↔ Waits before.chain before.phase (l ∷ ls)
machine_step before stage after old new l is same leads =
    subst (λ (z : ChainMachineData). (ls : List (List ℕ)) → Waits new.chain (phase_at after new) ls ↔ Waits z.chain z.phase (l ∷ ls)) is
    (subst (λ (z : ChainData). (ls : List (List ℕ)) → Waits z (phase_at after new) ls ↔ Waits old.chain (phase_at stage old) (l ∷ ls)) (sym same) leads)

-- Everything has come exactly at the last stage.
pub machine_ends : (before : ChainMachineData) (stage : Stage) (j : JudgeData) → shown stage j ≡ before → (stage ≡ T.Ended) ↔ Waits before.chain before.phase []
machine_ends before stage j is = subst (λ (z : ChainMachineData). (stage ≡ T.Ended) ↔ Waits z.chain z.phase []) is (ends stage)
  where
    ends : (stage : Stage) → (stage ≡ T.Ended) ↔ Waits j.chain (phase_at stage j) []
    ends T.Ended = (λ t. refl, λ t. refl)
    ends T.Start = (λ t. cc, λ t. absurd t)
    ends T.Model = (λ t. cc, λ t. absurd t)
    ends T.Set = (λ t. cc, λ t. absurd t)
    ends T.Value = (λ t. cc, λ t. absurd t)
    ends T.Upper = (λ t. cc, λ t. absurd t)
    ends T.Lower = (λ t. cc, λ t. absurd t)
    ends T.End = (λ t. cc, λ t. absurd t)
    ends T.Refused = (λ t. cc, λ t. absurd t)

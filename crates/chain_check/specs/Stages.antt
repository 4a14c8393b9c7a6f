-- What the lines of a chain's certificate do. Own.
use Rattle.std.specs.Prelude.{◌≡◌, ℕ, ◌⊎◌, ◌↔◌, Bool, List, [], ◌∷◌, length, Option, Some}
use Rattle.offer_model.specs.Chains.{ChainData, place_count}
use Rattle.proof_lines.specs.declared.line.Shape.{Shape}
use Rattle.proof_lines.specs.declared.line.Shape.TheVariants as S
use Rattle.proof_lines.specs.Acceptance.{digits_of}
use Rattle.chain_check.specs.declared.stages.Stage.{Stage}
use Rattle.chain_check.specs.declared.stages.Stage.TheVariants as T
use Rattle.chain_check.specs.Waiting.{ChainPhase, Waits, AreNear, GivesUp, GivesLo}
use Rattle.chain_check.specs.Waiting.ChainPhase.{at_start, at_model, at_set, at_value, at_upper, at_lower, at_end, ended, refused}

-- What has been read: an assortment and two bounds, for a chain.
pub record JudgeData : Type 0 where
  pub chain : ChainData
  pub set : List Bool
  pub lo : ℕ
  pub up : ℕ

-- What a stage waits for, with what has been read.
abbrev pub phase_at : Stage → JudgeData → ChainPhase
phase_at T.Start j = at_start
phase_at T.Model j = at_model
phase_at T.Set j = at_set
phase_at T.Value j = at_value j.set
phase_at T.Upper j = at_upper j.set j.lo j.up
phase_at T.Lower j = at_lower j.set j.lo
phase_at T.End j = at_end
phase_at T.Ended j = ended
phase_at T.Refused j = refused

-- The line leads from one phase to the other.
abbrev pub Leads : ChainData → ChainPhase → ChainPhase → List ℕ → Type 0
Leads c before after l = (ls : List (List ℕ)) → Waits c after ls ↔ Waits c before (l ∷ ls)

-- ---- What was read leads on, or to nothing.

-- A line of one text.
abbrev pub OnBy : Option Shape → Shape → Stage → Stage → Type 0
OnBy read shape next after = ((read ≡ Some shape) × (after ≡ next)) ⊎ (¬ (read ≡ Some shape) × (after ≡ T.Refused))

abbrev pub SetBy : JudgeData → Option Shape → List ℕ → Stage → Type 0
SetBy j read ns after = ((read ≡ Some S.Set) × (digits_of j.set ≡ ns) × (length j.set ≡ place_count j.chain) × (after ≡ T.Value))
    ⊎ ((read ≡ Some S.Set → ¬ (length ns ≡ place_count j.chain)) × (after ≡ T.Refused))

abbrev pub ValueBy : JudgeData → Option Shape → List ℕ → Stage → Type 0
ValueBy j read ns after = ((read ≡ Some S.Value) × (ns ≡ 2 ∷ j.lo ∷ j.up ∷ []) × AreNear j.chain j.lo j.up × (after ≡ T.Upper))
    ⊎ (((lo up : ℕ) → read ≡ Some S.Value → ns ≡ 2 ∷ lo ∷ up ∷ [] → ¬ AreNear j.chain lo up) × (after ≡ T.Refused))

abbrev pub UpperBy : JudgeData → Option Shape → List ℕ → Stage → Type 0
UpperBy j read ns after = ((read ≡ Some S.Upper) × GivesUp j.chain j.up ns × (after ≡ T.Lower))
    ⊎ ((read ≡ Some S.Upper → ¬ GivesUp j.chain j.up ns) × (after ≡ T.Refused))

abbrev pub LowerBy : JudgeData → Option Shape → List ℕ → Stage → Type 0
LowerBy j read ns after = ((read ≡ Some S.Lower) × GivesLo j.chain j.set j.lo ns × (after ≡ T.End))
    ⊎ ((read ≡ Some S.Lower → ¬ GivesLo j.chain j.set j.lo ns) × (after ≡ T.Refused))

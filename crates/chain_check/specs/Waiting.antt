-- What a checker of a chain's certificate waits for, and which texts it takes. Own.
use Rattle.std.specs.Prelude.{◌≡◌, ℕ, ◌+◌, ◌/◌, ◌^◌, ◌<◌, ◌≤◌, Bool, List, [], ◌∷◌, length, slice_index}
use Rattle.offer_model.specs.declared.products.ModelName.TheVariants.{Chain}
use Rattle.offer_model.specs.Chains.{ChainData, place_count, arriving, customer_count}
use Rattle.offer_model.specs.Moves.{gap_of}
use Rattle.offer_model.specs.Stopping.{quotient_up}
use Rattle.offer_model.specs.Brackets.{BoundsAbove, BoundsBelow}
use Rattle.proof_lines.specs.declared.line.Shape.TheVariants as S
use Rattle.proof_lines.specs.Lines.{line_text}
use Rattle.proof_lines.specs.Acceptance.{digits_of}
use Rattle.proof_tree.specs.Trees.{Spells, end_text}

-- The bounds are in order, and no more than the gap apart.
abbrev pub AreNear : ChainData → ℕ → ℕ → Type 0
AreNear c lo up = (lo ≤ up) × (up ≤ lo + gap_of c)

-- The vector bounds above what customers bring, and gives this upper bound.
pub record GivesUp (c : ChainData) (up : ℕ) (us : List ℕ) : Type 0 where
  pub small : (i : ℕ) → i < place_count c → slice_index us i ≤ 10 ^ 15
  pub above : BoundsAbove c us
  pub value : up ≡ quotient_up (arriving c (slice_index us)) (customer_count c)

-- The vector bounds below what customers bring with this assortment, and gives this lower bound.
pub record GivesLo (c : ChainData) (x : List Bool) (lo : ℕ) (hs : List ℕ) : Type 0 where
  pub below : BoundsBelow c x hs
  pub value : lo ≡ arriving c (slice_index hs) / customer_count c

-- What comes next: the first line, the model, the assortment, its bounds, the upper and the lower vector, the end, nothing;
-- or nothing that could be accepted.
pub data ChainPhase : Type 0 where
  at_start : ChainPhase
  at_model : ChainPhase
  at_set : ChainPhase
  at_value : List Bool → ChainPhase
  at_upper : List Bool → ℕ → ℕ → ChainPhase
  at_lower : List Bool → ℕ → ChainPhase
  at_end : ChainPhase
  ended : ChainPhase
  refused : ChainPhase

-- The lines are those that are still to come.
abbrev pub Waits : ChainData → ChainPhase → List (List ℕ) → Type 0
Waits c refused ls = ⊥
Waits c ended ls = ls ≡ []
Waits c at_end [] = ⊥
Waits c at_end (l ∷ ls) = (l ≡ end_text) × Waits c ended ls
Waits c (at_lower x lo) [] = ⊥
Waits c (at_lower x lo) (l ∷ ls) = (hs : List ℕ) × Spells S.Lower hs l × GivesLo c x lo hs × Waits c at_end ls
Waits c (at_upper x lo up) [] = ⊥
Waits c (at_upper x lo up) (l ∷ ls) = (us : List ℕ) × Spells S.Upper us l × GivesUp c up us × Waits c (at_lower x lo) ls
Waits c (at_value x) [] = ⊥
Waits c (at_value x) (l ∷ ls) = (lo : ℕ) × (up : ℕ) × Spells S.Value (2 ∷ lo ∷ up ∷ []) l × AreNear c lo up
    × Waits c (at_upper x lo up) ls
Waits c at_set [] = ⊥
Waits c at_set (l ∷ ls) = (x : List Bool) × Spells S.Set (digits_of x) l × (length x ≡ place_count c) × Waits c (at_value x) ls
Waits c at_model [] = ⊥
Waits c at_model (l ∷ ls) = (l ≡ line_text (S.Model Chain) []) × Waits c at_set ls
Waits c at_start [] = ⊥
Waits c at_start (l ∷ ls) = (l ≡ line_text S.Start []) × Waits c at_model ls

-- What contracts see of a reader of lines: its chain, and what is still to come.
pub record ChainMachineData : Type 0 where
  pub chain : ChainData
  pub phase : ChainPhase

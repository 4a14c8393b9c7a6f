-- Which texts are accepted as certificates. Own.
use Rattle.std.specs.Prelude.{◌≡◌, ℕ, ◌+◌, ◌/◌, ◌^◌, ◌<◌, ◌≤◌, Bool, true, false, List, [], ◌∷◌, length, map, slice_index}
use Rattle.offer_model.specs.declared.products.ModelName.{ModelName}
use Rattle.offer_model.specs.declared.products.ModelName.TheVariants.{Logit, Attract, Mixed, Chain}
use Rattle.offer_model.specs.Problems.{ProblemData, product_count, first_segment}
use Rattle.offer_model.specs.Revenue.{gain_of, weight_of, value_of}
use Rattle.offer_model.specs.Limits.{IsFeasible}
use Rattle.offer_model.specs.Nodes.{open_node}
use Rattle.offer_model.specs.Chains.{ChainData, place_count, arriving, customer_count}
use Rattle.offer_model.specs.Moves.{gap_of}
use Rattle.offer_model.specs.Stopping.{quotient_up, StoppingData}
use Rattle.offer_model.specs.Brackets.{BoundsAbove, BoundsBelow}
use Rattle.proof_lines.specs.declared.line.Shape.TheVariants as S
use Rattle.proof_lines.specs.Lines.{LineData, line, AreLines, text_of}
use Rattle.proof_lines.specs.Trees.{Tree, ProofData, IsProof}
use Rattle.proof_lines.specs.Closing.{TreeCloses}

abbrev pub digit_of : Bool → ℕ
digit_of true = 1
digit_of false = 0

-- The digits of an assortment.
abbrev pub digits_of : List Bool → List ℕ
digits_of x = map digit_of x

-- ---- Problems.

-- The gain over the weight, as a fraction.
abbrev pub ratio_numbers : ProblemData → List Bool → List ℕ
ratio_numbers p x = 1 ∷ gain_of p (first_segment p) x ∷ weight_of p (first_segment p) x ∷ []

abbrev pub value_numbers_under : ModelName → ProblemData → List Bool → List ℕ
value_numbers_under Logit p x = ratio_numbers p x
value_numbers_under Attract p x = ratio_numbers p x
value_numbers_under Mixed p x = 0 ∷ value_of p x ∷ []
value_numbers_under Chain p x = []

-- The numbers of a value line that is true of the assortment.
abbrev pub value_numbers : ProblemData → List Bool → List ℕ
value_numbers p x = value_numbers_under p.model p x

-- What a proof of the assortment x by this tree says.
abbrev pub proof_of : ProblemData → List Bool → Tree → ProofData
proof_of p x tree = record { model = p.model; digits = digits_of x; value = value_numbers p x; tree = tree }

-- The text is a proof of the feasible assortment x by this tree, whose leaves close their nodes.
pub record IsAccepted (p : ProblemData) (text : List ℕ) (x : List Bool) (tree : Tree) : Type 0 where
  pub proof : IsProof (proof_of p x tree) text
  pub feasible : IsFeasible p x
  pub closed : TreeCloses p x (open_node (product_count p)) tree

-- The text is accepted for the problem.
abbrev pub Accepts : ProblemData → List ℕ → Type 0
Accepts p text = (x : List Bool) × (tree : Tree) × IsAccepted p text x tree

-- ---- Chains.

-- The lines of a chain's certificate.
abbrev pub chain_lines : StoppingData → List LineData
chain_lines s = line S.Start [] ∷ line (S.Model Chain) [] ∷ line S.Set (digits_of s.set)
    ∷ line S.Value (2 ∷ s.lo ∷ s.up ∷ [])
    ∷ line S.Upper s.upper ∷ line S.Lower s.lower ∷ line S.End [] ∷ []

-- The vectors bracket the assortment, and the bounds are what arriving customers bring by them, rounded up and down,
-- and no more than the gap apart.
pub record Brackets (c : ChainData) (s : StoppingData) : Type 0 where
  pub each : length s.set ≡ place_count c
  pub small : (i : ℕ) → i < place_count c → slice_index s.upper i ≤ 10 ^ 15
  pub above : BoundsAbove c s.upper
  pub below : BoundsBelow c s.set s.lower
  pub up : s.up ≡ quotient_up (arriving c (slice_index s.upper)) (customer_count c)
  pub lo : s.lo ≡ arriving c (slice_index s.lower) / customer_count c
  pub ordered : s.lo ≤ s.up
  pub near : s.up ≤ s.lo + gap_of c

-- The text says this, and its vectors bracket the assortment.
pub record IsAcceptedChain (c : ChainData) (text : List ℕ) (s : StoppingData) : Type 0 where
  pub lines : AreLines (chain_lines s)
  pub whole : text ≡ text_of (chain_lines s)
  pub brackets : Brackets c s

-- The text is accepted for the chain.
abbrev pub AcceptsChain : ChainData → List ℕ → Type 0
AcceptsChain c text = (s : StoppingData) × IsAcceptedChain c text s

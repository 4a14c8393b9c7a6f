-- Candidates: what is Open and weighs more than 0. Own.
use Rattle.std.specs.Prelude.{◌≡◌, ℕ, ◌<◌, ◌≤◌, List, length, pos, ◌<ℤ◌, slice_index_or}
use Rattle.std.specs.List.{All, Contains}
use lib.IntN.{ℤ}
use Rattle.offer_model.specs.declared.node.Mark.{Mark}
use Rattle.offer_model.specs.declared.node.Mark.TheVariants.{Open}
use Rattle.offer_model.specs.Problems.{ProblemData, product_count}
use Rattle.offer_model.specs.Nodes.{mark_at}
use Rattle.linear_step.specs.Weights.{price_bound}
use Rattle.rank_step.specs.declared.candidates.Candidate.{Candidate}

-- An Open product and its weight, which is above 0.
pub record IsCandidate (p : ProblemData) (node : List Mark) (price : ℕ → ℤ) (c : Candidate) : Type 0 where
  pub inside : c.product < product_count p
  pub is_open : mark_at node c.product ≡ Open
  pub is : price c.product ≡ pos c.weight
  pub some : 0 < c.weight
  pub small : c.weight ≤ price_bound

-- Each is a candidate, and each candidate of the first n products is there.
pub record Collects (p : ProblemData) (node : List Mark) (price : ℕ → ℤ) (n : ℕ) (list : List Candidate)
    : Type 0 where
  pub each : All (IsCandidate p node price) list
  pub all : (i : ℕ) → i < n → mark_at node i ≡ Open → pos 0 <ℤ price i
      → (c : Candidate) × Contains list c × (c.product ≡ i)

abbrev pub candidate_at : List Candidate → ℕ → Candidate
candidate_at list q = slice_index_or list q (record { weight = 0; product = 0 })

-- All candidates, by rising weight.
pub record AreCandidates (p : ProblemData) (node : List Mark) (price : ℕ → ℤ) (list : List Candidate) : Type 0 where
  pub each : (q : ℕ) → q < length list → IsCandidate p node price (candidate_at list q)
  pub all : (i : ℕ) → i < product_count p → mark_at node i ≡ Open → pos 0 <ℤ price i
      → (q : ℕ) × (q < length list) × ((candidate_at list q).product ≡ i)
  pub sorted : (q r : ℕ) → q ≤ r → r < length list → (candidate_at list q).weight ≤ (candidate_at list r).weight

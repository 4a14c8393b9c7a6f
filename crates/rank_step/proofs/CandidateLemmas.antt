-- Candidates, sorted.
use Rattle.std.proofs.Common.{◌≡◌, ◌≢◌, ℕ, ◌+◌, ◌<◌, List, length, [], ◌∷◌, ◌++◌, ◌∙◌, sym, ap, arith, inl, inr}
use Rattle.std.specs.Prelude.{pos, ◌<ℤ◌, ◌⊎◌}
use Rattle.std.specs.List.{Contains}
use Rattle.std.specs.List.Sorted.{IsPermutation, IsNonDecreasingBy}
use Rattle.std.proofs.lemmas.Bool.{cases_eq}
use Rattle.std.proofs.lemmas.List.{get_or_default}
use Rattle.std.proofs.lemmas.List.Elements.{All-push, Contains-push, Contains-append_left}
use Rattle.std.proofs.lemmas.List.Sorted.{All-permutation, Contains-permutation}
use lib.IntN.{ℤ}
use Rattle.offer_model.specs.declared.node.Mark.{Mark}
use Rattle.offer_model.specs.declared.node.Mark.TheVariants.{Open}
use Rattle.offer_model.specs.Problems.{ProblemData, product_count}
use Rattle.offer_model.specs.Nodes.{mark_at}
use Rattle.rank_step.specs.declared.candidates.Candidate.{Candidate}
use Rattle.rank_step.specs.Candidates.{IsCandidate, Collects, AreCandidates, candidate_at}

-- Collected and sorted by weight they are the candidates.
pub candidates_sorted : (p : ProblemData) (node : List Mark) (price : ℕ → ℤ) (before list : List Candidate) (n : ℕ) → n ≡ product_count p
    → Collects p node price n before → IsPermutation before list → IsNonDecreasingBy (λ (c : Candidate). c.weight) list
    → AreCandidates p node price list
candidates_sorted p node price before list n e c moved sorted = record {
  each = λ q l. All-permutation (IsCandidate p node price) before list moved c.each q (record { weight = 0; product = 0 }) l;
  all = λ i l m high. find i (c.all i (omega arith) m high);
  sorted = λ q r le l. sorted q r (record { weight = 0; product = 0 }) le l;
}
  where
    find : (i : ℕ) → ((c : Candidate) × Contains before c × (c.product ≡ i)) → (q : ℕ) × (q < length list) × ((candidate_at list q).product ≡ i)
    find i h =
        let there = Contains-permutation before list h.0 moved h.1 in
        (there.0, there.1, ap (λ (c : Candidate). c.product) (get_or_default list there.0 (record { weight = 0; product = 0 }) h.0 there.1 ∙ there.2) ∙ h.2)

-- One more product is a candidate.
pub collects_more : (p : ProblemData) (node : List Mark) (price : ℕ → ℤ) (n : ℕ) (list : List Candidate) (c : Candidate) → c.product ≡ n
    → IsCandidate p node price c → Collects p node price n list → Collects p node price (n + 1) (list ++ c ∷ [])
collects_more p node price n list c e candidate h = record {
  each = All-push (IsCandidate p node price) list c h.each candidate;
  all = λ i l m high. by_place i l m high (cases_eq i n);
}
  where
    by_place : (i : ℕ) → i < n + 1 → mark_at node i ≡ Open → pos 0 <ℤ price i → ((i ≡ n) ⊎ (i ≢ n))
        → (d : Candidate) × Contains (list ++ c ∷ []) d × (d.product ≡ i)
    by_place i l m high (inl e') = (c, Contains-push list c, e ∙ sym e')
    by_place i l m high (inr ne) =
        let old = h.all i (omega arith) m high in
        (old.0, Contains-append_left list (c ∷ []) old.0 old.1, old.2)

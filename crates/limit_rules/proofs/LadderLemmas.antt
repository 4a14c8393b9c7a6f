-- The products of a ladder, one after the other.
use Rattle.std.proofs.Common.{◌≡◌, ◌≢◌, ℕ, ◌+◌, ◌<◌, List, [], ◌∷◌, ◌++◌, arith, inl, inr}
use Rattle.std.specs.Prelude.{◌⊎◌}
use Rattle.std.specs.List.{Contains}
use Rattle.std.proofs.lemmas.Bool.{cases_eq}
use Rattle.std.proofs.lemmas.List.{length_push}
use Rattle.std.proofs.lemmas.List.Elements.{All-push, Contains-push, Contains-append_left}
use Rattle.offer_model.specs.Problems.{ProblemData, product_count}
use Rattle.offer_model.specs.LeafBounds.{ladder_of}
use Rattle.limit_rules.specs.LadderProducts.{Collects}

abbrev IsOn : ProblemData → ℕ → ℕ → Type 0
IsOn p ladder i = (i < product_count p) × (ladder_of p i ≡ ladder)

-- One more product, which is on the ladder.
pub collects_more : (p : ProblemData) (ladder n : ℕ) (list : List ℕ) → n < product_count p → ladder_of p n ≡ ladder → Collects p ladder n list
    → Collects p ladder (n + 1) (list ++ n ∷ [])
collects_more p ladder n list l on h = record {
  few = let f = h.few in rw (length_push list n) (omega arith);
  each = All-push (IsOn p ladder) list n h.each (l, on);
  all = λ i li e. by_place i li e (cases_eq i n);
}
  where
    by_place : (i : ℕ) → i < n + 1 → ladder_of p i ≡ ladder → ((i ≡ n) ⊎ (i ≢ n)) → Contains (list ++ n ∷ []) i
    by_place i li e (inl e') = rw e' (Contains-push list n)
    by_place i li e (inr ne) = Contains-append_left list (n ∷ []) i (h.all i (omega arith) e)

-- One more product, which isn't.
pub collects_same : (p : ProblemData) (ladder n : ℕ) (list : List ℕ) → (ladder_of p n ≡ ladder → ⊥) → Collects p ladder n list
    → Collects p ladder (n + 1) list
collects_same p ladder n list off h = record {
  few = let f = h.few in omega arith;
  each = h.each;
  all = λ i li e. by_place i li e (cases_eq i n);
}
  where
    by_place : (i : ℕ) → i < n + 1 → ladder_of p i ≡ ladder → ((i ≡ n) ⊎ (i ≢ n)) → Contains list i
    by_place i li e (inl e') = absurd (off (rw e' at e))
    by_place i li e (inr ne) = h.all i (omega arith) e

-- A ladder's products, sorted by grade.
use Rattle.std.proofs.Common.{◌≡◌, ℕ, ◌<◌, List, length, ◌∙◌, subst, arith}
use Rattle.std.specs.Prelude.{Some, slice_get, slice_index}
use Rattle.std.specs.List.{Contains}
use Rattle.std.specs.List.Sorted.{IsPermutation, IsNonDecreasingBy}
use Rattle.std.proofs.lemmas.List.{get_or_default}
use Rattle.std.proofs.lemmas.Option.{get_or_from_slice_get}
use Rattle.std.proofs.lemmas.List.Sorted.{All-permutation, Contains-permutation, length_permutation}
use Rattle.offer_model.specs.declared.products.Product.{Product}
use Rattle.offer_model.specs.Problems.{ProblemData, product_count, product_at, no_product}
use Rattle.offer_model.specs.LeafBounds.{ladder_of}
use Rattle.limit_rules.specs.LadderProducts.{Collects}
use Rattle.table_steps.specs.LadderRungs.{AreRungs}

-- A product, as the code reads it.
pub product_read : (p : ProblemData) (items : List Product) (i : ℕ) (b : Product) → items ≡ p.products → slice_get items i ≡ Some b → product_at p i ≡ b
product_read p items i b e h = get_or_from_slice_get p.products i b no_product (subst (λ t. slice_get t i ≡ Some b) e h)

abbrev IsOn : ProblemData → ℕ → ℕ → Type 0
IsOn p ladder i = (i < product_count p) × (ladder_of p i ≡ ladder)

-- All of a ladder's products, sorted by grade.
pub rungs_sorted : (p : ProblemData) (ladder n : ℕ) (before list : List ℕ) → n ≡ product_count p → Collects p ladder n before
    → IsPermutation before list → IsNonDecreasingBy (λ i. (product_at p i).grade) list
    → AreRungs p (record { ladder = ladder; products = list })
rungs_sorted p ladder n before list e c moved sorted = record {
  few = let f = c.few in let same = length_permutation before list moved in omega arith;
  inside = λ q l. (each q l).0;
  on = λ q l. (each q l).1;
  all = λ i l o. find i (Contains-permutation before list i moved (c.all i (omega arith) o));
  rising = λ q s le l. sorted q s 0 le l;
}
  where
    each : (q : ℕ) → q < length list → IsOn p ladder (slice_index list q)
    each q l = All-permutation (IsOn p ladder) before list moved c.each q 0 l

    find : (i : ℕ) → Contains list i → (q : ℕ) × (q < length list) × (slice_index list q ≡ i)
    find i h = (h.0, h.1, get_or_default list h.0 0 i h.1 ∙ h.2)

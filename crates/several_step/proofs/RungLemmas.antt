-- The rungs of a problem, product by product, and in any order.
use Rattle.std.proofs.Common.{◌≡◌, ℕ, zero, suc, ◌+◌, ◌<◌, ◌≤◌, Bool, true, false, List, [], ◌∷◌, ◌++◌, length, refl, sym, ap, subst, ◌∙◌, arith, inl, inr, ◌⊎◌, ⊎_elim}
use Rattle.std.specs.Prelude.{Some, slice_get}
use Rattle.std.specs.List.{All, Contains}
use Rattle.std.specs.List.Sorted.{IsPermutation}
use Rattle.std.proofs.lemmas.List.{length_push}
use Rattle.std.proofs.lemmas.List.Elements.{All-push, Contains-push, Contains-append_left}
use Rattle.std.proofs.lemmas.List.Sorted.{All-permutation, Contains-permutation, length_permutation}
use Rattle.std.proofs.lemmas.Option.{get_or_from_slice_get, slice_get_within}
use Rattle.offer_model.specs.declared.products.Product.{Product}
use Rattle.offer_model.specs.declared.products.Limit.{Limit}
use Rattle.offer_model.specs.declared.products.Limit.TheVariants.{Ladder}
use Rattle.offer_model.specs.Problems.{ProblemData, product_count, product_at, no_product}
use Rattle.several_step.specs.declared.rungs.Rung.{Rung}
use Rattle.several_step.specs.Chains.{flag_at, IsRung, AreRungsBelow}

-- What stands at a place is contained.
pub contained : {X : Type 0} → (xs : List X) (k : ℕ) (x y : X) → slice_get xs k ≡ Some x → x ≡ y → Contains xs y
contained xs k x y got e = subst (Contains xs) e (k, slice_get_within xs k x got, get_or_from_slice_get xs k x x got)

flag_push : (limited : List Bool) (b : Bool) (i : ℕ) → flag_at (limited ++ b ∷ []) i ≡ true → (flag_at limited i ≡ true) ⊎ ((i ≡ length limited) × (b ≡ true))
flag_push [] b zero h = inr (refl, h)
flag_push [] b (suc i) h = inl h
flag_push (a ∷ limited) b zero h = inl h
flag_push (a ∷ limited) b (suc i) h = ⊎_elim (λ e. inl e) (λ e. inr (ap suc e.0, e.1)) (flag_push limited b i h)

-- One more product, on no limited ladder.
pub rungs_less : (p : ProblemData) (n : ℕ) (rungs : List Rung) (limited : List Bool) → AreRungsBelow p n rungs limited → AreRungsBelow p (n + 1) rungs (limited ++ false ∷ [])
rungs_less p n rungs limited a = record {
  few = let few = a.few in omega arith;
  each = length_push limited false ∙ ap (λ k. k + 1) a.each;
  are = a.are;
  listed = λ i h. ⊎_elim (a.listed i) (λ e. absurd (let f = e.1 in cc)) (flag_push limited false i h);
}

-- One more on one.
pub rungs_more : (p : ProblemData) (n : ℕ) (rungs : List Rung) (limited : List Bool) (product : Product) → n < product_count p
    → slice_get p.products n ≡ Some product → Contains p.limits (Ladder product.ladder) → AreRungsBelow p n rungs limited
    → AreRungsBelow p (n + 1) (rungs ++ record { at = n; product = product } ∷ []) (limited ++ true ∷ [])
rungs_more p n rungs limited product l got on a = record {
  few = let few = a.few in let more = length_push rungs (record { at = n; product = product }) in omega arith;
  each = length_push limited true ∙ ap (λ k. k + 1) a.each;
  are = All-push (IsRung p) rungs (record { at = n; product = product }) a.are
      (record { inside = l; product = sym (get_or_from_slice_get p.products n product no_product got); limited = on });
  listed = λ i h. ⊎_elim
      (λ e. let o = a.listed i e in (o.0, Contains-append_left rungs _ o.0 o.1, o.2))
      (λ e. (record { at = n; product = product }, Contains-push rungs (record { at = n; product = product }), sym (e.0 ∙ a.each)))
      (flag_push limited true i h);
}

-- They are the rungs in any order.
pub rungs_sorted : (p : ProblemData) (n : ℕ) (before after : List Rung) (limited : List Bool) → AreRungsBelow p n before limited → IsPermutation before after
    → AreRungsBelow p n after limited
rungs_sorted p n before after limited a moved = record {
  few = let few = a.few in let same = length_permutation before after moved in omega arith;
  each = a.each;
  are = All-permutation (IsRung p) before after moved a.are;
  listed = λ i h. let o = a.listed i h in (o.0, Contains-permutation before after o.0 moved o.1, o.2);
}

-- What category caps leave out, limit by limit.
use Rattle.std.proofs.Common.{◌≡◌, ℕ, suc, ◌+◌, ◌-◌, ◌<◌, Bool, false, cond, ◌||◌, List, [], ◌∷◌, length, drop, get_or, refl, sym, ap, ◌∙◌, subst, add-one, arith}
use Rattle.std.specs.Prelude.{◌==◌}
use Rattle.std.specs.List.{All, AllPairs}
use Rattle.std.proofs.Math.Seq.{drop-cons}
use Rattle.std.proofs.lemmas.List.{get_or-drop, get_or_default, length-drop}
use Rattle.std.proofs.lemmas.List.Elements.{All-head, All-tail}
use Rattle.std.proofs.lemmas.Bool.Decides.{nat_tests}
use Rattle.offer_model.specs.declared.products.Limit.{Limit}
use Rattle.offer_model.specs.declared.products.Limit.TheVariants.{Total, Category, Requires, Shelf, Ladder}
use Rattle.offer_model.specs.Problems.{ProblemData}
use Rattle.offer_model.specs.Validity.{Repeats}
use Rattle.segment_bound.specs.Tangents.{caps_category, left_by, left_out}

-- No limit repeats the first one, so none caps its category.
caps_once : (c cap : ℕ) (limits : List Limit) → All (λ b. Repeats (Category c cap) b → ⊥) limits → caps_category limits c ≡ false
caps_once c cap [] h = refl
caps_once c cap (Category d other ∷ limits) h =
    let apart = All-head (λ b. Repeats (Category c cap) b → ⊥) (Category d other) limits h in
    neither d c (caps_category limits c) apart (caps_once c cap limits (All-tail (λ b. Repeats (Category c cap) b → ⊥) (Category d other) limits h))
  where
    neither : (d c : ℕ) (rest : Bool) → (c ≡ d → ⊥) → rest ≡ false → (d == c || rest) ≡ false
    neither d c rest apart e = grind (arith, nat_tests)
caps_once c cap (Total other ∷ limits) h = caps_once c cap limits (All-tail (λ b. Repeats (Category c cap) b → ⊥) (Total other) limits h)
caps_once c cap (Requires a b ∷ limits) h = caps_once c cap limits (All-tail (λ b. Repeats (Category c cap) b → ⊥) (Requires a b) limits h)
caps_once c cap (Shelf space ∷ limits) h = caps_once c cap limits (All-tail (λ b. Repeats (Category c cap) b → ⊥) (Shelf space) limits h)
caps_once c cap (Ladder l ∷ limits) h = caps_once c cap limits (All-tail (λ b. Repeats (Category c cap) b → ⊥) (Ladder l) limits h)

-- The first limit leaves out what it does by itself.
left_first : (p : ProblemData) (limit : Limit) (limits : List Limit) → All (λ b. Repeats limit b → ⊥) limits → left_out p (limit ∷ limits) ≡ left_by p limit + left_out p limits
left_first p (Category c cap) limits h = ap (λ t. cond t 0 (left_by p (Category c cap)) + left_out p limits) (caps_once c cap limits h)
left_first p (Total cap) limits h = omega arith
left_first p (Requires a b) limits h = omega arith
left_first p (Shelf space) limits h = omega arith
left_first p (Ladder l) limits h = omega arith

-- One more limit.
pub left_next : (p : ProblemData) (limits : List Limit) (k most by n : ℕ) (limit : Limit) → AllPairs (λ a b. Repeats a b → ⊥) limits → k < length limits → get_or limits k limit ≡ limit → by ≡ left_by p limit
    → most - left_out p (drop k limits) ≡ n → most - by - left_out p (drop (k + 1) limits) ≡ n
left_next p limits k most by n limit once l e b before =
    let here : left_out p (drop k limits) ≡ left_out p (limit ∷ drop (suc k) limits) = ap (left_out p) (drop-cons limits k limit l) ∙ ap (λ (first : Limit). left_out p (first ∷ drop (suc k) limits)) e in
    let first = left_first p limit (drop (suc k) limits) (later limits k limit once l e) in
    rw add-one (omega (arith, here, first, b, before))
  where
    later : (limits : List Limit) (k : ℕ) (limit : Limit) → AllPairs (λ a b. Repeats a b → ⊥) limits → k < length limits → get_or limits k limit ≡ limit → All (λ b. Repeats limit b → ⊥) (drop (suc k) limits)
    later limits k limit once l e j d m r =
        let long = length-drop (suc k) limits in
        let below : suc k + j < length limits = omega (arith, long, m) in
        let first : get_or limits k d ≡ limit = get_or_default limits k d limit l ∙ e in
        once k (suc k + j) d (omega arith) below
        (subst (λ (a : Limit). Repeats a (get_or limits (suc k + j) d)) (sym first) (subst (λ (b : Limit). Repeats limit b) (get_or-drop (suc k) limits j d) r))

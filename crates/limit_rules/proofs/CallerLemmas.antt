-- What the kind of a problem's limits says of them, for callers' proofs.
use Rattle.std.specs.Prelude.{◌==◌, ◌&&◌, if◌then◌else◌, ℕ, Bool, true, false, List, [], ◌∷◌, length}
use Rattle.std.proofs.Common.{◌≡◌, refl, arith, suc}
use Rattle.std.proofs.lemmas.Bool.Decides.{nat_tests}
use Rattle.std.specs.List.{list_all}
use Rattle.offer_model.specs.declared.products.Limit.{Limit}
use Rattle.offer_model.specs.declared.products.Limit.TheVariants.{Total, Category, Requires, Shelf, Ladder}
use Rattle.offer_model.specs.Validity.{is_cap, is_requires, is_shelf, is_ladder}
use Rattle.limit_rules.specs.declared.kind.Kind.{Kind}
use Rattle.limit_rules.specs.declared.kind.Kind.TheVariants as K
use Rattle.limit_rules.specs.Kinds.{kind_of}

-- The kind by its tests.
abbrev chosen : Bool → Bool → Bool → Bool → Bool → Kind
chosen free caps requires shelf ladders = if free then K.Free
    else (if caps then K.Caps else (if requires then K.Closure else (if shelf then K.Shelf else (if ladders then K.Ladder else K.General))))

caps_by : (a b c d e : Bool) → chosen a b c d e ≡ K.Caps → b ≡ true
caps_by true b c d e h = cc
caps_by false true c d e h = refl
caps_by false false true d e h = cc
caps_by false false false true e h = cc
caps_by false false false false true h = cc
caps_by false false false false false h = cc

requires_by : (a b c d e : Bool) → chosen a b c d e ≡ K.Closure → c ≡ true
requires_by true b c d e h = cc
requires_by false true c d e h = cc
requires_by false false true d e h = refl
requires_by false false false true e h = cc
requires_by false false false false true h = cc
requires_by false false false false false h = cc

shelf_by : (a b c d e : Bool) → chosen a b c d e ≡ K.Shelf → d ≡ true
shelf_by true b c d e h = cc
shelf_by false true c d e h = cc
shelf_by false false true d e h = cc
shelf_by false false false true e h = refl
shelf_by false false false false true h = cc
shelf_by false false false false false h = cc

ladders_by : (a b c d e : Bool) → chosen a b c d e ≡ K.Ladder → e ≡ true
ladders_by true b c d e h = cc
ladders_by false true c d e h = cc
ladders_by false false true d e h = cc
ladders_by false false false true e h = cc
ladders_by false false false false true h = refl
ladders_by false false false false false h = cc

free_by : (a b c d e : Bool) → chosen a b c d e ≡ K.Free → a ≡ true
free_by true b c d e h = refl
free_by false true c d e h = cc
free_by false false true d e h = cc
free_by false false false true e h = cc
free_by false false false false true h = cc
free_by false false false false false h = cc

not_empty : (n : ℕ) → (suc n == 0) ≡ true → ⊥
not_empty n h = grind (arith, nat_tests)

-- Free: there are none.
pub Free-none : (limits : List Limit) → kind_of limits ≡ K.Free → limits ≡ []
Free-none [] h = refl
Free-none (limit ∷ limits) h = absurd (not_empty (length limits)
    (free_by (length (limit ∷ limits) == 0) (list_all is_cap (limit ∷ limits)) (list_all is_requires (limit ∷ limits))
    (list_all is_shelf (limit ∷ limits) && (length (limit ∷ limits) == 1)) (list_all is_ladder (limit ∷ limits)) h))

-- Caps: each is a cap.
pub Caps-all : (limits : List Limit) → kind_of limits ≡ K.Caps → list_all is_cap limits ≡ true
Caps-all limits h = caps_by (length limits == 0) (list_all is_cap limits) (list_all is_requires limits)
    (list_all is_shelf limits && (length limits == 1)) (list_all is_ladder limits) h

-- Closure: each is a requirement.
pub Closure-all : (limits : List Limit) → kind_of limits ≡ K.Closure → list_all is_requires limits ≡ true
Closure-all limits h = requires_by (length limits == 0) (list_all is_cap limits) (list_all is_requires limits)
    (list_all is_shelf limits && (length limits == 1)) (list_all is_ladder limits) h

-- Ladder: each is a ladder.
pub Ladder-all : (limits : List Limit) → kind_of limits ≡ K.Ladder → list_all is_ladder limits ≡ true
Ladder-all limits h = ladders_by (length limits == 0) (list_all is_cap limits) (list_all is_requires limits)
    (list_all is_shelf limits && (length limits == 1)) (list_all is_ladder limits) h

one_only : (b : Bool) (n : ℕ) → (b && (n == 1)) ≡ true → n ≡ 1
one_only true n h = grind (arith, nat_tests)
one_only false n h = cc

shelves_one : (limits : List Limit) → (list_all is_shelf limits && (length limits == 1)) ≡ true
    → (space : ℕ) × (limits ≡ Shelf space ∷ [])
shelves_one [] h = cc
shelves_one (Shelf space ∷ []) h = (space, refl)
shelves_one (Total most ∷ limits) h = cc
shelves_one (Category c most ∷ limits) h = cc
shelves_one (Requires a b ∷ limits) h = cc
shelves_one (Ladder l ∷ limits) h = cc
shelves_one (Shelf space ∷ limit ∷ limits) h =
    let one : length (Shelf space ∷ limit ∷ limits) ≡ 1
    = one_only (list_all is_shelf (Shelf space ∷ limit ∷ limits)) (length (Shelf space ∷ limit ∷ limits)) h in
    absurd (omega arith)

-- Shelf: there is one limit, a shelf.
pub Shelf-one : (limits : List Limit) → kind_of limits ≡ K.Shelf → (space : ℕ) × (limits ≡ Shelf space ∷ [])
Shelf-one limits h = shelves_one limits (shelf_by (length limits == 0) (list_all is_cap limits) (list_all is_requires limits)
    (list_all is_shelf limits && (length limits == 1)) (list_all is_ladder limits) h)

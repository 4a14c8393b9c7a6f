-- The first place at which a test passes.
use Rattle.std.proofs.Common.{◌≡◌, ◌∙◌, sym, ap, refl, arith, ℕ, suc, ◌+◌, ◌<◌, List, [], ◌∷◌, ◌++◌, length, map, get_or, Bool, true, false, not, cond, ◌||◌, nat_lt, Option, Some, None, option_map, is_some}
use Rattle.std.specs.List.{position, list_any, prefix_len}
use Rattle.std.proofs.lemmas.Bool.Decides.{nat_tests}
use Rattle.std.proofs.lemmas.List.Folds.{list_any_at}

-- The place in a list is that of its head, or one more than the place in its tail.
pub position_cons : {X : Type 0} (p : X → Bool) (x : X) (xs : List X)
    → position p (x ∷ xs) ≡ cond (p x) (Some 0) (option_map (λ k. k + 1) (position p xs))
position_cons p x xs = by_head (p x) (prefix_len (λ y. not (p y)) xs) (length xs)
  where
    by_head : (b : Bool) (m n : ℕ) → cond (nat_lt (cond (not b) (1 + m) 0) (suc n)) (Some (cond (not b) (1 + m) 0)) None
        ≡ cond b (Some 0) (option_map (λ k. k + 1) (cond (nat_lt m n) (Some m) None))
    by_head true m n = grind (arith, nat_tests)
    by_head false m n = grind (arith, nat_tests)

-- A test of what a list is taken to.
pub position_in_map : {X Y : Type 0} (f : X → Y) (p : Y → Bool) (xs : List X) → position p (map f xs) ≡ position (λ x. p (f x)) xs
position_in_map f p [] = refl
position_in_map f p (x ∷ xs) = rw (position_cons p (f x) (map f xs), position_cons (λ x. p (f x)) x xs, position_in_map f p xs) refl

-- There is a place exactly where an element passes.
pub position_there : {X : Type 0} (p : X → Bool) (xs : List X) → is_some (position p xs) ≡ list_any p xs
position_there p [] = refl
position_there p (x ∷ xs) = rw (position_cons p x xs, ← position_there p xs) (by_head (p x) (position p xs))
  where
    by_head : (b : Bool) (o : Option ℕ) → is_some (cond b (Some 0) (option_map (λ k. k + 1) o)) ≡ (b || is_some o)
    by_head true o = refl
    by_head false None = refl
    by_head false (Some k) = refl

-- An element put last changes the place only where none passed before it and it does.
pub position_kept : {X : Type 0} (p : X → Bool) (xs : List X) (y : X) → p y ≡ false → position p (xs ++ y ∷ []) ≡ position p xs
position_kept p [] y miss = rw (position_cons p y [], miss) refl
position_kept p (x ∷ xs) y miss = rw (position_cons p x (xs ++ y ∷ []), position_cons p x xs, position_kept p xs y miss) refl

-- The place of an element put last, where the test failed before.
pub position_new : {X : Type 0} (p : X → Bool) (xs : List X) (y : X) → list_any p xs ≡ false → p y ≡ true
    → position p (xs ++ y ∷ []) ≡ Some (length xs)
position_new p [] y none here = rw (position_cons p y [], here) refl
position_new p (x ∷ xs) y none here =
    let miss = neither (p x) (list_any p xs) none in
    let rest = position_new p xs y miss.1 here in
    rw (position_cons p x (xs ++ y ∷ []), miss.0, rest) (ap Some (omega arith))
  where
    neither : (a b : Bool) → (a || b) ≡ false → (a ≡ false) × (b ≡ false)
    neither true b h = cc
    neither false b h = (refl, h)

-- Where there is no place, no element passes.
pub position_nowhere : {X : Type 0} (p : X → Bool) (xs : List X) (k : ℕ) (d : X) → position p xs ≡ None → k < length xs → p (get_or xs k d) ≡ false
position_nowhere p xs k d none inside = not_true _ (λ here. absurd (differ (sym (ap is_some none) ∙ position_there p xs ∙ list_any_at p xs k d inside here)))
  where
    not_true : (b : Bool) → (b ≡ true → ⊥) → b ≡ false
    not_true true h = absurd (h refl)
    not_true false h = refl

    differ : false ≡ true → ⊥
    differ e = cc

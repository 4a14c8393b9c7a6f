-- Assortments, their order, and sums over products. An assortment is a list of truth values in catalogue order.
use Rattle.std.specs.Prelude.{ℕ, ◌+◌, Bool, true, false, List, [], ◌∷◌, slice_index_or}
use Prim.Native.Nat.{zero, suc}

-- Whether the assortment offers product i. It offers nothing past its end.
abbrev pub offers : List Bool → ℕ → Bool
offers x i = slice_index_or x i false

-- The rule of ties: at the first product where x and y differ, x doesn't offer it and y does. Own.
abbrev pub IsBefore : List Bool → List Bool → Type 0
IsBefore [] y = ⊥
IsBefore (b ∷ x) [] = ⊥
IsBefore (false ∷ x) (true ∷ y) = Unit {0}
IsBefore (true ∷ x) (false ∷ y) = ⊥
IsBefore (true ∷ x) (true ∷ y) = IsBefore x y
IsBefore (false ∷ x) (false ∷ y) = IsBefore x y

-- The sum of f over the products below n.
abbrev pub sum_below : ℕ → (ℕ → ℕ) → ℕ
sum_below zero f = 0
sum_below (suc n) f = sum_below n f + f n

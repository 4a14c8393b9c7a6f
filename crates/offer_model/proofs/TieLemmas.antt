-- The order of assortments, and the completions of a node in it.
use Rattle.std.proofs.Common.{◌≡◌, Bool, true, false, List, [], ◌∷◌, length, refl, ap, inl, inr, ◌⊎◌, arith}
use Rattle.offer_model.specs.declared.node.Mark.{Mark}
use Rattle.offer_model.specs.declared.node.Mark.TheVariants.{In, Out, Open}
use Rattle.offer_model.specs.Assortments.{IsBefore}
use Rattle.offer_model.specs.Nodes.{Completes, fill_of}

-- Of two assortments not both are before the other.
pub IsBefore-asym : (x y : List Bool) → IsBefore x y → IsBefore y x → ⊥
IsBefore-asym [] y h k = h
IsBefore-asym (b ∷ x) [] h k = h
IsBefore-asym (false ∷ x) (true ∷ y) h k = k
IsBefore-asym (true ∷ x) (false ∷ y) h k = h
IsBefore-asym (true ∷ x) (true ∷ y) h k = IsBefore-asym x y h k
IsBefore-asym (false ∷ x) (false ∷ y) h k = IsBefore-asym x y h k

-- One more product that both treat alike keeps them equal or in order.
pub further : (b : Bool) (x y : List Bool) → ((y ≡ x) ⊎ IsBefore x y) → ((b ∷ y ≡ b ∷ x) ⊎ IsBefore (b ∷ x) (b ∷ y))
further true x y (inl e) = inl (ap (λ z. true ∷ z) e)
further true x y (inr h) = inr h
further false x y (inl e) = inl (ap (λ z. false ∷ z) e)
further false x y (inr h) = inr h

-- Where the node's fill isn't before x, each completion is x or comes after it.
pub tie : (node : List Mark) (x y : List Bool) → Completes node y → length x ≡ length node → (IsBefore (fill_of node) x → ⊥) → (y ≡ x) ⊎ IsBefore x y
tie [] [] [] c l h = inl refl
tie (In ∷ node) (true ∷ x) (true ∷ y) c l h = further true x y (tie node x y c.1 (omega arith) h)
tie (In ∷ node) (false ∷ x) (true ∷ y) c l h = inr tt
tie (Out ∷ node) (true ∷ x) (false ∷ y) c l h = absurd (h tt)
tie (Out ∷ node) (false ∷ x) (false ∷ y) c l h = further false x y (tie node x y c.1 (omega arith) h)
tie (Open ∷ node) (true ∷ x) (b ∷ y) c l h = absurd (h tt)
tie (Open ∷ node) (false ∷ x) (true ∷ y) c l h = inr tt
tie (Open ∷ node) (false ∷ x) (false ∷ y) c l h = further false x y (tie node x y c.1 (omega arith) h)
tie [] (b ∷ x) y c l h = absurd (omega arith)
tie (m ∷ node) [] y c l h = absurd (omega arith)
tie [] [] (b ∷ y) c l h = absurd c
tie (m ∷ node) (b ∷ x) [] c l h = absurd c
tie (In ∷ node) (b ∷ x) (false ∷ y) c l h = let e : false ≡ true = c.0 in cc
tie (Out ∷ node) (b ∷ x) (true ∷ y) c l h = let e : true ≡ false = c.0 in cc

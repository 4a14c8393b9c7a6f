-- The greatest of a function over the completions of a node.
use Rattle.std.specs.Prelude.{ℕ, max, Bool, true, false, List, [], ◌∷◌}
use Rattle.offer_model.specs.declared.node.Mark.{Mark}
use Rattle.offer_model.specs.declared.node.Mark.TheVariants.{In, Out, Open}

-- A product that is Open is offered or left out, whichever brings more.
abbrev pub greatest : (List Bool → ℕ) → List Mark → ℕ
greatest f [] = f []
greatest f (In ∷ node) = greatest (λ y. f (true ∷ y)) node
greatest f (Out ∷ node) = greatest (λ y. f (false ∷ y)) node
greatest f (Open ∷ node) = max (greatest (λ y. f (true ∷ y)) node) (greatest (λ y. f (false ∷ y)) node)

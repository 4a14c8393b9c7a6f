-- Lists with reserved room, as contracts see them.
use Rattle.std.specs.Prelude.{ℕ, List}

-- The items of a list, and the room for further ones. Own.
pub record Roomy (X : Type 0) : Type 0 where
  pub items : List X
  pub spare : ℕ

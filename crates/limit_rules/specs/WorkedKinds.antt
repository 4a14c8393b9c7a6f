-- The kinds of worked lists of limits.
use Rattle.std.specs.Prelude.{◌≡◌, [], ◌∷◌}
use Rattle.offer_model.specs.declared.products.Limit.TheVariants.{Total, Category, Requires, Shelf, Ladder}
use Rattle.limit_rules.specs.declared.kind.Kind.TheVariants as K
use Rattle.limit_rules.specs.Kinds.{kind_of}

-- Each kind, of the shortest lists that have it.
pub record KindsAreWorked : Type 0 where
  pub free : kind_of [] ≡ K.Free
  pub cap : kind_of (Total 1 ∷ []) ≡ K.Caps
  pub caps : kind_of (Category 1 2 ∷ Total 1 ∷ []) ≡ K.Caps
  pub closure : kind_of (Requires 0 1 ∷ []) ≡ K.Closure
  pub shelf : kind_of (Shelf 1 ∷ []) ≡ K.Shelf
  pub two_shelves : kind_of (Shelf 1 ∷ Shelf 1 ∷ []) ≡ K.General
  pub ladders : kind_of (Ladder 1 ∷ Ladder 2 ∷ []) ≡ K.Ladder
  pub mixed : kind_of (Total 1 ∷ Shelf 1 ∷ []) ≡ K.General

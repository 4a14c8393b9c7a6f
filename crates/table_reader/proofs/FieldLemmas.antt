-- The fields of a record, by place.
use Rattle.std.proofs.Common.{◌≡◌, ◌∙◌, sym, ℕ, zero, suc, ◌<◌, List, [], ◌∷◌, length, slice_get, Option, Some, None, IsSome, option_map, Bor, refl, arith}
use Rattle.csv.specs.Records.{field_at}

-- csv's word for the field at a place is std's.
pub field_there : (fields : List (List ℕ)) (i : ℕ) → field_at fields i ≡ slice_get fields i
unfolding field_at
field_there [] i = refl
field_there (f ∷ fs) zero = refl
field_there (f ∷ fs) (suc i) = field_there fs i

-- A field is read at each place below the length.
pub field_is_read : (read : Option (Bor (List ℕ))) (fields : List (List ℕ)) (i : ℕ) → i < length fields
    → option_map (λ s. s.now) read ≡ field_at fields i → IsSome read
field_is_read None fields i inside e = absurd (gone fields i inside (sym (field_there fields i) ∙ sym e))
  where
    gone : (fields : List (List ℕ)) (i : ℕ) → i < length fields → slice_get fields i ≡ None → ⊥
    gone [] i inside none = omega arith
    gone (f ∷ fs) zero inside none = cc
    gone (f ∷ fs) (suc i) inside none = gone fs i (omega arith) none
field_is_read (Some text) fields i inside e = refl

-- Sets of names that are lent.
use Rattle.std.proofs.Common.{map, ◌≡◌, refl, ℕ, List, [], ◌∷◌, ◌++◌, Bool, true, false, Bor, if◌then◌else◌}
use Rattle.std.specs.List.{list_any, position_or_len}
use Rattle.std.specs.Str.{bytes_eq}
use Rattle.std.proofs.lemmas.List.{map-append}
use Rattle.table_reader.specs.Tables.{is_among}

-- The bytes of names that are lent.
abbrev pub lent_names : List (Bor (List ℕ)) → List (List ℕ)
lent_names names = map (λ (name : Bor (List ℕ)). name.now) names

-- A test of lent names is a test of their bytes.
pub lent_among : (name : List ℕ) (keys : List (Bor (List ℕ))) → list_any (λ (key : Bor (List ℕ)). bytes_eq name key.now) keys ≡ is_among name (lent_names keys)
lent_among name [] = refl
lent_among name (k ∷ ks) = rw (lent_among name ks) refl

-- And their places are those of their bytes.
pub lent_place : (name : List ℕ) (keys : List (Bor (List ℕ)))
    → position_or_len (λ (key : Bor (List ℕ)). bytes_eq name key.now) keys ≡ position_or_len (bytes_eq name) (lent_names keys)
lent_place name [] = refl
lent_place name (k ∷ ks) = rw (lent_place name ks) refl

-- A name is inserted as its bytes are.
pub lent_inserted : (name : Bor (List ℕ)) (keys : List (Bor (List ℕ)))
    → lent_names (if list_any (λ (key : Bor (List ℕ)). bytes_eq name.now key.now) keys then keys else keys ++ name ∷ [])
    ≡ (if is_among name.now (lent_names keys) then lent_names keys else lent_names keys ++ name.now ∷ [])
lent_inserted name keys = rw (lent_among name.now keys) (by_found (is_among name.now (lent_names keys)))
  where
    by_found : (b : Bool) → lent_names (if b then keys else keys ++ name ∷ []) ≡ (if b then lent_names keys else lent_names keys ++ name.now ∷ [])
    by_found true = refl
    by_found false = map-append (λ (key : Bor (List ℕ)). key.now) keys (name ∷ [])

-- What stands in an output file after it was written, for texts of any kind. Own.
use Rattle.std.specs.Prelude.{◌≡◌, ◌⊎◌, ℕ, List, [], take, Some, IsTrue}
use Rattle.offer_io.specs.Stores.{StoreView, Extends}

-- The file of this name is such a text, where the store tells it.
abbrev pub HoldsText : (List ℕ → Type 0) → List ℕ → StoreView → Type 0
HoldsText IsText name store = IsTrue store.tells → (text : List ℕ) × IsText text × (store.file name ≡ Some text)

-- It is as it was, or empty, or a part from the front of such a text.
abbrev pub HoldsPart : (List ℕ → Type 0) → List ℕ → StoreView → StoreView → Type 0
HoldsPart IsText name old new = IsTrue old.tells → (new.file name ≡ old.file name) ⊎ (new.file name ≡ Some [])
    ⊎ ((text : List ℕ) × IsText text × ((n : ℕ) × (new.file name ≡ Some (take n text))))

-- The open output has grown by such a text.
abbrev pub Appends : (List ℕ → Type 0) → StoreView → StoreView → Type 0
Appends IsText old new = (text : List ℕ) × IsText text × Extends old text new

-- It has grown by a part from the front of one.
abbrev pub AppendsPart : (List ℕ → Type 0) → StoreView → StoreView → Type 0
AppendsPart IsText old new = (text : List ℕ) × IsText text × ((n : ℕ) × Extends old (take n text) new)

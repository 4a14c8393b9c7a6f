-- What holds while a file is loaded.
use Rattle.std.proofs.Common.{◌≡◌, ℕ, ◌≤◌, List, ◌++◌, length, Some, IsTrue, true}
use Rattle.offer_io.specs.Stores.{StoreView, Passes}

-- The content is what was read and what is left, and what was read fits.
pub record IsLoading (old : StoreView) (name : List ℕ) (most : ℕ) (bytes : List ℕ) (now : StoreView) : Type 0 where
  pub content : IsTrue old.tells → old.file name ≡ Some (bytes ++ now.left)
  pub fits : length bytes ≤ most
  pub reading : now.reading ≡ true
  pub passes : Passes old now

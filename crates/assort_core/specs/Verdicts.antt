-- What is said of a text that was read piece by piece. Own.
use Rattle.std.specs.Prelude.{◌≡◌, ◌↔◌, ◌≤◌, ℕ, Bool, List, length, Some, IsTrue}
use Rattle.offer_io.specs.Stores.{StoreView}

-- The whole text of a file, which isn't above its limit, was read and said to be accepted or not.
pub record HasVerdict (Accepted : List ℕ → Type 0) (store : StoreView) (name : List ℕ) (most : ℕ) (accepted : Bool) : Type 0 where
  pub text : List ℕ
  pub content : IsTrue store.tells → store.file name ≡ Some text
  pub fits : length text ≤ most
  pub verdict : IsTrue accepted ↔ Accepted text

-- What reading a file piece by piece takes off its content. Own.
use Rattle.std.specs.Prelude.{◌≡◌, ℕ, ◌≤◌, List, ◌++◌, length}
use Rattle.offer_io.specs.Stores.{StoreView}

-- At least so many bytes came off the front of what was left.
pub record HasTaken (old : StoreView) (least : ℕ) (new : StoreView) : Type 0 where
  pub gone : List ℕ
  pub enough : least ≤ length gone
  pub left : old.left ≡ gone ++ new.left

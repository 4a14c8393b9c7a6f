-- A best choice, read off a table product by product. Own.
use Rattle.std.specs.Prelude.{◌≡◌, ℕ, ◌+◌, ◌<◌, ◌≤◌, Bool, List, length, cond, pos, ◌+ℤ◌}
use lib.IntN.{ℤ}
use Rattle.offer_model.specs.declared.node.Mark.{Mark}
use Rattle.offer_model.specs.Assortments.{offers, sum_below}
use Rattle.offer_model.specs.Nodes.{mark_at, is_in, fill_of, Agrees}
use Rattle.offer_model.specs.Prices.{int_sum_below}
use Rattle.shelf_table.specs.Tables.{best_from, free_prices}

-- The prices of what is In, and the best of what is Open in this room.
abbrev pub best_sum : (ℕ → ℕ) → ℕ → List Mark → (ℕ → ℤ) → ℕ → ℤ
best_sum space n node price room = int_sum_below n (λ i. cond (offers (fill_of node) i) (price i) (pos 0))
    +ℤ best_from space (free_prices node price) n 0 room

-- The choice is made up to product k, and from k on it offers what is In. The spaces that it takes and the room are the
-- shelf, and its prices and the best of the rest are z.
pub record IsRead (space : ℕ → ℕ) (n : ℕ) (node : List Mark) (price : ℕ → ℤ) (shelf : ℕ) (z : ℤ) (k : ℕ) (x : List Bool) (room : ℕ)
    : Type 0 where
  pub each : length x ≡ n
  pub agrees : (i : ℕ) → i < n → Agrees (mark_at node i) (offers x i)
  pub ahead : (i : ℕ) → k ≤ i → i < n → offers x i ≡ is_in (mark_at node i)
  pub fits : sum_below n (λ i. cond (offers x i) (space i) 0) + room ≡ shelf
  pub sum : (int_sum_below n (λ i. cond (offers x i) (price i) (pos 0)) +ℤ best_from space (free_prices node price) n k room) ≡ z

-- Trees of the products that a search for an augmenting path has reached, in the order in which it reached them.
use Rattle.std.specs.Prelude.{◌≡◌, ◌≢◌, ℕ, ◌+◌, ◌<◌, ◌≤◌, true, false, List, length, slice_index, slice_index_or}
use lib.IntN.{ℤ}
use Rattle.cut_step.specs.declared.rows.Row.{Row}
use Rattle.cut_step.specs.declared.reach.Entry.{Entry}
use Rattle.cut_step.specs.Flows.{IsBalanced, Carried, source_of, target_of}

abbrev pub entry_at : List Entry → ℕ → Entry
entry_at tree j = slice_index_or tree j (record { product = 0; row = 0; from = 0; back = false; cap = 0 })

-- The product of the entry at place j.
abbrev pub product_of : List Entry → ℕ → ℕ
product_of tree j = (entry_at tree j).product

-- The place of the entry from which it was reached, its own at a root.
abbrev pub before : List Entry → ℕ → ℕ
before tree j = (entry_at tree j).from

-- The row over which it was reached.
abbrev pub over : List Entry → ℕ → ℕ
over tree j = (entry_at tree j).row

-- How much can be carried to it from its root: the least residual capacity on the way.
abbrev pub cap : List Entry → ℕ → ℕ
cap tree j = (entry_at tree j).cap

-- Entry e was reached over its row from entry p. On a row any amount may go on, and back no more than has gone on.
pub record Leads (rows : List Row) (amounts : List ℕ) (e p : Entry) : Type 0 where
  pub row : e.row < length rows
  pub source : source_of rows e.row e.back ≡ p.product
  pub target : target_of rows e.row e.back ≡ e.product
  pub narrows : e.cap ≤ p.cap
  pub holds : e.back ≡ false → p.cap ≤ e.cap
  pub room : e.back ≡ true → e.cap ≤ slice_index amounts e.row

-- A tree of products below n. No two of its entries were reached over one row.
pub record IsTree (rows : List Row) (n : ℕ) (amounts : List ℕ) (tree : List Entry) : Type 0 where
  pub below : (j : ℕ) → j < length tree → before tree j ≤ j
  pub named : (j : ℕ) → j < length tree → product_of tree j < n
  pub step : (j : ℕ) → j < length tree → before tree j < j → Leads rows amounts (entry_at tree j) (entry_at tree (before tree j))
  pub apart : (i j : ℕ) → i < j → j < length tree → before tree i < i → before tree j < j → over tree i ≢ over tree j

-- No entry was reached over row k.
abbrev pub Unused : List Entry → ℕ → Type 0
Unused tree k = (j : ℕ) → j < length tree → before tree j < j → over tree j ≢ k

-- d was carried to the entry at place `start` from the entry at place `at` above it.
pub record Pushed (rows : List Row) (tree : List Entry) (start d : ℕ) (f0 : List ℕ) (r0 : List ℤ) (at : ℕ) (f : List ℕ) (r : List ℤ) : Type 0 where
  pub above : at ≤ start
  pub caps : cap tree start ≤ cap tree at
  pub rows_each : length f ≡ length f0
  pub carried : Carried r0 r (product_of tree at) (product_of tree start) d
  pub fresh : (j : ℕ) → j ≤ at → before tree j < j → slice_index f (over tree j) ≡ slice_index f0 (over tree j)
  pub amount : (k : ℕ) → slice_index f k ≤ slice_index f0 k + d
  pub unused : (k : ℕ) → Unused tree k → slice_index f k ≡ slice_index f0 k
  pub balanced : (prices : List ℤ) → length prices ≡ length r0 → IsBalanced rows prices r0 f0 → IsBalanced rows prices r f

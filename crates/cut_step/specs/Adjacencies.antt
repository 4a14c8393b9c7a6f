-- The rows at each product, in one list: those of a product follow those of the products before it.
use Rattle.std.specs.Prelude.{◌≡◌, ℕ, ◌+◌, ◌<◌, ◌≤◌, List, length, slice_index}
use Rattle.cut_step.specs.declared.rows.Row.{Row}
use Rattle.cut_step.specs.declared.adjacency.Adjacency.{Adjacency}
use Rattle.cut_step.specs.Closures.{first_of, second_of}

-- The list holds k at a position from `low` on and before `high`.
pub record IsListed (list : List ℕ) (low high k : ℕ) : Type 0 where
  pub position : ℕ
  pub lower : low ≤ position
  pub upper : position < high
  pub is : slice_index list position ≡ k

-- Of the first m rows those at product i are listed from `low` on and before `high`.
pub record ListsRows (rows : List Row) (i m : ℕ) (list : List ℕ) (low high : ℕ) : Type 0 where
  pub firsts : (k : ℕ) → k < m → first_of rows k ≡ i → IsListed list low high k
  pub seconds : (k : ℕ) → k < m → second_of rows k ≡ i → IsListed list low high k

-- Of the first m rows those at product i were put at the end of a list.
pub record AddsRows (rows : List Row) (i m : ℕ) (was now : List ℕ) : Type 0 where
  pub longer : length was ≤ length now
  pub front : (q : ℕ) → q < length was → slice_index now q ≡ slice_index was q
  pub named : (q : ℕ) → length was ≤ q → q < length now → slice_index now q < length rows
  pub lists : ListsRows rows i m now (length was) (length now)

-- The lists of the first n products are made.
pub record AreListed (rows : List Row) (n : ℕ) (list starts : List ℕ) : Type 0 where
  pub each : length starts ≡ n + 1
  pub last : slice_index starts n ≡ length list
  pub inside : (i : ℕ) → i ≤ n → slice_index starts i ≤ length list
  pub named : (q : ℕ) → q < length list → slice_index list q < length rows
  pub lists : (i : ℕ) → i < n → ListsRows rows i (length rows) list (slice_index starts i) (slice_index starts (i + 1))

-- The rows at each of n products.
abbrev pub IsAdjacency : List Row → ℕ → Adjacency → Type 0
IsAdjacency rows n a = AreListed rows n a.rows.items a.starts.items

-- Searches of the residual network: from the products that can give something, on over any row, and back over rows that
-- carry an amount, to a product that takes something.
use Rattle.std.specs.Prelude.{◌≡◌, ℕ, ◌+◌, ◌^◌, ◌<◌, ◌≤◌, Bool, true, false, cond, List, length, slice_index, slice_index_or, pos, negsuc, Option, Some, None}
use lib.IntN.{ℤ}
use Rattle.offer_model.specs.declared.node.Mark.{Mark}
use Rattle.offer_model.specs.declared.node.Mark.TheVariants.{In, Out, Open}
use Rattle.offer_model.specs.Assortments.{sum_below}
use Rattle.offer_model.specs.Nodes.{mark_at}
use Rattle.cut_step.specs.declared.rows.Row.{Row}
use Rattle.cut_step.specs.declared.phase.Phase.{Phase}
use Rattle.cut_step.specs.declared.phase.Phase.TheVariants.{Forced, Funded}
use Rattle.cut_step.specs.declared.reach.Entry.{Entry}
use Rattle.cut_step.specs.declared.reach.Spot.{Spot}
use Rattle.cut_step.specs.declared.reach.Spot.TheVariants.{Free, Kept, At}
use Rattle.cut_step.specs.Closures.{first_of, second_of, price_at}
use Rattle.cut_step.specs.Trees.{IsTree, entry_at, product_of, before, cap}

abbrev pub spot_at : List Spot → ℕ → Spot
spot_at spots i = slice_index_or spots i Free

abbrev pub is_seen : Spot → Bool
is_seen Free = false
is_seen Kept = true
is_seen (At p) = true

-- Product i was reached, in this search or for good.
abbrev pub seen : List Spot → ℕ → Bool
seen spots i = is_seen (spot_at spots i)

-- How many of n products are not seen.
abbrev pub unseen : ℕ → List Spot → ℕ
unseen n spots = sum_below n (λ i. cond (seen spots i) 0 1)

-- What a product of excess z can give: first what is In gives without end, then what is Open gives its excess.
abbrev pub supply_of : Phase → Mark → ℤ → ℕ
supply_of Forced In z = 2 ^ 109
supply_of Forced Out z = 0
supply_of Forced Open z = 0
supply_of Funded Open (pos n) = n
supply_of Funded Open (negsuc n) = 0
supply_of Funded In z = 0
supply_of Funded Out z = 0

abbrev pub is_below : ℤ → Bool
is_below (pos n) = false
is_below (negsuc n) = true

-- Whether a product takes something: what is Out does without end, and in the second phase what is Open with a deficit.
abbrev pub takes : Phase → Mark → ℤ → Bool
takes phase In z = false
takes phase Out z = true
takes Forced Open z = false
takes Funded Open z = is_below z

-- The deficit of an Open product.
abbrev pub deficit_of : Mark → ℤ → ℕ
deficit_of Open (pos n) = 0
deficit_of Open (negsuc n) = n + 1
deficit_of In z = 0
deficit_of Out z = 0

-- Nothing can be carried over row k from what is seen to what isn't.
pub record ShutAt (rows : List Row) (amounts : List ℕ) (s : ℕ → Bool) (k : ℕ) : Type 0 where
  pub on : s (first_of rows k) ≡ true → s (second_of rows k) ≡ true
  pub back : 0 < slice_index amounts k → s (second_of rows k) ≡ true → s (first_of rows k) ≡ true

-- Over row k nothing more can be carried from product i: its other end is seen.
pub record IsSpent (rows : List Row) (amounts : List ℕ) (s : ℕ → Bool) (i k : ℕ) : Type 0 where
  pub on : first_of rows k ≡ i → s (second_of rows k) ≡ true
  pub back : 0 < slice_index amounts k → second_of rows k ≡ i → s (first_of rows k) ≡ true

-- From each root as much can be carried as its product gives.
abbrev pub RootsGive : List Mark → Phase → List ℤ → List Entry → Type 0
RootsGive node phase r tree = (j : ℕ) → j < length tree → before tree j ≡ j
    → cap tree j ≡ supply_of phase (mark_at node (product_of tree j)) (price_at r (product_of tree j))

-- The product of the entry at place p takes something.
abbrev pub TakesAt : List Mark → Phase → List ℤ → List Entry → ℕ → Type 0
TakesAt node phase r tree p = takes phase (mark_at node (product_of tree p)) (price_at r (product_of tree p)) ≡ true

-- A tree of the first phase: each root is In, and to each entry as much can be carried as an In product gives.
pub record IsFull (node : List Mark) (tree : List Entry) : Type 0 where
  pub roots : (j : ℕ) → j < length tree → before tree j ≡ j → mark_at node (product_of tree j) ≡ In
  pub caps : (j : ℕ) → j < length tree → 2 ^ 109 ≤ cap tree j

-- The state of a search: a tree from products that give something, each product's spot, and nothing that leads out of
-- what is kept.
pub record IsSearched (rows : List Row) (node : List Mark) (phase : Phase) (f : List ℕ) (r : List ℤ) (spots : List Spot) (tree : List Entry) : Type 0 where
  pub well : IsTree rows (length spots) f tree
  pub placed : (j : ℕ) → j < length tree → spot_at spots (product_of tree j) ≡ At j
  pub there : (i p : ℕ) → spot_at spots i ≡ At p → (p < length tree) × (product_of tree p ≡ i)
  pub fewer : unseen (length spots) spots + length tree ≤ length spots
  pub root : RootsGive node phase r tree
  pub some : (j : ℕ) → j < length tree → 0 < cap tree j
  pub kept_on : (k : ℕ) → k < length rows → spot_at spots (first_of rows k) ≡ Kept → spot_at spots (second_of rows k) ≡ Kept
  pub kept_back : (k : ℕ) → k < length rows → 0 < slice_index f k → spot_at spots (second_of rows k) ≡ Kept → spot_at spots (first_of rows k) ≡ Kept

-- A search goes on: what it has seen it has seen, and each new entry sees one more product.
pub record Grown (spots : List Spot) (tree : List Entry) (spots' : List Spot) (tree' : List Entry) : Type 0 where
  pub each : length spots' ≡ length spots
  pub longer : length tree ≤ length tree'
  pub front : (j : ℕ) → j < length tree → entry_at tree' j ≡ entry_at tree j
  pub more : (i : ℕ) → seen spots i ≡ true → seen spots' i ≡ true
  pub kept : (i : ℕ) → spot_at spots i ≡ Kept → spot_at spots' i ≡ Kept
  pub was_kept : (i : ℕ) → spot_at spots' i ≡ Kept → spot_at spots i ≡ Kept
  pub count : unseen (length spots) spots' + length tree' ≤ unseen (length spots) spots + length tree

-- No product of the tree takes anything.
abbrev pub NoneTakes : List Mark → Phase → List ℤ → List Entry → Type 0
NoneTakes node phase r tree = (j : ℕ) → j < length tree → takes phase (mark_at node (product_of tree j)) (price_at r (product_of tree j)) ≡ false

-- Row k was tried: it is shut, its end that wasn't seen having been added where that took something.
pub record Tried (rows : List Row) (node : List Mark) (phase : Phase) (f : List ℕ) (r : List ℤ) (spots : List Spot) (tree : List Entry) (spots' : List Spot) (tree' : List Entry) (k : ℕ) (added : Bool) : Type 0 where
  pub searched : IsSearched rows node phase f r spots' tree'
  pub grown : Grown spots tree spots' tree'
  pub longer : added ≡ true → length tree' ≡ length tree + 1
  pub tree_stays : added ≡ false → tree' ≡ tree
  pub shut : ShutAt rows f (seen spots') k

-- The place of an entry that takes something, or none takes.
abbrev pub IsFound : List Mark → Phase → List ℤ → List Entry → Option ℕ → Type 0
IsFound node phase r tree None = NoneTakes node phase r tree
IsFound node phase r tree (Some p) = (p < length tree) × TakesAt node phase r tree p

-- Row k was tried, and what it added was looked at.
pub record Looked (rows : List Row) (node : List Mark) (phase : Phase) (f : List ℕ) (r : List ℤ) (spots : List Spot) (tree : List Entry) (spots' : List Spot) (tree' : List Entry) (k : ℕ) (found : Option ℕ) : Type 0 where
  pub searched : IsSearched rows node phase f r spots' tree'
  pub grown : Grown spots tree spots' tree'
  pub told : IsFound node phase r tree' found
  pub shut : ShutAt rows f (seen spots') k

-- All rows at product i were tried.
pub record Scanned (rows : List Row) (node : List Mark) (phase : Phase) (f : List ℕ) (r : List ℤ) (spots : List Spot) (tree : List Entry) (spots' : List Spot) (tree' : List Entry) (i : ℕ) (found : Option ℕ) : Type 0 where
  pub searched : IsSearched rows node phase f r spots' tree'
  pub grown : Grown spots tree spots' tree'
  pub told : IsFound node phase r tree' found
  pub spent : found ≡ None → (k : ℕ) → k < length rows → IsSpent rows f (seen spots') i k

-- Product i was put into the tree as a root where it gives something.
pub record Rooted (rows : List Row) (node : List Mark) (phase : Phase) (f : List ℕ) (r : List ℤ) (spots : List Spot) (tree : List Entry) (spots' : List Spot) (tree' : List Entry) (i : ℕ) : Type 0 where
  pub searched : IsSearched rows node phase f r spots' tree'
  pub grown : Grown spots tree spots' tree'
  pub none : NoneTakes node phase r tree → NoneTakes node phase r tree'
  pub here : 0 < supply_of phase (mark_at node i) (price_at r i) → seen spots' i ≡ true

-- The search came to a product that takes something, or shut all rows.
pub record Ended (rows : List Row) (node : List Mark) (phase : Phase) (f : List ℕ) (r : List ℤ) (spots : List Spot) (tree : List Entry) (spots' : List Spot) (tree' : List Entry) (found : Option ℕ) : Type 0 where
  pub searched : IsSearched rows node phase f r spots' tree'
  pub grown : Grown spots tree spots' tree'
  pub roots : (i : ℕ) → i < length spots → 0 < supply_of phase (mark_at node i) (price_at r i) → seen spots' i ≡ true
  pub told : IsFound node phase r tree' found
  pub shut : found ≡ None → (k : ℕ) → k < length rows → ShutAt rows f (seen spots') k

-- What becomes of a spot when the tree is kept for good, and when it is forgotten.
abbrev pub kept_of : Spot → Spot
kept_of Free = Free
kept_of Kept = Kept
kept_of (At p) = Kept

abbrev pub forgotten_of : Spot → Spot
forgotten_of Free = Free
forgotten_of Kept = Kept
forgotten_of (At p) = Free

-- What is left to do on the way to a certified set, and what each phase comes to.
use Rattle.std.specs.Prelude.{◌≡◌, ◌≢◌, ℕ, ◌+◌, ◌^◌, ◌<◌, ◌≤◌, Bool, false, List, [], length, slice_index, pos, ◌+ℤ◌, ◌≤ℤ◌, MatchBool}
use Rattle.std.specs.Int.RustNames.{unsigned_abs}
use lib.IntN.{ℤ}
use Rattle.offer_model.specs.declared.node.Mark.{Mark}
use Rattle.offer_model.specs.declared.node.Mark.TheVariants.{In, Out, Open}
use Rattle.offer_model.specs.declared.ranges.TheConstants.{MOST_PRODUCTS}
use Rattle.offer_model.specs.Assortments.{sum_below}
use Rattle.offer_model.specs.Nodes.{mark_at}
use Rattle.linear_step.specs.Weights.{price_bound, constant_bound}
use Rattle.cut_step.specs.declared.rows.Row.{Row}
use Rattle.cut_step.specs.declared.reach.Entry.{Entry}
use Rattle.cut_step.specs.declared.reach.Spot.{Spot}
use Rattle.cut_step.specs.declared.reach.Spot.TheVariants.{Kept, At}
use Rattle.cut_step.specs.Closures.{first_of, second_of, price_at, HasNoClosure}
use Rattle.cut_step.specs.Flows.{IsBalanced, IsCertified, bound}
use Rattle.cut_step.specs.Trees.{Unused, entry_at, product_of, before}
use Rattle.cut_step.specs.Searches.{spot_at, seen}

-- How far the excess of an Open product is from 0.
abbrev pub imbalance : Mark → ℤ → ℕ
imbalance In z = 0
imbalance Out z = 0
imbalance Open z = unsigned_abs z

-- How far all Open products together are from 0.
abbrev pub imbalance_of : List Mark → ℕ → List ℤ → ℕ
imbalance_of node n r = sum_below n (λ i. imbalance (mark_at node i) (price_at r i))

-- Prices as few and as small as those of a problem at a revenue are.
pub record AreSmall (prices : List ℤ) : Type 0 where
  pub few : length prices ≤ MOST_PRODUCTS
  pub each : (i : ℕ) → unsigned_abs (price_at prices i) < price_bound

-- Amounts f, and excesses r over the prices w. An amount can grow only as the imbalance falls, so each stays a number of
-- a certificate's line, and no sum leaves its range.
pub record IsFlowing (rows : List Row) (node : List Mark) (w : List ℤ) (r : List ℤ) (f : List ℕ) : Type 0 where
  pub balanced : IsBalanced rows w r f
  pub rows_each : length f ≡ length rows
  pub excess_each : length r ≡ length w
  pub amount : (k : ℕ) → slice_index f k + imbalance_of node (length w) r ≤ 2 ^ 108
  pub low : (i : ℕ) → pos (imbalance_of node (length w) r) ≤ℤ (price_at r i +ℤ pos (2 ^ 109))
  pub high : (i : ℕ) → (price_at r i +ℤ pos (imbalance_of node (length w) r)) ≤ℤ pos (2 ^ 109)

-- What is kept for good: all that In needs, nothing Out, and no Open product with a deficit. No row and no amount
-- leads out of it.
pub record IsKeeping (rows : List Row) (node : List Mark) (r : List ℤ) (f : List ℕ) (spots : List Spot) : Type 0 where
  pub in_kept : (i : ℕ) → i < length spots → mark_at node i ≡ In → spot_at spots i ≡ Kept
  pub out_not : (i : ℕ) → spot_at spots i ≡ Kept → mark_at node i ≢ Out
  pub open_has : (i : ℕ) → spot_at spots i ≡ Kept → mark_at node i ≡ Open → pos 0 ≤ℤ price_at r i
  pub on : (k : ℕ) → k < length rows → spot_at spots (first_of rows k) ≡ Kept → spot_at spots (second_of rows k) ≡ Kept
  pub back : (k : ℕ) → k < length rows → 0 < slice_index f k → spot_at spots (second_of rows k) ≡ Kept → spot_at spots (first_of rows k) ≡ Kept
  pub none : (i p : ℕ) → spot_at spots i ≡ At p → ⊥

-- What each step of the second phase keeps.
pub record IsUnderway (rows : List Row) (node : List Mark) (w r : List ℤ) (f : List ℕ) (spots : List Spot) : Type 0 where
  pub flowing : IsFlowing rows node w r f
  pub keeping : IsKeeping rows node r f spots

-- The same, between two searches.
pub record IsBegun (rows : List Row) (node : List Mark) (w r : List ℤ) (f : List ℕ) (spots : List Spot) (tree : List Entry) : Type 0 where
  pub underway : IsUnderway rows node w r f spots
  pub empty : tree ≡ []
  pub each : length spots ≡ length w

-- An amount went from the root of a tree to an entry of it: the imbalance is less, and nothing else changes.
pub record Augmented (rows : List Row) (node : List Mark) (w r : List ℤ) (f : List ℕ) (tree : List Entry) (r' : List ℤ) (f' : List ℕ) : Type 0 where
  pub flowing : IsFlowing rows node w r' f'
  pub less : imbalance_of node (length w) r' < imbalance_of node (length w) r
  pub unused : (k : ℕ) → Unused tree k → slice_index f' k ≡ slice_index f k
  pub others : (i : ℕ) → ((j : ℕ) → j < length tree → product_of tree j ≢ i) → price_at r' i ≡ price_at r i

-- The amounts d that product s can give and product t can take, so that the imbalance falls by d.
pub data Falls (node : List Mark) (r : List ℤ) (s t d : ℕ) : Type 0 where
  from_in : mark_at node s ≡ In → mark_at node t ≡ Open → (price_at r t +ℤ pos d) ≤ℤ pos 0 → Falls node r s t d
  from_open : mark_at node s ≡ Open → pos d ≤ℤ price_at r s → mark_at node t ≡ Open → (price_at r t +ℤ pos d) ≤ℤ pos 0 → Falls node r s t d
  to_out : mark_at node s ≡ Open → pos d ≤ℤ price_at r s → mark_at node t ≡ Out → Falls node r s t d

-- No entry of the tree was reached back over its row.
abbrev pub NoneBack : List Entry → Type 0
NoneBack tree = (j : ℕ) → j < length tree → before tree j < j → (entry_at tree j).back ≡ false

-- The deficit of an Open product was covered from what is In.
pub record Covered (rows : List Row) (node : List Mark) (r : List ℤ) (f : List ℕ) (tree : List Entry) (place : ℕ) (r' : List ℤ) (f' : List ℕ) : Type 0 where
  pub flowing : (w : List ℤ) → IsFlowing rows node w r f → IsFlowing rows node w r' f'
  pub here : mark_at node (product_of tree place) ≡ Open → pos 0 ≤ℤ price_at r' (product_of tree place)
  pub has : (i : ℕ) → mark_at node i ≡ Open → pos 0 ≤ℤ price_at r i → pos 0 ≤ℤ price_at r' i
  pub unused : (k : ℕ) → Unused tree k → slice_index f' k ≡ slice_index f k

-- No closed set agrees with the node, and the bound at the excesses shows it, whatever the constant.
pub record IsImpossible (rows : List Row) (node : List Mark) (w r : List ℤ) (f : List ℕ) : Type 0 where
  pub none : HasNoClosure rows node
  pub balanced : IsBalanced rows w r f
  pub below : (bound node (length w) (price_at r) +ℤ pos constant_bound) ≤ℤ pos 0
  pub amount : (k : ℕ) → slice_index f k ≤ 2 ^ 108
  pub rows_each : length f ≡ length rows

-- Amounts within their bound, and what is seen is certified by them.
pub record IsSolved (rows : List Row) (node : List Mark) (w r : List ℤ) (f : List ℕ) (spots : List Spot) : Type 0 where
  pub certified : IsCertified rows node w r f (seen spots)
  pub amount : (k : ℕ) → slice_index f k ≤ 2 ^ 108
  pub rows_each : length f ≡ length rows
  pub spots_each : length spots ≡ length w

-- What both phases come to.
abbrev pub IsDone : List Row → List Mark → List ℤ → List ℤ → List ℕ → List Spot → Bool → Type 0
IsDone rows node w r f spots possible = MatchBool possible (IsSolved rows node w r f spots) (IsImpossible rows node w r f)

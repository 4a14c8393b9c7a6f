-- What holds before any amount was carried.
use Rattle.std.proofs.Common.{◌≡◌, ℕ, Bool, true, false, cond, List, [], length, refl, arith, suc, zero, ◌<◌, ◌≤◌, ◌+◌, ◌*◌, ◌^◌, inl, inr, ap, ◌∙◌}
use Rattle.std.specs.Prelude.{pos, negsuc, ◌-ℤ◌, ◌≤ℤ◌, slice_index, ◌⊎◌}
use Rattle.std.specs.Int.RustNames.{unsigned_abs}
use Rattle.std.proofs.lemmas.Int.{ints}
use lib.IntN.{ℤ}
use Rattle.offer_model.specs.declared.node.Mark.{Mark}
use Rattle.offer_model.specs.declared.node.Mark.TheVariants.{In, Out, Open}
use Rattle.offer_model.specs.Nodes.{mark_at}
use Rattle.offer_model.proofs.SumLemmas.{int_sum_below-zeros}
use Rattle.cut_step.specs.declared.rows.Row.{Row}
use Rattle.cut_step.specs.declared.phase.Phase.{Phase}
use Rattle.cut_step.specs.declared.phase.Phase.TheVariants.{Forced, Funded}
use Rattle.cut_step.specs.declared.reach.Entry.{Entry}
use Rattle.cut_step.specs.declared.reach.Spot.{Spot}
use Rattle.cut_step.specs.declared.reach.Spot.TheVariants.{Free, Kept, At}
use Rattle.cut_step.specs.Closures.{first_of, second_of, price_at}
use Rattle.cut_step.specs.Flows.{moved, source_of, target_of}
use Rattle.cut_step.specs.Trees.{entry_at, before, over}
use Rattle.cut_step.specs.Searches.{spot_at, seen, unseen, supply_of, IsSearched}
use Rattle.cut_step.specs.Phases.{imbalance, imbalance_of, AreSmall, IsFlowing}
use Rattle.cut_step.proofs.FallLemmas.{abs_bounds}
use Rattle.cut_step.proofs.TotalLemmas.{sum_small}

-- What gives in the second phase is Open, and gives no more than its excess.
pub supply_open : (m : Mark) (z : ℤ) → 0 < supply_of Funded m z → (m ≡ Open) × (pos (supply_of Funded m z) ≤ℤ z)
supply_open Open (pos n) h = (refl, omega (arith, ints))
supply_open Open (negsuc n) h = absurd (omega arith)
supply_open In z h = absurd (omega arith)
supply_open Out z h = absurd (omega arith)

-- What gives in the first phase is In.
pub supply_in : (m : Mark) (z : ℤ) → 0 < supply_of Forced m z → m ≡ In
supply_in In z h = refl
supply_in Out z h = absurd (omega arith)
supply_in Open z h = absurd (omega arith)

-- What is In gives in the first phase.
pub supply_from_in : (m : Mark) (z : ℤ) → m ≡ In → 0 < supply_of Forced m z
supply_from_in m z e = rw e (omega arith)

-- A spot is free, kept, or a place of the tree.
pub spot_cases : (s : Spot) → (s ≡ Free) ⊎ (s ≡ Kept) ⊎ ((p : ℕ) × (s ≡ At p))
spot_cases Free = inl refl
spot_cases Kept = inr (inl refl)
spot_cases (At p) = inr (inr (p, refl))

-- Both ends of an entry's row have been seen.
pub used_ends : (rows : List Row) (node : List Mark) (phase : Phase) (f : List ℕ) (r : List ℤ) (spots : List Spot) (tree : List Entry) (j : ℕ)
    → IsSearched rows node phase f r spots tree → j < length tree → before tree j < j
    → ((p : ℕ) × (spot_at spots (first_of rows (over tree j)) ≡ At p)) × ((p : ℕ) × (spot_at spots (second_of rows (over tree j)) ≡ At p))
used_ends rows node phase f r spots tree j s l b =
    let step = s.well.step j l b in
    let a : spot_at spots (source_of rows (over tree j) (entry_at tree j).back) ≡ At (before tree j) = ap (spot_at spots) step.source ∙ s.placed (before tree j) (omega arith) in
    let z : spot_at spots (target_of rows (over tree j) (entry_at tree j).back) ≡ At j = ap (spot_at spots) step.target ∙ s.placed j l in
    both (entry_at tree j).back (first_of rows (over tree j)) (second_of rows (over tree j)) a z
  where
    both : (b : Bool) (x y : ℕ) → spot_at spots (cond b y x) ≡ At (before tree j) → spot_at spots (cond b x y) ≡ At j → ((p : ℕ) × (spot_at spots x ≡ At p)) × ((p : ℕ) × (spot_at spots y ≡ At p))
    both true x y a z = ((j, z), (before tree j, a))
    both false x y a z = ((before tree j, a), (j, z))

-- A product's imbalance is at most the size of its excess.
pub imbalance_le : (m : Mark) (z : ℤ) → imbalance m z ≤ unsigned_abs z
imbalance_le In z = omega arith
imbalance_le Out z = omega arith
imbalance_le Open z = omega arith

-- So many products as a problem may have bring at most as many times as much.
pub few_times : (n b : ℕ) → n ≤ 256 → n * b ≤ 256 * b
few_times n b h = grind arith

all_small : (node : List Mark) (w : List ℤ) → AreSmall w → imbalance_of node (length w) w ≤ 2 ^ 106
all_small node w s =
    let sum = sum_small (length w) (2 ^ 98) (λ i. imbalance (mark_at node i) (price_at w i))
    (λ i l. let a = imbalance_le (mark_at node i) (price_at w i) in let b = s.each i in omega (arith, a, b)) in
    let few = few_times (length w) (2 ^ 98) s.few in
    omega (arith, sum, few)

none_moved : (rows : List Row) (f : List ℕ) (y : ℕ → Bool) → ((k : ℕ) → slice_index f k ≡ 0) → moved (length rows) (first_of rows) (second_of rows) (slice_index f) y ≡ pos 0
none_moved rows f y z = int_sum_below-zeros (length rows) (λ k. cond (y (second_of rows k)) (pos (slice_index f k)) (pos 0) -ℤ cond (y (first_of rows k)) (pos (slice_index f k)) (pos 0))
    (λ k l. at_zero (y (second_of rows k)) (y (first_of rows k)) (slice_index f k) (z k))
  where
    at_zero : (a b : Bool) (n : ℕ) → n ≡ 0 → (cond a (pos n) (pos 0) -ℤ cond b (pos n) (pos 0)) ≡ pos 0
    at_zero true true n e = omega (arith, ints)
    at_zero true false n e = omega (arith, ints)
    at_zero false true n e = omega (arith, ints)
    at_zero false false n e = omega (arith, ints)

-- Without amounts the prices are whole, and the bounds hold.
pub flowing_start : (rows : List Row) (node : List Mark) (w : List ℤ) (f : List ℕ) → AreSmall w → length f ≡ length rows → ((k : ℕ) → slice_index f k ≡ 0) → IsFlowing rows node w w f
flowing_start rows node w f s e z =
    let most = all_small node w s in
    record {
      balanced = record { is = λ y. let n = none_moved rows f y z in omega (arith, ints, n) };
      rows_each = e;
      excess_each = refl;
      amount = λ k. let a = z k in omega (arith, a, most);
      low = λ i. let b = abs_bounds (price_at w i) in let l = s.each i in omega (arith, ints, b.1, l, most);
      high = λ i. let b = abs_bounds (price_at w i) in let l = s.each i in omega (arith, ints, b.0, l, most);
    }

unseen_le : (n : ℕ) (spots : List Spot) → unseen n spots ≤ n
unseen_le zero spots = omega arith
unseen_le (suc n) spots =
    let before = unseen_le n spots in
    elim (seen spots n) as (λ v. unseen n spots + cond v 0 1 ≤ suc n) [ true ↦ omega (arith, before) | false ↦ omega (arith, before) ]

-- An empty tree begins a search.
pub searched_start : (rows : List Row) (node : List Mark) (phase : Phase) (f : List ℕ) (r : List ℤ) (spots : List Spot) (tree : List Entry) → tree ≡ []
    → ((i p : ℕ) → spot_at spots i ≡ At p → ⊥)
    → ((k : ℕ) → k < length rows → spot_at spots (first_of rows k) ≡ Kept → spot_at spots (second_of rows k) ≡ Kept)
    → ((k : ℕ) → k < length rows → 0 < slice_index f k → spot_at spots (second_of rows k) ≡ Kept → spot_at spots (first_of rows k) ≡ Kept)
    → IsSearched rows node phase f r spots tree
searched_start rows node phase f r spots tree e none on back =
    let zero_long : length tree ≡ 0 = ap length e in
    record {
      well = record { below = λ j l. absurd (omega arith); named = λ j l. absurd (omega arith); step = λ j l b. absurd (omega arith); apart = λ i j l m b c. absurd (omega arith) };
      placed = λ j l. absurd (omega arith);
      there = λ i p h. absurd (none i p h);
      fewer = let most = unseen_le (length spots) spots in omega (arith, most, zero_long);
      root = λ j l b. absurd (omega arith);
      some = λ j l. absurd (omega arith);
      kept_on = on;
      kept_back = back;
    }

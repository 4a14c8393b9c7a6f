-- A table that fits its problem, and a choice that is read off it.
use Rattle.std.proofs.Common.{◌≡◌, ◌≢◌, ℕ, suc, ◌+◌, ◌-◌, ◌<◌, ◌≤◌, Bool, true, false, cond, List, [], ◌∷◌, length, get_or, set, take, ◌++◌, refl, sym, ap, arith, subst, inl, inr, ◌∙◌, add-one}
use Rattle.std.specs.Prelude.{pos, ◌+ℤ◌, ◌≤ℤ◌, ◌<ℤ◌, ◌⊎◌}
use Rattle.std.proofs.lemmas.Int.{ints}
use Rattle.std.proofs.lemmas.List.{get_or-set_other, get_or_read, length-set}
use Rattle.std.proofs.Math.Seq.{take-append_seam}
use lib.Signed.{lt_z}
use Rattle.std.proofs.lemmas.Bool.{cases_eq}
use lib.IntN.{ℤ}
use Rattle.offer_model.specs.declared.node.Mark.{Mark}
use Rattle.offer_model.specs.declared.node.Mark.TheVariants.{In, Out, Open}
use Rattle.offer_model.specs.declared.products.Limit.TheVariants.{Shelf}
use Rattle.offer_model.specs.Assortments.{offers, sum_below}
use Rattle.offer_model.specs.Problems.{ProblemData, product_count}
use Rattle.offer_model.specs.Revenue.{sum_offered}
use Rattle.offer_model.specs.Nodes.{mark_at, is_in, fill_of, Agrees}
use Rattle.offer_model.proofs.NodeLemmas.{offers-fill_of}
use Rattle.offer_model.proofs.SumLemmas.{sum_below-set}
use Rattle.shelf_table.specs.Tables.{TableData, IsTableOf, cell_at, space_of, price_in, best_from, free_prices}
use Rattle.shelf_table.specs.Rooms.{AreSpaces}
use Rattle.shelf_table.proofs.RoomLemmas.{spaces_same}
use Rattle.shelf_table.proofs.CallerLemmas.{best_from-same, best_from-more, best_from-leave, best_from-take, best_from-choice, rest_from}
use Rattle.table_steps.proofs.SumLemmas.{worth_more}
use Rattle.table_steps.specs.ShelfFits.{FitsShelf}
use Rattle.table_steps.specs.ShelfReading.{best_sum, IsRead}

-- ---- A table that fits.

-- What fits, of its parts.
pub FitsShelf-from_parts : (p : ProblemData) (shelf : ℕ) (spaces : List ℕ) (prices : List ℤ) (t : TableData) → p.limits ≡ Shelf shelf ∷ [] → AreSpaces p spaces
    → length prices ≡ product_count p → t.products ≡ product_count p → t.space ≡ shelf → IsTableOf t (space_of p) (price_in prices)
    → FitsShelf p shelf spaces prices t
FitsShelf-from_parts p shelf spaces prices t one s each products room table = record {
  limit = one;
  same_spaces = s;
  each = each;
  products = products;
  room = room;
  table = subst (λ f. IsTableOf t f (price_in prices)) (sym (spaces_same p spaces s)) table;
}

-- The table of a step that fits is one of the problem's spaces.
pub fits_table : (p : ProblemData) (shelf : ℕ) (spaces : List ℕ) (prices : List ℤ) (t : TableData) → FitsShelf p shelf spaces prices t
    → IsTableOf t (space_of p) (price_in prices)
fits_table p shelf spaces prices t f = subst (λ g. IsTableOf t g (price_in prices)) (spaces_same p spaces f.same_spaces) f.table

-- A cell of a table that serves the node from a product on.
pub cell_is : (p : ProblemData) (shelf : ℕ) (spaces : List ℕ) (prices : List ℤ) (t : TableData) (node : List Mark) (price : ℕ → ℤ) (start : ℕ)
    → FitsShelf p shelf spaces prices t → ((i : ℕ) → start ≤ i → i < product_count p → price_in prices i ≡ free_prices node price i)
    → (k room : ℕ) → start ≤ k → k ≤ product_count p → room ≤ shelf
    → cell_at t k room ≡ best_from (space_of p) (free_prices node price) (product_count p) k room
cell_is p shelf spaces prices t node price start f free k room s l r =
    let a = f.products in
    let b = f.room in
    fits_table p shelf spaces prices t f k room (omega arith) (omega arith)
    ∙ ap (λ n. best_from (space_of p) (price_in prices) n k room) a
    ∙ best_from-same (space_of p) (price_in prices) (free_prices node price) (product_count p) k room l (λ i h j. free i (omega arith) j)

-- ---- A choice that is read off.

-- A product that isn't Open is never read.
taken_open : (space : ℕ → ℕ) (n : ℕ) (node : List Mark) (price : ℕ → ℤ) (k room : ℕ) → k < n → space k ≤ room
    → best_from space (free_prices node price) n (suc k) room <ℤ best_from space (free_prices node price) n k room
    → best_from space (free_prices node price) n k room ≤ℤ (free_prices node price k +ℤ best_from space (free_prices node price) n (suc k) (room - space k))
    → mark_at node k ≡ Open
taken_open space n node price k room l fits more most = by_mark (mark_at node k) refl
  where
    no_gain : free_prices node price k ≡ pos 0 → ⊥
    no_gain e =
        let a = best_from-more space (free_prices node price) n (suc k) (room - space k) room (omega arith) in
        omega (arith, ints)

    by_mark : (m : Mark) → mark_at node k ≡ m → mark_at node k ≡ Open
    by_mark Open e = e
    by_mark In e = absurd (no_gain (rw e refl))
    by_mark Out e = absurd (no_gain (rw e refl))

-- Where a product makes the cell greater, it fits, and the cell is its price and the rest.
pub gain_fits : (space : ℕ → ℕ) (n : ℕ) (price : ℕ → ℤ) (k room : ℕ) → k < n
    → best_from space price n (suc k) room <ℤ best_from space price n k room
    → (space k ≤ room) × (best_from space price n k room ≤ℤ (price k +ℤ best_from space price n (suc k) (room - space k)))
gain_fits space n price k room l more = by_choice (best_from-choice space price n k room l)
  where
    by_choice : ((best_from space price n k room ≤ℤ best_from space price n (suc k) room)
        ⊎ ((space k ≤ room) × (best_from space price n k room ≤ℤ (price k +ℤ best_from space price n (suc k) (room - space k)))))
        → (space k ≤ room) × (best_from space price n k room ≤ℤ (price k +ℤ best_from space price n (suc k) (room - space k)))
    by_choice (inl h) = absurd (omega (arith, ints))
    by_choice (inr h) = h

-- What is In has been read before the first product.
pub read_start : (space : ℕ → ℕ) (n : ℕ) (node : List Mark) (price : ℕ → ℤ) (shelf room : ℕ) → length (fill_of node) ≡ n
    → sum_below n (λ i. cond (offers (fill_of node) i) (space i) 0) + room ≡ shelf
    → IsRead space n node price shelf (best_sum space n node price room) 0 (fill_of node) room
read_start space n node price shelf room long fits = record {
  each = long;
  agrees = λ i l. agrees (mark_at node i) (offers (fill_of node) i) (offers-fill_of node i);
  ahead = λ i l h. offers-fill_of node i;
  fits = fits;
  sum = refl;
}
  where
    agrees : (m : Mark) (b : Bool) → b ≡ is_in m → Agrees m b
    agrees In b e = e
    agrees Out b e = e
    agrees Open b e = tt

-- The products that are settled, before product k, need no reading.
pub read_settled : (p : ProblemData) (node : List Mark) (price : ℕ → ℤ) (shelf room k : ℕ) → length (fill_of node) ≡ product_count p
    → sum_offered p (fill_of node) (space_of p) + room ≡ shelf → k ≤ product_count p → ((i : ℕ) → i < k → mark_at node i ≢ Open)
    → IsRead (space_of p) (product_count p) node price shelf (best_sum (space_of p) (product_count p) node price room) k (fill_of node) room
read_settled p node price shelf room k long fits l settled =
    let r = read_start (space_of p) (product_count p) node price shelf room long fits in
    record {
      each = r.each;
      agrees = r.agrees;
      ahead = λ i h j. r.ahead i (omega arith) j;
      fits = r.fits;
      sum = rw (← rest_from p node price k room l settled) refl;
    }

-- Where leaving the product out gives as much, it is left out.
pub read_leave : (space : ℕ → ℕ) (n : ℕ) (node : List Mark) (price : ℕ → ℤ) (shelf : ℕ) (z : ℤ) (k : ℕ) (x : List Bool) (room : ℕ) → k < n
    → best_from space (free_prices node price) n k room ≤ℤ best_from space (free_prices node price) n (suc k) room
    → IsRead space n node price shelf z k x room → IsRead space n node price shelf z (suc k) x room
read_leave space n node price shelf z k x room l same r = record {
  each = r.each;
  agrees = r.agrees;
  ahead = λ i h. r.ahead i (omega arith);
  fits = r.fits;
  sum =
      let a = best_from-leave space (free_prices node price) n k room l in
      let s = r.sum in
      omega (arith, ints);
}

-- Where offering it gives more, it is offered.
pub read_take : (space : ℕ → ℕ) (n : ℕ) (node : List Mark) (price : ℕ → ℤ) (shelf : ℕ) (z : ℤ) (k : ℕ) (x : List Bool) (room : ℕ) → k < n
    → best_from space (free_prices node price) n (suc k) room <ℤ best_from space (free_prices node price) n k room
    → IsRead space n node price shelf z k x room → IsRead space n node price shelf z (suc k) (set x k true) (room - space k)
read_take space n node price shelf z k x room l more r =
    with_gain (gain_fits space n (free_prices node price) k room l more)
  where
    by_place : (i : ℕ) → i < n → k < length x → mark_at node k ≡ Open → ((i ≡ k) ⊎ (i ≢ k)) → Agrees (mark_at node i) (offers (set x k true) i)
    by_place i h inside is_open (inl e) = rw (e, is_open) tt
    by_place i h inside is_open (inr ne) = rw (get_or-set_other x k i true false ne) (r.agrees i h)

    with_gain : (space k ≤ room) × (best_from space (free_prices node price) n k room ≤ℤ (free_prices node price k +ℤ best_from space (free_prices node price) n (suc k) (room - space k)))
        → IsRead space n node price shelf z (suc k) (set x k true) (room - space k)
    with_gain g =
        let fits = g.0 in
        let is_open = taken_open space n node price k room l fits more g.1 in
        let long = r.each in
        let inside : k < length x = omega arith in
        let out : offers x k ≡ false = r.ahead k (omega arith) l ∙ rw is_open refl in
        record {
          each = length-set x k true ∙ r.each;
          agrees = λ i h. by_place i h inside is_open (cases_eq i k);
          ahead = λ i h j. let ne : i ≢ k = omega arith in get_or-set_other x k i true false ne ∙ r.ahead i (omega arith) j;
          fits = let s = sum_below-set n x k space l inside out in let f = r.fits in omega arith;
          sum =
              let s = worth_more n x k price l inside out in
              let free : free_prices node price k ≡ price k = rw is_open refl in
              let a = best_from-take space (free_prices node price) n k room l fits in
              let b = g.1 in
              let t = r.sum in
              omega (arith, ints);
        }

-- ---- The same, by two cells and their test.

room_inside : (space : ℕ → ℕ) (n : ℕ) (node : List Mark) (price : ℕ → ℤ) (shelf : ℕ) (z : ℤ) (k : ℕ) (x : List Bool) (room : ℕ)
    → IsRead space n node price shelf z k x room → room ≤ shelf
room_inside space n node price shelf z k x room r = let f = r.fits in omega arith

-- The cells of the product and the next one are a and b.
pub record HasCells (p : ProblemData) (node : List Mark) (price : ℕ → ℤ) (k room : ℕ) (a b : ℤ) : Type 0 where
  pub here : best_from (space_of p) (free_prices node price) (product_count p) k room ≡ a
  pub next : best_from (space_of p) (free_prices node price) (product_count p) (suc k) room ≡ b

-- The two cells that a reading compares.
pub cells_are : (p : ProblemData) (shelf : ℕ) (spaces : List ℕ) (prices : List ℤ) (t : TableData) (node : List Mark) (price : ℕ → ℤ) (start : ℕ) (z : ℤ)
    (k : ℕ) (x : List Bool) (room : ℕ) (a b : ℤ) → FitsShelf p shelf spaces prices t
    → ((i : ℕ) → start ≤ i → i < product_count p → price_in prices i ≡ free_prices node price i) → start ≤ k → k < product_count p
    → IsRead (space_of p) (product_count p) node price shelf z k x room → a ≡ cell_at t k room → b ≡ cell_at t (k + 1) room
    → HasCells p node price k room a b
cells_are p shelf spaces prices t node price start z k x room a b f free s l r ea eb =
    let inside = room_inside (space_of p) (product_count p) node price shelf z k x room r in
    let next : b ≡ cell_at t (suc k) room = rw (← add-one) eb in
    record {
      here = sym (ea ∙ cell_is p shelf spaces prices t node price start f free k room s (omega arith) inside);
      next = sym (next ∙ cell_is p shelf spaces prices t node price start f free (suc k) room (omega arith) (omega arith) inside);
    }

less_true : (a b : ℤ) → lt_z b a ≡ true → b <ℤ a
less_true a b e = grind (arith, ints)

less_false : (a b : ℤ) → lt_z b a ≡ false → a ≤ℤ b
less_false a b e = grind (arith, ints)

-- A product that the cells ask for fits the room.
pub fits_step : (p : ProblemData) (node : List Mark) (price : ℕ → ℤ) (k room : ℕ) (a b : ℤ) → k < product_count p → HasCells p node price k room a b
    → lt_z b a ≡ true → space_of p k ≤ room
fits_step p node price k room a b l h e =
    let here = h.here in
    let next = h.next in
    let more = less_true a b e in
    (gain_fits (space_of p) (product_count p) (free_prices node price) k room l (omega (arith, ints))).0

-- The reading goes on with a product.
pub take_step : (p : ProblemData) (node : List Mark) (price : ℕ → ℤ) (shelf : ℕ) (z : ℤ) (k : ℕ) (x : List Bool) (room : ℕ) (a b : ℤ) → k < product_count p
    → HasCells p node price k room a b → lt_z b a ≡ true → IsRead (space_of p) (product_count p) node price shelf z k x room
    → IsRead (space_of p) (product_count p) node price shelf z (k + 1) (set x k true) (room - space_of p k)
take_step p node price shelf z k x room a b l h e r =
    let here = h.here in
    let next = h.next in
    let more = less_true a b e in
    rw add-one (read_take (space_of p) (product_count p) node price shelf z k x room l (omega (arith, ints)) r)

-- The reading goes on without a product.
pub leave_step : (p : ProblemData) (node : List Mark) (price : ℕ → ℤ) (shelf : ℕ) (z : ℤ) (k : ℕ) (x : List Bool) (room : ℕ) (a b : ℤ) → k < product_count p
    → HasCells p node price k room a b → lt_z b a ≡ false → IsRead (space_of p) (product_count p) node price shelf z k x room
    → IsRead (space_of p) (product_count p) node price shelf z (k + 1) x room
leave_step p node price shelf z k x room a b l h e r =
    let here = h.here in
    let next = h.next in
    let less = less_false a b e in
    rw add-one (read_leave (space_of p) (product_count p) node price shelf z k x room l (omega (arith, ints)) r)

-- ---- Lists of the code.

-- The front as long as a list is the list.
pub take_whole : (n : ℕ) (xs ys : List ℤ) → length xs ≡ n → take n (xs ++ ys) ≡ xs
take_whole n xs ys e = rw (← e) (take-append_seam xs ys)

-- The space that is read is the product's.
pub space_read : (p : ProblemData) (spaces : List ℕ) (k w : ℕ) → AreSpaces p spaces → k < product_count p → w ≡ get_or spaces k w → w ≡ space_of p k
space_read p spaces k w s l e = let each = s.each in get_or_read spaces k w (omega arith) e 0 ∙ s.is k l

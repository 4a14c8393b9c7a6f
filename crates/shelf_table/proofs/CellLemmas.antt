-- Cells of a table, and sums of prices.
use Rattle.std.proofs.Common.{◌≡◌, ◌≢◌, ℕ, zero, suc, ◌+◌, ◌-◌, ◌*◌, ◌^◌, ◌<◌, ◌≤◌, Bool, true, false, List, length, set, refl, sym, ap, arith, subst, inl, inr, ◌∙◌, below_more}
use Rattle.std.specs.Prelude.{pos, negsuc, ◌+ℤ◌, ◌≤ℤ◌, nat_le, ◌⊎◌}
use Rattle.std.proofs.Math.Nat.{mul-le-mul_right}
use Rattle.std.proofs.lemmas.Bool.{cases_eq}
use Rattle.std.proofs.lemmas.List.{get_or-set_same, get_or-set_other}
use Rattle.std.proofs.lemmas.Int.{ints, clamps}
use lib.IntN.{ℤ}
use mir.Val.{SFits}
use mir.Syntax.{w128}
use Rattle.shelf_table.specs.Tables.{price_in, better_of, best_of, best_from, IsSmallPrice, IsSum}

-- ---- What the recursion gives.

-- The better of both is at least the sum without the product.
pub better_without : (fits : Bool) (a b : ℤ) → a ≤ℤ better_of fits a b
better_without true a b = omega (arith, ints, clamps)
better_without false a b = omega (arith, ints, clamps)

-- m prices come to less than m * 2 ^ 98.
pub best_of-bounds : (space : ℕ → ℕ) (price : ℕ → ℤ) (n m k room : ℕ) → m + k ≡ n → ((i : ℕ) → i < n → IsSmallPrice (price i))
    → (pos 0 ≤ℤ best_of space price m k room) × (best_of space price m k room ≤ℤ pos (m * 2 ^ 98))
best_of-bounds space price n zero k room e small = (omega (arith, ints), omega (arith, ints))
best_of-bounds space price n (suc m) k room e small =
    let a = best_of-bounds space price n m (suc k) room (omega arith) small in
    let b = best_of-bounds space price n m (suc k) (room - space k) (omega arith) small in
    let s = small k (omega arith) in
    bounded (nat_le (space k) room) (best_of space price m (suc k) room) (best_of space price m (suc k) (room - space k)) (price k) m a.0 a.1 b.1 s
  where
    bounded : (fits : Bool) (x y z : ℤ) (m : ℕ) → pos 0 ≤ℤ x → x ≤ℤ pos (m * 2 ^ 98) → y ≤ℤ pos (m * 2 ^ 98) → IsSmallPrice z
        → (pos 0 ≤ℤ better_of fits x (z +ℤ y)) × (better_of fits x (z +ℤ y) ≤ℤ pos (suc m * 2 ^ 98))
    bounded true x y z m a b c s = (omega (arith, ints, clamps), omega (arith, ints, clamps))
    bounded false x y z m a b c s = (omega (arith, ints), omega (arith, ints))

-- ---- A row that is filled cell by cell.

-- One more cell of the row is made.
pub row_more : (old cells : List ℤ) (start width room space : ℕ) (price z : ℤ) → start + room < length cells → room < width
    → z ≡ better_of (nat_le space room) (price_in cells (start + width + room)) (price +ℤ price_in cells (start + width + (room - space)))
    → ((s : ℕ) → s < room → price_in cells (start + s) ≡ better_of (nat_le space s) (price_in old (start + width + s)) (price +ℤ price_in old (start + width + (s - space))))
    → ((j : ℕ) → start + width ≤ j → price_in cells j ≡ price_in old j)
    → (s : ℕ) → s < room + 1
    → price_in (set cells (start + room) z) (start + s) ≡ better_of (nat_le space s) (price_in old (start + width + s)) (price +ℤ price_in old (start + width + (s - space)))
row_more old cells start width room space price z inside below is row rest = below_more
    (λ s. price_in (set cells (start + room) z) (start + s) ≡ better_of (nat_le space s) (price_in old (start + width + s)) (price +ℤ price_in old (start + width + (s - space))))
    room (λ s l. get_or-set_other cells (start + room) (start + s) z (pos 0) (λ e. absurd (omega arith)) ∙ row s l)
    (get_or-set_same cells (start + room) z (pos 0) inside ∙ is ∙ rw (rest (start + width + room) (omega arith), rest (start + width + (room - space)) (omega arith)) refl)

-- A cell of the row leaves the rows behind it as they were.
pub rest_kept : (old cells : List ℤ) (start width room : ℕ) (z : ℤ) → room < width
    → ((j : ℕ) → start + width ≤ j → price_in cells j ≡ price_in old j)
    → (j : ℕ) → start + width ≤ j → price_in (set cells (start + room) z) j ≡ price_in old j
rest_kept old cells start width room z below rest j l = get_or-set_other cells (start + room) j z (pos 0) (λ e. absurd (omega arith)) ∙ rest j l

-- ---- Rows that are filled from the last.

-- A row is made before those that are made.
pub rows_more : (space : ℕ → ℕ) (price : ℕ → ℤ) (n width k : ℕ) (old cells : List ℤ) → k < n
    → ((s : ℕ) → s < width → price_in cells (k * width + s)
    ≡ better_of (nat_le (space k) s) (price_in old (k * width + width + s)) (price k +ℤ price_in old (k * width + width + (s - space k))))
    → ((j : ℕ) → k * width + width ≤ j → price_in cells j ≡ price_in old j)
    → ((j room : ℕ) → suc k ≤ j → j ≤ n → room < width → price_in old (j * width + room) ≡ best_from space price n j room)
    → (j room : ℕ) → k ≤ j → j ≤ n → room < width → price_in cells (j * width + room) ≡ best_from space price n j room
rows_more space price n width k old cells below row rest rows j room l h r = by_place (cases_eq k j)
  where
    next : (s : ℕ) → s < width → price_in old (k * width + width + s) ≡ best_of space price (n - suc k) (suc k) s
    next s b = ap (price_in old) (let e : k * width + width + s ≡ suc k * width + s = omega arith in e) ∙ rows (suc k) s (omega arith) (omega arith) b

    here : price_in cells (k * width + room) ≡ best_from space price n k room
    here =
        let e : n - k ≡ suc (n - suc k) = omega arith in
        row room r ∙ rw (next room r, next (room - space k) (omega arith), e) refl

    by_place : ((k ≡ j) ⊎ (k ≢ j)) → price_in cells (j * width + room) ≡ best_from space price n j room
    by_place (inl e) = subst (λ i. price_in cells (i * width + room) ≡ best_from space price n i room) e here
    by_place (inr ne) =
        let m : suc k * width ≤ j * width = mul-le-mul_right width (omega arith) in
        rest (j * width + room) (omega arith) ∙ rows j room (omega arith) h r

-- Of few products with small prices each cell is a sum.
pub sums_fit : (space : ℕ → ℕ) (price : ℕ → ℤ) (n width k : ℕ) (cells : List ℤ) → k < n → n ≤ 512 → ((i : ℕ) → i < n → IsSmallPrice (price i))
    → ((j room : ℕ) → suc k ≤ j → j ≤ n → room < width → price_in cells (j * width + room) ≡ best_from space price n j room)
    → (s : ℕ) → s < width → IsSum (price_in cells (k * width + width + s))
sums_fit space price n width k cells below few small rows s b =
    let e : suc k * width + s ≡ k * width + width + s = omega arith in
    let is : price_in cells (k * width + width + s) ≡ best_from space price n (suc k) s
    = subst (λ j. price_in cells j ≡ best_from space price n (suc k) s) e (rows (suc k) s (omega arith) (omega arith) b) in
    let h = best_of-bounds space price n (n - suc k) (suc k) s (omega arith) small in
    subst IsSum (sym is) (h.0, omega (arith, ints))

-- A small price fits 128 bits.
pub small_fits : (z : ℤ) → IsSmallPrice z → SFits w128 z
small_fits (pos n) h = record { sfits = omega (arith, ints) }
small_fits (negsuc n) h = record { sfits = omega (arith, ints) }

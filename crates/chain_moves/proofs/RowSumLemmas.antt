-- Sums over the moves of a row.
use Rattle.std.proofs.Common.{◌≡◌, ℕ, arith, ◌<◌, ◌≤◌, ◌*◌, ◌+◌, List, [], ◌∷◌, length, ◌^◌, drop, get_or, ap}
use Rattle.std.proofs.lemmas.List.{drop_more}
use Rattle.std.proofs.Math.Nat.{mul-le-mul_left}
use Rattle.std.specs.List.{All}
use Rattle.std.proofs.lemmas.List.Elements.{All-head, All-tail}
use Rattle.chain_moves.specs.declared.rows.Move.{Move}
use Rattle.chain_moves.specs.Rows.{sum_moves}

-- The first of the moves that are left stands alone.
pub sum_moves_more : (ms : List Move) (k : ℕ) (d : Move) (f : ℕ → ℕ) → k < length ms
    → sum_moves (drop k ms) f ≡ (get_or ms k d).parts * f (get_or ms k d).to + sum_moves (drop (k + 1) ms) f
sum_moves_more ms k d f l = ap (λ xs. sum_moves xs f) (drop_more ms k d l)

-- Where no value is above `most`, moves bring at most `most` times their parts.
pub moves_most : (ms : List Move) (n most : ℕ) (f : ℕ → ℕ) → All (λ m. m.to < n) ms → ((j : ℕ) → j < n → f j ≤ most)
    → sum_moves ms f ≤ most * sum_moves ms (λ j. 1)
moves_most [] n most f ends small = omega arith
moves_most (m ∷ ms) n most f ends small =
    let before = moves_most ms n most f (All-tail (λ m. m.to < n) m ms ends) small in
    let here : m.parts * f m.to ≤ m.parts * most = mul-le-mul_left m.parts (small m.to (All-head (λ m. m.to < n) m ms ends)) in
    omega arith

-- What was summed so far and one move more stay in range.
pub so_far : (ms : List Move) (n k sum : ℕ) (d : Move) (f : ℕ → ℕ) → All (λ m. m.to < n) ms → ((j : ℕ) → j < n → f j ≤ 10 ^ 15)
    → sum_moves ms (λ j. 1) < 10000 → sum + sum_moves (drop k ms) f ≡ sum_moves ms f → k < length ms
    → sum + (get_or ms k d).parts * f (get_or ms k d).to ≤ 9999 * 10 ^ 15
so_far ms n k sum d f ends small parts e l =
    let total = moves_most ms n (10 ^ 15) f ends small in
    let more = sum_moves_more ms k d f l in
    omega arith

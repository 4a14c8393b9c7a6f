-- The order of two assortments, by the first product where they differ.
use Rattle.std.proofs.Common.{◌≡◌, ◌≢◌, ℕ, zero, suc, ◌<◌, Bool, true, false, List, [], ◌∷◌, length, IsTrue, ◌↔◌, refl, arith}
use Rattle.offer_model.specs.Assortments.{offers, IsBefore}
use Rattle.offer_model.specs.declared.node.Mark.{Mark}
use Rattle.offer_model.specs.Nodes.{fill_of, ComesAfter}
use Rattle.offer_model.proofs.NodeLemmas.{length-fill_of}

-- Where two assortments are alike before a product and differ at it, the one is before the other exactly where it doesn't offer it.
differs_at : (x y : List Bool) (i : ℕ) → i < length x → length y ≡ length x → ((k : ℕ) → k < i → offers x k ≡ offers y k) → offers x i ≢ offers y i
    → IsTrue (offers x i) ↔ (IsBefore x y → ⊥)
differs_at [] y i l e same apart = absurd (omega arith)
differs_at (b ∷ x) [] i l e same apart = absurd (omega arith)
differs_at (true ∷ x) (true ∷ y) zero l e same apart = absurd (apart refl)
differs_at (false ∷ x) (false ∷ y) zero l e same apart = absurd (apart refl)
differs_at (true ∷ x) (false ∷ y) zero l e same apart = (λ t h. h, λ h. refl)
differs_at (false ∷ x) (true ∷ y) zero l e same apart = (λ t. cc, λ h. absurd (h tt))
differs_at (true ∷ x) (true ∷ y) (suc i) l e same apart = differs_at x y i (omega arith) (omega arith) (λ k m. same (suc k) (omega arith)) apart
differs_at (false ∷ x) (false ∷ y) (suc i) l e same apart = differs_at x y i (omega arith) (omega arith) (λ k m. same (suc k) (omega arith)) apart
differs_at (true ∷ x) (false ∷ y) (suc i) l e same apart = let s = same 0 (omega arith) in cc
differs_at (false ∷ x) (true ∷ y) (suc i) l e same apart = let s = same 0 (omega arith) in cc

-- Where they are alike throughout, it isn't.
alike : (x y : List Bool) → length y ≡ length x → ((k : ℕ) → k < length x → offers x k ≡ offers y k) → IsBefore x y → ⊥
alike [] y e same h = h
alike (b ∷ x) [] e same h = h
alike (true ∷ x) (true ∷ y) e same h = alike x y (omega arith) (λ k m. same (suc k) (omega arith)) h
alike (false ∷ x) (false ∷ y) e same h = alike x y (omega arith) (λ k m. same (suc k) (omega arith)) h
alike (true ∷ x) (false ∷ y) e same h = h
alike (false ∷ x) (true ∷ y) e same h = let s = same 0 (omega arith) in cc

-- The same of a node's fill.
pub ComesAfter-by_product : (node : List Mark) (x : List Bool) (i : ℕ) → i < length node → length x ≡ length node
    → ((k : ℕ) → k < i → offers (fill_of node) k ≡ offers x k) → offers (fill_of node) i ≢ offers x i → IsTrue (offers (fill_of node) i) ↔ ComesAfter node x
ComesAfter-by_product node x i l e same apart = let long = length-fill_of node in differs_at (fill_of node) x i (omega arith) (omega arith) same apart

-- A node whose fill is like the assortment comes after it.
pub ComesAfter-from_alike : (node : List Mark) (x : List Bool) → length x ≡ length node
    → ((k : ℕ) → k < length x → offers (fill_of node) k ≡ offers x k) → ComesAfter node x
ComesAfter-from_alike node x e same = let long = length-fill_of node in alike (fill_of node) x (omega arith) (λ k m. same k (omega arith))

-- A turn makes a stack smaller: by the nodes that can still come of it.
use Rattle.std.proofs.Common.{◌≡◌, ℕ, zero, suc, ◌+◌, ◌-◌, ◌^◌, ◌∙◌, ◌<◌, ◌≤◌, Option, Some, None, List, [], ◌∷◌, length, set, refl, sym, ap, subst, inl, inr, arith}
use Rattle.std.specs.Prelude.{ℤ}
use Rattle.std.specs.List.{All}
use Rattle.std.proofs.Math.Nat.{pow-succ'}
use Rattle.offer_model.specs.declared.node.Mark.{Mark}
use Rattle.offer_model.specs.declared.node.Mark.TheVariants.{Open, In, Out}
use Rattle.offer_model.specs.Nodes.{mark_at, one_if_open, opens}
use Rattle.tree_search.specs.Goals.{Rules, IsLawful, IsOpenOf}
use Rattle.tree_search.specs.Turns.{Walk, IsOutcome, IsTaken, Turn, IsSound}
use Rattle.tree_search.specs.Rooms.{Rooms}
use Rattle.tree_search.specs.Sizes.{node_size, size_of}
use Rattle.offer_model.proofs.NodeLemmas.{opens-le_length}
use Rattle.tree_search.proofs.CoverLemmas.{top_long}

-- A node with n Open products, and all nodes that can come of it.
abbrev pub tree : ℕ → ℕ
tree zero = 1
tree (suc n) = suc (tree n + tree n)

abbrev pub size : List (List Mark) → ℕ
size [] = 0
size (node ∷ rest) = tree (opens node) + size rest

tree_some : (n : ℕ) → 0 < tree n
tree_some zero = omega arith
tree_some (suc n) = omega arith

-- A product that is settled is no more Open.
pub settled : (node : List Mark) (i : ℕ) (m : Mark) → mark_at node i ≡ Open → one_if_open m ≡ 0 → suc (opens (set node i m)) ≡ opens node
settled [] i m o z = absurd cc
settled (k ∷ node) zero m o z = let e : k ≡ Open = o in let l : one_if_open k ≡ 1 = ap one_if_open e in omega arith
settled (k ∷ node) (suc i) m o z = let r = settled node i m o z in omega arith

-- ---- Room.

-- A stack with room has at most one node more than there are products.
pub rooms_length : (n : ℕ) (stack : List (List Mark)) → Rooms n stack → length stack ≤ n + 1
rooms_length n [] h = omega arith
rooms_length n (node ∷ rest) h = let l = h.0 in omega arith

-- A node that is divided leaves room.
pub rooms_divided : (n : ℕ) (node : List Mark) (rest : List (List Mark)) (i : ℕ) → mark_at node i ≡ Open → Rooms n (node ∷ rest)
    → Rooms n (set node i In ∷ set node i Out ∷ rest)
rooms_divided n node rest i o h =
    let a = settled node i In o refl in
    let b = settled node i Out o refl in
    let l = h.0 in
    (omega arith, (omega arith, h.1))

-- ---- The measure.

divided_smaller : (node : List Mark) (rest : List (List Mark)) (i : ℕ) → mark_at node i ≡ Open
    → size (set node i In ∷ set node i Out ∷ rest) < size (node ∷ rest)
divided_smaller node rest i o =
    let a = settled node i In o refl in
    let b = settled node i Out o refl in
    let t : suc (tree (opens (set node i In)) + tree (opens (set node i In))) ≡ tree (opens node) = ap tree a in
    let s : tree (opens (set node i Out)) ≡ tree (opens (set node i In)) = ap tree (omega arith) in
    omega arith

module _ (r : Rules) where
  taken_smaller : (old new : Walk) (node : List Mark) (rest : List (List Mark)) (o : Option ℕ) → IsOpenOf node o → IsTaken r old node rest o new
      → size new.stack < size (node ∷ rest)
  taken_smaller old new node rest None full t = let p = tree_some (opens node) in let e : size new.stack ≡ size rest = ap size t.0 in omega arith
  taken_smaller old new node rest (Some i) is t =
      let e : size new.stack ≡ size (set node i In ∷ set node i Out ∷ rest) = ap (λ (w : Walk). size w.stack) t in
      let d = divided_smaller node rest i is in
      omega arith

  outcome_smaller : (law : IsLawful r) (seen : ℤ) (old new : Walk) (node : List Mark) (rest : List (List Mark)) → length node ≡ r.products
      → IsOutcome r seen old node rest new
      → size new.stack < size (node ∷ rest)
  outcome_smaller law seen old new node rest l (inl d) =
      let p = tree_some (opens node) in
      let e : size new.stack ≡ size rest = ap (λ (w : Walk). size w.stack) d.1 in
      omega arith
  outcome_smaller law seen old new node rest l (inr t) = taken_smaller old new node rest (r.next node) (law.next node l) t.1

  -- A turn makes the stack smaller.
  pub turn_smaller : (law : IsLawful r) (seen : ℤ) (old new : Walk) → Turn r seen old new → old.products ≡ r.products → IsSound old
      → size new.stack < size old.stack
  turn_smaller law seen old new turn p sound =
      subst (λ (st : List (List Mark)). size new.stack < size st) (sym turn.top)
      (outcome_smaller law seen old new turn.node turn.rest (top_long r old turn.node turn.rest turn.top p sound) turn.outcome)

-- ---- The same in closed form, and how great it can be.

some_pow : (d : ℕ) → 0 < 2 ^ d
some_pow zero = omega arith
some_pow (suc d) = let h = some_pow d in omega (arith, pow-succ' 2 d)

tree_is : (n : ℕ) → tree n ≡ 2 ^ suc n - 1
tree_is zero = refl
tree_is (suc n) = let r = tree_is n in let p = pow-succ' 2 (suc n) in let q = pow-succ' 2 n in let s = some_pow n in omega arith

node_is : (node : List Mark) → tree (opens node) ≡ node_size node
node_is node = let s : suc (opens node) ≡ opens node + 1 = omega arith in tree_is (opens node) ∙ ap (λ (k : ℕ). 2 ^ k - 1) s

-- The size is the one of the contracts.
pub size_is : (stack : List (List Mark)) → size stack ≡ size_of stack
size_is [] = refl
size_is (node ∷ rest) = let r = size_is rest in let h = node_is node in omega arith

-- So a turn makes that smaller.
pub turn_less : (r : Rules) (law : IsLawful r) (seen : ℤ) (old new : Walk) → Turn r seen old new → old.products ≡ r.products → IsSound old
    → size_of new.stack < size_of old.stack
turn_less r law seen old new turn p sound =
    let l = turn_smaller r law seen old new turn p sound in
    let a = size_is new.stack in
    let b = size_is old.stack in
    omega arith

tree_grows : (m d : ℕ) → tree m ≤ tree (d + m)
tree_grows m zero = let s : 0 + m ≡ m = omega arith in let e : tree (0 + m) ≡ tree m = ap tree s in omega arith
tree_grows m (suc d) = let r = tree_grows m d in let s : suc (d + m) ≡ suc d + m = omega arith in let e : tree (suc (d + m)) ≡ tree (suc d + m) = ap tree s in omega arith

tree_le : (m n : ℕ) → m ≤ n → tree m ≤ tree n
tree_le m n l = let r = tree_grows m (n - m) in let s : n - m + m ≡ n = omega arith in let e : tree (n - m + m) ≡ tree n = ap tree s in omega arith

-- n times t.
abbrev pub times : ℕ → ℕ → ℕ
times zero t = 0
times (suc n) t = t + times n t

-- As often, or more often.
pub times_le : (m n t : ℕ) → m ≤ n → times m t ≤ times n t
times_le zero n t l = omega arith
times_le (suc m) zero t l = absurd (omega arith)
times_le (suc m) (suc n) t l = let r = times_le m n t (omega arith) in omega arith

-- At most so much can come of a walker's stack.
abbrev pub most : ℕ → ℕ
most n = times (n + 1) (tree n)

size_few : (n : ℕ) (stack : List (List Mark)) → All (λ (m : List Mark). length m ≡ n) stack → size stack ≤ times (length stack) (tree n)
size_few n [] h = omega arith
size_few n (node ∷ rest) h =
    let r = size_few n rest (λ k d l. h (suc k) d (omega arith)) in
    let o = opens-le_length node in
    let e : length node ≡ n = h 0 [] (omega arith) in
    let t = tree_le (opens node) n (omega arith) in
    omega arith

-- How great the size of a walker's stack can be.
pub sound_size : (w : Walk) → IsSound w → size_of w.stack ≤ most w.products
sound_size w s =
    let a = size_few w.products w.stack s.nodes in
    let b = times_le (length w.stack) (w.products + 1) (tree w.products) s.few in
    let c = size_is w.stack in
    omega arith

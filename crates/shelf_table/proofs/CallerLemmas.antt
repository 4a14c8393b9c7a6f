-- Laws of the table for callers' proofs: how the best of a room follows from the next product's, and the bound of a
-- shelf's leaf by what is In and the best of the rest.
use Rattle.std.proofs.Common.{◌≡◌, ◌≢◌, ℕ, zero, suc, ◌+◌, ◌-◌, ◌<◌, ◌≤◌, Bool, true, false, cond, List, Option, Some, None, refl, sym, ap, arith, subst, inl, inr, ◌∙◌, leb}
use Rattle.std.specs.Prelude.{pos, ◌+ℤ◌, ◌≤ℤ◌, nat_le, ◌⊎◌}
use Rattle.std.specs.Int.{int_max}
use Rattle.std.proofs.lemmas.Int.{ints, clamps, by_lt_z}
use Rattle.std.proofs.lemmas.Bool.Decides.{nat_tests}
use lib.IntN.{ℤ}
use Rattle.offer_model.specs.declared.node.Mark.{Mark}
use Rattle.offer_model.specs.declared.node.Mark.TheVariants.{In, Out, Open}
use Rattle.offer_model.specs.Assortments.{offers, sum_below}
use Rattle.offer_model.specs.Problems.{ProblemData, product_count}
use Rattle.offer_model.specs.Revenue.{sum_offered}
use Rattle.offer_model.specs.Nodes.{mark_at, is_in, fill_of, Agrees, settled_node}
use Rattle.offer_model.specs.Prices.{Prices, int_sum_below, worth_of}
use Rattle.offer_model.specs.LeafBounds.{greater_of, raised_by, best_in_space, shelf_space, shelf_bound}
use Rattle.offer_model.proofs.ShelfLemmas.{Reaches, in_space_step}
use Rattle.offer_model.proofs.NodeLemmas.{offers-fill_of}
use Rattle.shelf_table.specs.Tables.{space_of, better_of, best_of, best_from, free_price, free_prices}

-- ---- The best of a room.

better_mono : (f g : Bool) (a b c d : ℤ) → (f ≡ true → g ≡ true) → a ≤ℤ c → b ≤ℤ d → better_of f a b ≤ℤ better_of g c d
better_mono true true a b c d t h k = omega (arith, ints, clamps)
better_mono true false a b c d t h k = let e = t refl in cc
better_mono false true a b c d t h k = omega (arith, ints, clamps)
better_mono false false a b c d t h k = h

-- More room never gives less.
best_of-more : (space : ℕ → ℕ) (price : ℕ → ℤ) (m k room more : ℕ) → room ≤ more → best_of space price m k room ≤ℤ best_of space price m k more
best_of-more space price zero k room more l = omega (arith, ints)
best_of-more space price (suc m) k room more l =
    let a = best_of-more space price m (suc k) room more l in
    let b = best_of-more space price m (suc k) (room - space k) (more - space k) (omega arith) in
    better_mono (nat_le (space k) room) (nat_le (space k) more) _ _ _ _ (λ e. grind (arith, nat_tests)) a (omega (arith, ints))

-- More room has no smaller sum.
pub best_from-more : (space : ℕ → ℕ) (price : ℕ → ℤ) (n k room more : ℕ) → room ≤ more → best_from space price n k room ≤ℤ best_from space price n k more
best_from-more space price n k = best_of-more space price (n - k) k

-- Past the last product there is nothing.
pub best_from-none : (space : ℕ → ℕ) (price : ℕ → ℤ) (n room : ℕ) → best_from space price n n room ≡ pos 0
best_from-none space price n room = let e : n - n ≡ 0 = omega arith in rw e refl

-- At a product it is the better of two.
pub best_from-step : (space : ℕ → ℕ) (price : ℕ → ℤ) (n k room : ℕ) → k < n → best_from space price n k room
    ≡ better_of (nat_le (space k) room) (best_from space price n (suc k) room) (price k +ℤ best_from space price n (suc k) (room - space k))
best_from-step space price n k room l = let e : n - k ≡ suc (n - suc k) = omega arith in rw e refl

-- A product may be left out.
pub best_from-leave : (space : ℕ → ℕ) (price : ℕ → ℤ) (n k room : ℕ) → k < n → best_from space price n (suc k) room ≤ℤ best_from space price n k room
best_from-leave space price n k room l =
    rw (best_from-step space price n k room l) (without (nat_le (space k) room) (best_from space price n (suc k) room) (price k +ℤ best_from space price n (suc k) (room - space k)))
  where
    without : (f : Bool) (a b : ℤ) → a ≤ℤ better_of f a b
    without true a b = omega (arith, ints, clamps)
    without false a b = omega (arith, ints, clamps)

-- A product that fits may be taken.
pub best_from-take : (space : ℕ → ℕ) (price : ℕ → ℤ) (n k room : ℕ) → k < n → space k ≤ room
    → (price k +ℤ best_from space price n (suc k) (room - space k)) ≤ℤ best_from space price n k room
best_from-take space price n k room l fits =
    let test : leb (space k) room ≡ true = grind (arith, nat_tests) in
    rw (best_from-step space price n k room l, test) (omega (arith, ints, clamps))

-- One of the two is greatest.
pub best_from-choice : (space : ℕ → ℕ) (price : ℕ → ℤ) (n k room : ℕ) → k < n
    → (best_from space price n k room ≤ℤ best_from space price n (suc k) room)
    ⊎ ((space k ≤ room) × (best_from space price n k room ≤ℤ (price k +ℤ best_from space price n (suc k) (room - space k))))
best_from-choice space price n k room l =
    rw (best_from-step space price n k room l)
    (choice (nat_le (space k) room) (best_from space price n (suc k) room) (price k +ℤ best_from space price n (suc k) (room - space k)) (λ e. grind (arith, nat_tests)))
  where
    choice : (f : Bool) (a b : ℤ) → (f ≡ true → space k ≤ room) → (better_of f a b ≤ℤ a) ⊎ ((space k ≤ room) × (better_of f a b ≤ℤ b))
    choice true a b t = by_lt_z a b (λ h. inr (t refl, omega (arith, ints, clamps))) (λ h. inl (omega (arith, ints, clamps)))
    choice false a b t = inl (omega (arith, ints))

-- Only the prices from its product on count.
best_of-same : (space : ℕ → ℕ) (f g : ℕ → ℤ) (n m k room : ℕ) → m + k ≡ n → ((i : ℕ) → k ≤ i → i < n → f i ≡ g i)
    → best_of space f m k room ≡ best_of space g m k room
best_of-same space f g n zero k room e same = refl
best_of-same space f g n (suc m) k room e same =
    rw (
      same k (omega arith) (omega arith),
      best_of-same space f g n m (suc k) room (omega arith) (λ i l. same i (omega arith)),
      best_of-same space f g n m (suc k) (room - space k) (omega arith) (λ i l. same i (omega arith)),
    ) refl

-- Equal prices from a product on have equal sums from there.
pub best_from-same : (space : ℕ → ℕ) (f g : ℕ → ℤ) (n k room : ℕ) → k ≤ n → ((i : ℕ) → k ≤ i → i < n → f i ≡ g i)
    → best_from space f n k room ≡ best_from space g n k room
best_from-same space f g n k room l same = best_of-same space f g n (n - k) k room (omega arith) same

-- ---- The rest of a node: the best of what its marks leave open.

abbrev pub rest : ProblemData → List Mark → (ℕ → ℤ) → ℕ → ℕ → ℤ
rest p marks price k room = best_from (space_of p) (free_prices marks price) (product_count p) k room

settled_price : (m : Mark) (z : ℤ) → m ≢ Open → free_price m z ≡ pos 0
settled_price In z h = refl
settled_price Out z h = refl
settled_price Open z h = absurd (h refl)

rest_more : (p : ProblemData) (marks : List Mark) (price : ℕ → ℤ) (k room more : ℕ) → room ≤ more → rest p marks price k room ≤ℤ rest p marks price k more
rest_more p marks price = best_from-more (space_of p) (free_prices marks price) (product_count p)

rest_leave : (p : ProblemData) (marks : List Mark) (price : ℕ → ℤ) (k room : ℕ) → k < product_count p → rest p marks price (suc k) room ≤ℤ rest p marks price k room
rest_leave p marks price = best_from-leave (space_of p) (free_prices marks price) (product_count p)

-- A product that is settled adds nothing.
rest_settled : (p : ProblemData) (marks : List Mark) (price : ℕ → ℤ) (k room : ℕ) → k < product_count p → mark_at marks k ≢ Open
    → rest p marks price k room ≤ℤ rest p marks price (suc k) room
rest_settled p marks price k room l m = by_choice (best_from-choice (space_of p) (free_prices marks price) (product_count p) k room l)
  where
    by_choice : ((rest p marks price k room ≤ℤ rest p marks price (suc k) room)
        ⊎ ((space_of p k ≤ room) × (rest p marks price k room ≤ℤ (free_prices marks price k +ℤ rest p marks price (suc k) (room - space_of p k)))))
        → rest p marks price k room ≤ℤ rest p marks price (suc k) room
    by_choice (inl h) = h
    by_choice (inr h) =
        let none = settled_price (mark_at marks k) (price k) m in
        let a = h.1 in
        let b = rest_more p marks price (suc k) (room - space_of p k) room (omega arith) in
        omega (arith, ints)

-- Products that are settled, up to k.
pub rest_from : (p : ProblemData) (marks : List Mark) (price : ℕ → ℤ) (k room : ℕ) → k ≤ product_count p → ((i : ℕ) → i < k → mark_at marks i ≢ Open)
    → rest p marks price 0 room ≡ rest p marks price k room
rest_from p marks price zero room l settled = refl
rest_from p marks price (suc k) room l settled =
    let before = rest_from p marks price k room (omega arith) (λ i h. settled i (omega arith)) in
    let a = rest_leave p marks price k room (omega arith) in
    let b = rest_settled p marks price k room (omega arith) (settled k (omega arith)) in
    before ∙ omega (arith, ints)

-- ---- What is In.

abbrev used : ProblemData → List Mark → ℕ → ℕ
used p marks k = sum_below k (λ i. cond (offers (fill_of marks) i) (space_of p i) 0)

abbrev earned : List Mark → (ℕ → ℤ) → ℕ → ℤ
earned marks price k = int_sum_below k (λ i. cond (offers (fill_of marks) i) (price i) (pos 0))

uses : (p : ProblemData) (marks : List Mark) (k : ℕ) → mark_at marks k ≡ In → cond (offers (fill_of marks) k) (space_of p k) 0 ≡ space_of p k
uses p marks k e = rw (offers-fill_of marks k, e) refl

earns : (marks : List Mark) (price : ℕ → ℤ) (k : ℕ) → mark_at marks k ≡ In → cond (offers (fill_of marks) k) (price k) (pos 0) ≡ price k
earns marks price k e = rw (offers-fill_of marks k, e) refl

uses_none : (p : ProblemData) (marks : List Mark) (k : ℕ) → is_in (mark_at marks k) ≡ false → cond (offers (fill_of marks) k) (space_of p k) 0 ≡ 0
uses_none p marks k e = rw (offers-fill_of marks k, e) refl

earns_none : (marks : List Mark) (price : ℕ → ℤ) (k : ℕ) → is_in (mark_at marks k) ≡ false → cond (offers (fill_of marks) k) (price k) (pos 0) ≡ pos 0
earns_none marks price k e = rw (offers-fill_of marks k, e) refl

-- ---- No choice gives more than what is In and the rest.

offered : (fits : Bool) (x : ℤ) (o : Option ℤ) (z : ℤ) → cond fits (raised_by x o) None ≡ Some z → (fits ≡ true) × ((y : ℤ) × (o ≡ Some y) × ((x +ℤ y) ≡ z))
offered true x (Some y) z e = (refl, (y, refl, cc))
offered true x None z e = cc
offered false x o z e = cc

either : (a b : Option ℤ) (z : ℤ) → greater_of a b ≡ Some z → (a ≡ Some z) ⊎ (b ≡ Some z)
either None b z e = inr e
either (Some a) None z e = inl e
either (Some a) (Some b) z e =
    let same : int_max a b ≡ z = cc in
    by_lt_z a b (λ h. inr (ap Some (omega (arith, ints, clamps)))) (λ h. inl (ap Some (omega (arith, ints, clamps))))

abbrev Capped : ProblemData → List Mark → (ℕ → ℤ) → ℕ → ℕ → ℕ → ℤ → Type 0
Capped p marks price k room more z = (used p marks k ≤ room)
    × ((z +ℤ rest p marks price k more) ≤ℤ (earned marks price k +ℤ rest p marks price 0 ((room - used p marks k) + more)))

-- One product more.
capped_more : (p : ProblemData) (marks : List Mark) (price : ℕ → ℤ) (k : ℕ) → k < product_count p
    → ((room more : ℕ) (z : ℤ) → best_in_space p marks price k room ≡ Some z → Capped p marks price k room more z)
    → (room more : ℕ) (z : ℤ) → best_in_space p marks price (suc k) room ≡ Some z → Capped p marks price (suc k) room more z
capped_more p marks price k l before room more z e = by_mark (mark_at marks k) refl
  where
    leave : best_in_space p marks price k room ≡ Some z → is_in (mark_at marks k) ≡ false → Capped p marks price (suc k) room more z
    leave h m =
        let so_far = before room more z h in
        let fits = so_far.0 in
        let most = so_far.1 in
        let c = uses_none p marks k m in
        let d = earns_none marks price k m in
        let a = rest_leave p marks price k more (omega arith) in
        let b = rest_more p marks price 0 ((room - used p marks k) + more) ((room - used p marks (suc k)) + more) (omega arith) in
        (omega arith, omega (arith, ints))

    take_in : cond (nat_le (space_of p k) room) (raised_by (price k) (best_in_space p marks price k (room - space_of p k))) None ≡ Some z
        → mark_at marks k ≡ In → Capped p marks price (suc k) room more z
    take_in h m =
        let o = offered (nat_le (space_of p k) room) (price k) (best_in_space p marks price k (room - space_of p k)) z h in
        let test = o.0 in
        let fits : space_of p k ≤ room = grind (arith, nat_tests) in
        let sum = o.1.2 in
        let so_far = before (room - space_of p k) more o.1.0 o.1.1 in
        let inside = so_far.0 in
        let most = so_far.1 in
        let c = uses p marks k m in
        let d = earns marks price k m in
        let a = rest_leave p marks price k more (omega arith) in
        let b = rest_more p marks price 0 (((room - space_of p k) - used p marks k) + more) ((room - used p marks (suc k)) + more) (omega arith) in
        (omega arith, omega (arith, ints))

    take_open : cond (nat_le (space_of p k) room) (raised_by (price k) (best_in_space p marks price k (room - space_of p k))) None ≡ Some z
        → mark_at marks k ≡ Open → Capped p marks price (suc k) room more z
    take_open h m =
        let o = offered (nat_le (space_of p k) room) (price k) (best_in_space p marks price k (room - space_of p k)) z h in
        let test = o.0 in
        let fits : space_of p k ≤ room = grind (arith, nat_tests) in
        let sum = o.1.2 in
        let so_far = before (room - space_of p k) (more + space_of p k) o.1.0 o.1.1 in
        let inside = so_far.0 in
        let most = so_far.1 in
        let c = uses_none p marks k (ap is_in m) in
        let d = earns_none marks price k (ap is_in m) in
        let free : free_prices marks price k ≡ price k = rw m refl in
        let e : (more + space_of p k) - space_of p k ≡ more = omega arith in
        let a = rw e at (best_from-take (space_of p) (free_prices marks price) (product_count p) k (more + space_of p k) (omega arith) (omega arith)) in
        let b = rest_more p marks price 0 (((room - space_of p k) - used p marks k) + (more + space_of p k)) ((room - used p marks (suc k)) + more) (omega arith) in
        (omega arith, omega (arith, ints))

    by_mark : (m : Mark) → mark_at marks k ≡ m → Capped p marks price (suc k) room more z
    by_mark In m = take_in (rw m at e) m
    by_mark Out m = by_either (either (best_in_space p marks price k room) None z (rw m at e))
      where
        by_either : ((best_in_space p marks price k room ≡ Some z) ⊎ (◌≡◌ {A = Option ℤ} None (Some z))) → Capped p marks price (suc k) room more z
        by_either (inl h) = leave h (ap is_in m)
        by_either (inr h) = cc
    by_mark Open m = by_either (either (best_in_space p marks price k room) _ z (rw m at e))
      where
        by_either : ((best_in_space p marks price k room ≡ Some z)
            ⊎ (cond (nat_le (space_of p k) room) (raised_by (price k) (best_in_space p marks price k (room - space_of p k))) None ≡ Some z))
            → Capped p marks price (suc k) room more z
        by_either (inl h) = leave h (ap is_in m)
        by_either (inr h) = take_open h m

capped : (p : ProblemData) (marks : List Mark) (price : ℕ → ℤ) (k : ℕ) → k ≤ product_count p → (room more : ℕ) (z : ℤ)
    → best_in_space p marks price k room ≡ Some z → Capped p marks price k room more z
capped p marks price zero l room more z e =
    let none : pos 0 ≡ z = cc in
    let h = rest_more p marks price 0 more ((room - used p marks 0) + more) (omega arith) in
    (omega arith, omega (arith, ints))
capped p marks price (suc k) l room more z e =
    capped_more p marks price k l (λ r q y f. capped p marks price k (omega arith) r q y f) room more z e

-- ---- Some choice gives that much.

reaches_less : (o : Option ℤ) (a b : ℤ) → b ≤ℤ a → Reaches o a → Reaches o b
reaches_less None a b l h = absurd h
reaches_less (Some z) a b l h = omega (arith, ints)

abbrev Reached : ProblemData → List Mark → (ℕ → ℤ) → ℕ → ℕ → ℤ → Type 0
Reached p marks price k room z = (r : ℕ) → used p marks k + room ≤ r → Reaches (best_in_space p marks price k r) (earned marks price k +ℤ z)

-- One product less.
reached_more : (p : ProblemData) (marks : List Mark) (price : ℕ → ℤ) (k : ℕ) → k < product_count p
    → ((room more : ℕ) (z : ℤ) → Reached p marks price (suc k) room z
    → Reached p marks price (product_count p) (room + more) (z +ℤ rest p marks price (suc k) more))
    → (room more : ℕ) (z : ℤ) → Reached p marks price k room z → Reached p marks price (product_count p) (room + more) (z +ℤ rest p marks price k more)
reached_more p marks price k below next room more z h = by_mark (mark_at marks k) refl
  where
    -- The next product is settled, or left out.
    go_on : (b : Bool) → Agrees (mark_at marks k) b → cond b (space_of p k) 0 ≡ cond (offers (fill_of marks) k) (space_of p k) 0
        → cond b (price k) (pos 0) ≡ cond (offers (fill_of marks) k) (price k) (pos 0)
        → rest p marks price k more ≤ℤ rest p marks price (suc k) more
        → Reached p marks price (product_count p) (room + more) (z +ℤ rest p marks price k more)
    go_on b agrees same_space same_price less r l =
        reaches_less (best_in_space p marks price (product_count p) r) _ _ (omega (arith, ints))
        (next room more z
        (λ s t. reaches_less (best_in_space p marks price (suc k) s) ((earned marks price k +ℤ z) +ℤ cond b (price k) (pos 0)) (earned marks price (suc k) +ℤ z) (omega (arith, ints))
        (in_space_step p marks price k s (used p marks k + room) (earned marks price k +ℤ z) b agrees (omega arith) h))
        r l)

    take : mark_at marks k ≡ Open → space_of p k ≤ more → rest p marks price k more ≤ℤ (free_prices marks price k +ℤ rest p marks price (suc k) (more - space_of p k))
        → Reached p marks price (product_count p) (room + more) (z +ℤ rest p marks price k more)
    take o fits less r l =
        let free : free_prices marks price k ≡ price k = rw o refl in
        let c = uses_none p marks k (ap is_in o) in
        let d = earns_none marks price k (ap is_in o) in
        let agrees : Agrees (mark_at marks k) true = rw o tt in
        reaches_less (best_in_space p marks price (product_count p) r) _ _ (omega (arith, ints))
        (next (room + space_of p k) (more - space_of p k) (z +ℤ price k)
        (λ s t. reaches_less (best_in_space p marks price (suc k) s) ((earned marks price k +ℤ z) +ℤ price k) (earned marks price (suc k) +ℤ (z +ℤ price k)) (omega (arith, ints))
        (in_space_step p marks price k s (used p marks k + room) (earned marks price k +ℤ z) true agrees (omega arith) h))
        r (omega arith))

    by_choice : mark_at marks k ≡ Open → ((rest p marks price k more ≤ℤ rest p marks price (suc k) more)
        ⊎ ((space_of p k ≤ more) × (rest p marks price k more ≤ℤ (free_prices marks price k +ℤ rest p marks price (suc k) (more - space_of p k)))))
        → Reached p marks price (product_count p) (room + more) (z +ℤ rest p marks price k more)
    by_choice o (inl less) = go_on false (rw o tt) (sym (uses_none p marks k (ap is_in o))) (sym (earns_none marks price k (ap is_in o))) less
    by_choice o (inr t) = take o t.0 t.1

    by_mark : (mark : Mark) → mark_at marks k ≡ mark → Reached p marks price (product_count p) (room + more) (z +ℤ rest p marks price k more)
    by_mark In o = go_on true (rw o refl) (sym (uses p marks k o)) (sym (earns marks price k o)) (rest_settled p marks price k more (omega arith) (λ t. let q : In ≡ Open = sym o ∙ t in cc))
    by_mark Out o = go_on false (rw o refl) (sym (uses_none p marks k (ap is_in o))) (sym (earns_none marks price k (ap is_in o)))
        (rest_settled p marks price k more (omega arith) (λ t. let q : Out ≡ Open = sym o ∙ t in cc))
    by_mark Open o = by_choice o (best_from-choice (space_of p) (free_prices marks price) (product_count p) k more (omega arith))

reached : (p : ProblemData) (marks : List Mark) (price : ℕ → ℤ) (m k : ℕ) → m + k ≡ product_count p → (room more : ℕ) (z : ℤ)
    → Reached p marks price k room z → Reached p marks price (product_count p) (room + more) (z +ℤ rest p marks price k more)
reached p marks price zero k e room more z h =
    let last : k ≡ product_count p = omega (arith, e) in
    let none : rest p marks price k more ≡ pos 0
    = rw last (best_from-none (space_of p) (free_prices marks price) (product_count p) more) in
    subst (λ j. Reached p marks price j (room + more) (z +ℤ rest p marks price k more)) last
    (λ r l. reaches_less (best_in_space p marks price k r) (earned marks price k +ℤ z) (earned marks price k +ℤ (z +ℤ rest p marks price k more))
    (omega (arith, ints)) (h r (omega arith)))
reached p marks price (suc m) k e room more z h =
    reached_more p marks price k (omega arith) (λ r q y f. reached p marks price m (suc k) (omega arith) r q y f) room more z h

-- ---- The bound.

same_best : (p : ProblemData) (marks : List Mark) (price : ℕ → ℤ) (room : ℕ) → used p marks (product_count p) ≤ room
    → best_in_space p marks price (product_count p) room
    ≡ Some (earned marks price (product_count p) +ℤ rest p marks price 0 (room - used p marks (product_count p)))
same_best p marks price room fits = by_value (best_in_space p marks price (product_count p) room) refl
    (reached p marks price (product_count p) 0 (omega arith) 0 (room - used p marks (product_count p)) (pos 0) (λ r l. omega (arith, ints)) room (omega arith))
  where
    by_value : (o : Option ℤ) → best_in_space p marks price (product_count p) room ≡ o
        → Reaches o (earned marks price (product_count p) +ℤ (pos 0 +ℤ rest p marks price 0 (room - used p marks (product_count p))))
        → o ≡ Some (earned marks price (product_count p) +ℤ rest p marks price 0 (room - used p marks (product_count p)))
    by_value None e h = absurd h
    by_value (Some z) e h =
        let most = (capped p marks price (product_count p) (omega arith) room 0 z e).1 in
        let none = best_from-none (space_of p) (free_prices marks price) (product_count p) 0 in
        let same = rest_more p marks price 0 ((room - used p marks (product_count p)) + 0) (room - used p marks (product_count p)) (omega arith) in
        ap Some (omega (arith, ints))

no_best : (p : ProblemData) (marks : List Mark) (price : ℕ → ℤ) (room : ℕ) → room < used p marks (product_count p)
    → best_in_space p marks price (product_count p) room ≡ None
no_best p marks price room over = by_value (best_in_space p marks price (product_count p) room) refl
  where
    by_value : (o : Option ℤ) → best_in_space p marks price (product_count p) room ≡ o → o ≡ None
    by_value None e = refl
    by_value (Some z) e = let fits = (capped p marks price (product_count p) (omega arith) room 0 z e).0 in absurd (omega arith)

-- Where what is In fits, the bound is what it is worth and the best of the rest in the room that it leaves.
pub shelf_bound-fits : (p : ProblemData) (node : List Mark) (at : Prices) (space : ℕ) → shelf_space p.limits ≡ Some space
    → sum_offered p (fill_of (settled_node p node)) (space_of p) ≤ space
    → shelf_bound p node at ≡ Some (worth_of p at (fill_of (settled_node p node))
    +ℤ rest p (settled_node p node) at.price 0 (space - sum_offered p (fill_of (settled_node p node)) (space_of p)))
shelf_bound-fits p node at space e fits =
    rw (e, same_best p (settled_node p node) at.price space fits) (ap Some (omega (arith, ints)))

-- Where it doesn't, there is none.
pub shelf_bound-over : (p : ProblemData) (node : List Mark) (at : Prices) (space : ℕ) → shelf_space p.limits ≡ Some space
    → space < sum_offered p (fill_of (settled_node p node)) (space_of p) → shelf_bound p node at ≡ None
shelf_bound-over p node at space e over = rw (e, no_best p (settled_node p node) at.price space over) refl

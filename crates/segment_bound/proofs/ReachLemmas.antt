-- Along the products by falling margin, what is reached are exactly the Open products whose margin is above the ratio that is reached.
use Rattle.std.proofs.Common.{◌≡◌, ℕ, zero, suc, ◌+◌, ◌*◌, ◌^◌, ◌<◌, ◌≤◌, Bool, true, false, cond, ltb, ◌&&◌, List, [], ◌∷◌, length, get_or, drop, drop-cons, add-one, refl, sym, ap, ◌∙◌, subst, ⊎_elim, arith}
use Rattle.std.specs.Prelude.{sum_by}
use Rattle.std.specs.List.{All}
use Rattle.std.proofs.lemmas.Bool.Decides.{nat_tests}
use Rattle.std.proofs.lemmas.List.Elements.{All-cons}
use Rattle.std.proofs.lemmas.List.Sums.{sum_by-cons}
use Rattle.std.proofs.Math.Nat.{mul-le-mul, mul-le-mul_right}
use Rattle.offer_model.specs.declared.node.Mark.{Mark}
use Rattle.offer_model.specs.Problems.{SegmentData, attraction_of}
use Rattle.offer_model.specs.Nodes.{mark_at, is_open}
use Rattle.segment_bound.specs.declared.order.Ranked.{Ranked}
use Rattle.segment_bound.specs.declared.sums.Sums.{Sums}
use Rattle.segment_bound.specs.Orders.{Precedes}
use Rattle.segment_bound.specs.Sums.{is_above, IsReached, with_product, taken_if}
use Rattle.segment_bound.proofs.OrderLemmas.{Falling}

-- No margin of the list is above r.
abbrev pub IsBelow : ℕ → List Ranked → Type 0
IsBelow r qs = All (λ q. q.margin ≤ r) qs

pub below_first : (q : Ranked) (qs : List Ranked) → All (Precedes q) qs → IsBelow q.margin qs
below_first q qs h = λ k d l. ⊎_elim (λ b. omega arith) (λ b. let e = b.0 in omega arith) (h k d l)

module _ (node : List Mark) (g : SegmentData) where
  -- The sums after a product of the list: with it, where it is above their ratio.
  abbrev pub stepped : Ranked → Sums → Sums
  stepped q s = taken_if (is_above node s q) q (attraction_of g q.product) s

  -- The sums after the list.
  abbrev pub grown : List Ranked → Sums → Sums
  grown [] s = s
  grown (q ∷ qs) s = grown qs (stepped q s)

  -- A ratio below each margin of a list stays below it.
  step_under : (s : Sums) (q : Ranked) (v r : ℕ) (b : Bool) → q.margin ≤ r → s.gain < r * s.weight → (taken_if b q v s).gain < r * (taken_if b q v s).weight
  step_under s q v r true l h = let m : q.margin * v ≤ r * v = mul-le-mul_right v l in omega arith
  step_under s q v r false l h = h

  stays_under : (qs : List Ranked) (s : Sums) (r : ℕ) → IsBelow r qs → s.gain < r * s.weight → (grown qs s).gain < r * (grown qs s).weight
  stays_under [] s r b h = h
  stays_under (q ∷ qs) s r b h = stays_under qs (stepped q s) r (λ k d l. b (suc k) d (omega arith))
      (step_under s q (attraction_of g q.product) r (is_above node s q) (b 0 q (omega arith)) h)

  step_still : (s : Sums) (q : Ranked) (v r : ℕ) (may : Bool) → q.margin ≤ r → r * s.weight ≤ s.gain → taken_if (may && ltb s.gain (q.margin * s.weight)) q v s ≡ s
  step_still s q v r true l h =
      let m : q.margin * s.weight ≤ r * s.weight = mul-le-mul_right s.weight l in
      let e : ltb s.gain (q.margin * s.weight) ≡ false = grind (arith, nat_tests) in
      ap (λ t. taken_if t q v s) e
  step_still s q v r false l h = refl

  -- Where no margin is above the ratio nothing is taken.
  pub stays_still : (qs : List Ranked) (s : Sums) (r : ℕ) → IsBelow r qs → r * s.weight ≤ s.gain → grown qs s ≡ s
  stays_still [] s r b h = refl
  stays_still (q ∷ qs) s r b h =
      ap (grown qs) (step_still s q (attraction_of g q.product) r (is_open (mark_at node q.product)) (b 0 q (omega arith)) h)
      ∙ stays_still qs s r (λ k d l. b (suc k) d (omega arith)) h

  -- A sum over what is above the ratio, with one product more.
  one_more : (f : Ranked → ℕ) (t : Sums) (q : Ranked) (qs : List Ranked) (b : Bool) → is_above node t q ≡ b
      → sum_by (λ x. cond (is_above node t x) (f x) 0) (q ∷ qs) ≡ cond b (f q) 0 + sum_by (λ x. cond (is_above node t x) (f x) 0) qs
  one_more f t q qs b e =
      sum_by-cons (λ x. cond (is_above node t x) (f x) 0) q qs
      ∙ ap (λ z. cond z (f q) 0 + sum_by (λ x. cond (is_above node t x) (f x) 0) qs) e

  -- A product that isn't above the ratio reached changes nothing.
  left_out : (q : Ranked) (qs : List Ranked) (s : Sums) → is_above node (grown qs s) q ≡ false → IsReached qs g node s (grown qs s)
      → IsReached (q ∷ qs) g node s (grown qs s)
  left_out q qs s here e =
      let gain = e.gain in
      let weight = e.weight in
      let more = one_more (λ x. x.margin * attraction_of g x.product) (grown qs s) q qs false here in
      let heavier = one_more (λ x. attraction_of g x.product) (grown qs s) q qs false here in
      record { gain = omega (arith, gain, more); weight = omega (arith, weight, heavier) }

  taken_by : (q : Ranked) (qs : List Ranked) (s : Sums) (may up : Bool) → is_open (mark_at node q.product) ≡ may → ltb s.gain (q.margin * s.weight) ≡ up
      → IsBelow q.margin qs → ((s' : Sums) → IsReached qs g node s' (grown qs s'))
      → IsReached (q ∷ qs) g node s (grown qs (taken_if (may && up) q (attraction_of g q.product) s))
  taken_by q qs s true true o u b ih =
      let s' : Sums = with_product q (attraction_of g q.product) s in
      let t : Sums = grown qs s' in
      let low : s.gain < q.margin * s.weight = grind (arith, nat_tests) in
      let under : s'.gain < q.margin * s'.weight = omega arith in
      let ends : t.gain < q.margin * t.weight = stays_under qs s' q.margin b under in
      let test : ltb t.gain (q.margin * t.weight) ≡ true = grind (arith, nat_tests) in
      let here : is_above node t q ≡ true = ap (λ z. z && ltb t.gain (q.margin * t.weight)) o ∙ test in
      let rest = ih s' in
      let gain = rest.gain in
      let weight = rest.weight in
      let more = one_more (λ x. x.margin * attraction_of g x.product) t q qs true here in
      let heavier = one_more (λ x. attraction_of g x.product) t q qs true here in
      record { gain = omega (arith, gain, more); weight = omega (arith, weight, heavier) }
  taken_by q qs s true false o u b ih =
      let high : q.margin * s.weight ≤ s.gain = grind (arith, nat_tests) in
      let same : grown qs s ≡ s = stays_still qs s q.margin b high in
      let here : is_above node (grown qs s) q ≡ false =
      ap (λ z. is_open (mark_at node q.product) && ltb z.gain (q.margin * z.weight)) same ∙ (ap (λ z. z && ltb s.gain (q.margin * s.weight)) o ∙ u) in
      left_out q qs s here (ih s)
  taken_by q qs s false up o u b ih =
      left_out q qs s (ap (λ z. z && ltb (grown qs s).gain (q.margin * (grown qs s).weight)) o) (ih s)

  -- A falling list takes exactly the Open products above the ratio that it reaches.
  pub grown_reached : (qs : List Ranked) → Falling qs → (s : Sums) → IsReached qs g node s (grown qs s)
  grown_reached [] f s = record { gain = omega arith; weight = omega arith }
  grown_reached (q ∷ qs) f s =
      taken_by q qs s (is_open (mark_at node q.product)) (ltb s.gain (q.margin * s.weight)) refl refl (below_first q qs f.0) (grown_reached qs f.1)

  -- ---- The loop.

  -- One product more, where its margin is above the ratio.
  pub grown_step : (order : List Ranked) (r : ℕ) (d q : Ranked) (m : Mark) (v : ℕ) (s s' t : Sums) → r < length order → q ≡ get_or order r d → m ≡ mark_at node q.product
      → v ≡ attraction_of g q.product → ltb s.gain (q.margin * s.weight) ≡ true → grown (drop r order) s ≡ t → s' ≡ taken_if (is_open m) q v s → grown (drop (r + 1) order) s' ≡ t
  grown_step order r d q m v s s' t l eq em ev up e es =
      let c : drop r order ≡ q ∷ drop (suc r) order = drop-cons order r d l ∙ ap (λ z. z ∷ drop (suc r) order) (sym eq) in
      let f : grown (q ∷ drop (suc r) order) s ≡ t = ap (λ z. grown z s) (sym c) ∙ e in
      let may : is_open m ≡ is_above node s q = by (is_open m) (ltb s.gain (q.margin * s.weight)) up ∙ ap (λ z. is_open z && ltb s.gain (q.margin * s.weight)) em in
      let k : s' ≡ stepped q s = es ∙ (ap (λ z. taken_if z q v s) may ∙ ap (λ z. taken_if (is_above node s q) q z s) ev) in
      rw add-one (ap (grown (drop (suc r) order)) k ∙ f)
    where
      by : (a b : Bool) → b ≡ true → a ≡ (a && b)
      by true b e = sym e
      by false b e = refl

  falling_drop : (order : List Ranked) (r : ℕ) (d : Ranked) → Falling order → r < length order → IsBelow (get_or order r d).margin (drop (suc r) order)
  falling_drop [] r d f l = absurd (omega arith)
  falling_drop (q ∷ qs) zero d f l = below_first q qs f.0
  falling_drop (q ∷ qs) (suc r) d f l = falling_drop qs r d f.1 (omega arith)

  -- Where the margin isn't above the ratio, nothing more is taken.
  pub grown_stops : (order : List Ranked) (r : ℕ) (d q : Ranked) (s t : Sums) → Falling order → r < length order → q ≡ get_or order r d
      → ltb s.gain (q.margin * s.weight) ≡ false → grown (drop r order) s ≡ t → s ≡ t
  grown_stops order r d q s t f l eq low e =
      let high : q.margin * s.weight ≤ s.gain = grind (arith, nat_tests) in
      let c : drop r order ≡ q ∷ drop (suc r) order = drop-cons order r d l ∙ ap (λ z. z ∷ drop (suc r) order) (sym eq) in
      let below = falling_drop order r d f l in
      let same = stays_still (q ∷ drop (suc r) order) s q.margin (below_too q (drop (suc r) order) (subst (λ (z : Ranked). IsBelow z.margin (drop (suc r) order)) (sym eq) below)) high in
      sym same ∙ (ap (λ z. grown z s) (sym c) ∙ e)
    where
      below_too : (q : Ranked) (qs : List Ranked) → IsBelow q.margin qs → IsBelow q.margin (q ∷ qs)
      below_too q qs b = All-cons (λ (z : Ranked). z.margin ≤ q.margin) q qs (omega arith) b

  pub taken_gain : (s : Sums) (q : Ranked) (v c : ℕ) (b : Bool) → q.margin ≤ 1000000000 → v ≤ 1000000000 → s.gain ≤ c * 10 ^ 18 → (taken_if b q v s).gain ≤ (c + 1) * 10 ^ 18
  taken_gain s q v c true m l h = let t = mul-le-mul m l in omega (arith, t)
  taken_gain s q v c false m l h = omega arith

  pub taken_weight : (s : Sums) (q : Ranked) (v c : ℕ) (b : Bool) → v ≤ 1000000000 → s.weight ≤ c * 10 ^ 9 → (taken_if b q v s).weight ≤ (c + 1) * 10 ^ 9
  taken_weight s q v c true l h = omega arith
  taken_weight s q v c false l h = omega arith

  -- After the last product nothing is left to take.
  pub grown_end : (order : List Ranked) (r : ℕ) (s t : Sums) → length order ≤ r → grown (drop r order) s ≡ t → s ≡ t
  grown_end [] zero s t l e = e
  grown_end [] (suc r) s t l e = e
  grown_end (q ∷ qs) zero s t l e = absurd (omega arith)
  grown_end (q ∷ qs) (suc r) s t l e = grown_end qs r s t (omega arith) e

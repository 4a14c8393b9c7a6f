-- The first Open product of the order is the dearest one.
use Rattle.std.proofs.Common.{◌≡◌, ◌≢◌, ℕ, zero, suc, ◌+◌, ◌<◌, ◌≤◌, Bool, true, false, cond, ltb, Option, Some, None, List, [], ◌∷◌, length, get_or, drop, drop-cons, refl, sym, ap, ◌∙◌, subst, arith, inl, inr, ⊎_elim, add-one}
use Rattle.std.specs.Prelude.{◌⊎◌}
use Rattle.std.specs.List.{All}
use Rattle.std.proofs.lemmas.Bool.{cases_eq}
use Rattle.std.proofs.lemmas.Bool.Decides.{nat_tests}
use Rattle.std.proofs.lemmas.List.Elements.{All-head, All-tail, All-cons}
use Rattle.offer_model.specs.declared.node.Mark.{Mark}
use Rattle.offer_model.specs.declared.node.Mark.TheVariants.{Open, In, Out}
use Rattle.offer_model.specs.Problems.{ProblemData, product_count, margin_of}
use Rattle.offer_model.specs.Nodes.{mark_at, is_open}
use Rattle.offer_model.specs.Branching.{GoesFirst}
use Rattle.offer_model.proofs.NodeLemmas.{open_inside}
use Rattle.offer_model.proofs.PotentialLemmas.{is_open-true}
use Rattle.segment_bound.specs.declared.order.Ranked.{Ranked}
use Rattle.segment_bound.specs.Orders.{Precedes, IsOrder, first_in, dearer, dearest_below, dearest, IsDearest}
use Rattle.segment_bound.proofs.OrderLemmas.{IsOf, order_of, from_order, Falling, Falling-from_pairs}

-- ---- The loop.

-- An Open product before which none of the order is Open is the first one.
pub first_here : (node : List Mark) (order : List Ranked) (i : ℕ) (d : Ranked) → i < length order → is_open (mark_at node (get_or order i d).product) ≡ true
    → first_in node (drop i order) ≡ first_in node order → Some (get_or order i d).product ≡ first_in node order
first_here node order i d l e h =
    sym (ap (λ t. cond t (Some (get_or order i d).product) (first_in node (drop (suc i) order))) e) ∙ (sym (ap (first_in node) (drop-cons order i d l)) ∙ h)

-- One that isn't Open leaves the first one among those after it.
pub first_step : (node : List Mark) (order : List Ranked) (i : ℕ) (d : Ranked) → i < length order → is_open (mark_at node (get_or order i d).product) ≡ false
    → first_in node (drop i order) ≡ first_in node order → first_in node (drop (i + 1) order) ≡ first_in node order
first_step node order i d l e h =
    rw add-one (sym (ap (λ t. cond t (Some (get_or order i d).product) (first_in node (drop (suc i) order))) e) ∙ (sym (ap (first_in node) (drop-cons order i d l)) ∙ h))

-- ---- What is dearest among the products below n.

abbrev Leads : ProblemData → List Mark → ℕ → ℕ → Type 0
Leads p node i j = is_open (mark_at node j) ≡ true → (margin_of p j < margin_of p i) ⊎ ((margin_of p j ≡ margin_of p i) × (i ≤ j))

abbrev pub IsDearestBelow : ProblemData → List Mark → ℕ → Option ℕ → Type 0
IsDearestBelow p node n None = (j : ℕ) → j < n → is_open (mark_at node j) ≡ false
IsDearestBelow p node n (Some i) = (i < n) × (is_open (mark_at node i) ≡ true) × ((j : ℕ) → j < n → Leads p node i j)

module _ (p : ProblemData) (node : List Mark) where
  at_or_below : (P : ℕ → Type 0) (n : ℕ) → ((j : ℕ) → j < n → P j) → P n → (j : ℕ) → j < suc n → P j
  at_or_below P n h here j l = elim (cases_eq j n) [ inl e ↦ subst P (sym e) here | inr ne ↦ h j (omega arith) ]

  dearer_is : (n : ℕ) (o : Option ℕ) (t : Bool) → is_open (mark_at node n) ≡ t → IsDearestBelow p node n o → IsDearestBelow p node (suc n) (dearer p node n o)
  dearer_is n None true e h = rw e (omega arith, e, at_or_below (Leads p node n) n (λ j l k. (let no = h j l in absurd cc)) (λ k. inr (refl, omega arith)))
  dearer_is n None false e h = rw e (at_or_below (λ j. is_open (mark_at node j) ≡ false) n h e)
  dearer_is n (Some a) false e h = rw e (omega arith, h.1, at_or_below (Leads p node a) n h.2 (λ k. absurd cc))
  dearer_is n (Some a) true e h = by_test (ltb (margin_of p a) (margin_of p n)) refl
    where
      by_test : (u : Bool) → ltb (margin_of p a) (margin_of p n) ≡ u → IsDearestBelow p node (suc n) (dearer p node n (Some a))
      by_test true g =
          let l : margin_of p a < margin_of p n = grind (arith, nat_tests) in
          rw (e, g) (omega arith, e, at_or_below (Leads p node n) n (λ j m k. ⊎_elim (λ b. inl (omega arith)) (λ b. inl (let q = b.0 in omega arith)) (h.2 j m k)) (λ k. inr (refl, omega arith)))
      by_test false g =
          let l : margin_of p n ≤ margin_of p a = grind (arith, nat_tests) in
          let le : a < n = h.0 in
          rw (e, g) (omega arith, h.1, at_or_below (Leads p node a) n h.2 (λ k. elim (cases_eq (margin_of p n) (margin_of p a)) [ inl s ↦ inr (s, omega arith) | inr ne ↦ inl (omega arith) ]))

  below_is : (n : ℕ) → IsDearestBelow p node n (dearest_below p node n)
  below_is zero = λ j l. absurd (omega arith)
  below_is (suc n) = dearer_is n (dearest_below p node n) (is_open (mark_at node n)) refl (below_is n)

  dearest_one : (n : ℕ) (a b : Option ℕ) → IsDearestBelow p node n a → IsDearestBelow p node n b → a ≡ b
  dearest_one n None None x y = refl
  dearest_one n None (Some j) x y = let no = x j y.0 in let yes = y.1 in absurd cc
  dearest_one n (Some i) None x y = let no = y i x.0 in let yes = x.1 in absurd cc
  dearest_one n (Some i) (Some j) x y =
      let a = x.2 j y.0 y.1 in
      let b = y.2 i x.0 x.1 in
      ap (λ (k : ℕ). Some k) (both a b)
    where
      both : (margin_of p j < margin_of p i) ⊎ ((margin_of p j ≡ margin_of p i) × (i ≤ j)) → (margin_of p i < margin_of p j) ⊎ ((margin_of p i ≡ margin_of p j) × (j ≤ i)) → i ≡ j
      both (inl l) (inl m) = absurd (omega arith)
      both (inl l) (inr m) = let e = m.0 in absurd (omega arith)
      both (inr l) (inl m) = let e = l.0 in absurd (omega arith)
      both (inr l) (inr m) = let s = l.1 in let t = m.1 in omega arith

  -- ---- The first Open one of the order.

  -- Each Open product of the list has less margin, or as much and no earlier place.
  abbrev Ahead : ℕ → ℕ → Ranked → Type 0
  Ahead r i q = is_open (mark_at node q.product) ≡ true → (q.margin < r) ⊎ ((q.margin ≡ r) × (i ≤ q.product))

  abbrev IsFound : Option ℕ → List Ranked → Type 0
  IsFound None qs = All (λ (q : Ranked). is_open (mark_at node q.product) ≡ false) qs
  IsFound (Some i) qs = (i < product_count p) × (is_open (mark_at node i) ≡ true) × All (Ahead (margin_of p i) i) qs

  each_ahead : (q : Ranked) (qs : List Ranked) → IsOf p q → All (Precedes q) qs → All (Ahead (margin_of p q.product) q.product) qs
  each_ahead q qs t h = λ k d l o. ⊎_elim (λ b. inl (let e = t.0 in omega arith)) (λ b. inr (b.0 ∙ t.0, b.1)) (h k d l)

  found_more : (q : Ranked) (qs : List Ranked) (o : Option ℕ) → is_open (mark_at node q.product) ≡ false → IsFound o qs → IsFound o (q ∷ qs)
  found_more q qs None e f = All-cons (λ (s : Ranked). is_open (mark_at node s.product) ≡ false) q qs e f
  found_more q qs (Some i) e f = (f.0, f.1, All-cons (Ahead (margin_of p i) i) q qs (λ k. absurd cc) f.2)

  found_by : (q : Ranked) (qs : List Ranked) (t : Bool) → is_open (mark_at node q.product) ≡ t → IsOf p q → All (Precedes q) qs → IsFound (first_in node qs) qs → IsFound (first_in node (q ∷ qs)) (q ∷ qs)
  found_by q qs true e told pre f = subst (λ (o : Option ℕ). IsFound o (q ∷ qs)) (sym (ap (λ t. cond t (Some q.product) (first_in node qs)) e))
      (told.1, e, All-cons (Ahead (margin_of p q.product) q.product) q qs (λ o. inr (told.0, omega arith)) (each_ahead q qs told pre))
  found_by q qs false e told pre f = subst (λ (o : Option ℕ). IsFound o (q ∷ qs)) (sym (ap (λ t. cond t (Some q.product) (first_in node qs)) e)) (found_more q qs (first_in node qs) e f)

  found : (qs : List Ranked) → All (IsOf p) qs → Falling qs → IsFound (first_in node qs) qs
  found [] t f = λ k d l. absurd (omega arith)
  found (q ∷ qs) t f = found_by q qs (is_open (mark_at node q.product)) refl (All-head (IsOf p) q qs t) f.0 (found qs (All-tail (IsOf p) q qs t) f.1)

  found_dearest : (order : List Ranked) → IsOrder p order → (o : Option ℕ) → IsFound o order → IsDearestBelow p node (product_count p) o
  found_dearest order o None h = from_order p order o (λ (q : Ranked). is_open (mark_at node q.product) ≡ false) h
  found_dearest order o (Some i) h = (h.0, h.1, from_order p order o (Ahead (margin_of p i) i) h.2)

  -- The first Open product of the order is the dearest one.
  pub first_is_dearest : (order : List Ranked) → IsOrder p order → first_in node order ≡ dearest p node
  first_is_dearest order o = dearest_one (product_count p) (first_in node order) (dearest p node)
      (found_dearest order o (first_in node order) (found order (order_of p order o) (Falling-from_pairs order o.falling)))
      (below_is (product_count p))

  -- ---- As a property of the node.

  open_is : (m : Mark) → m ≡ Open → is_open m ≡ true
  open_is Open e = refl
  open_is In e = cc
  open_is Out e = cc

  strictly : (i j : ℕ) → j ≢ i → (margin_of p j < margin_of p i) ⊎ ((margin_of p j ≡ margin_of p i) × (i ≤ j)) → GoesFirst p i j
  strictly i j ne (inl l) = inl l
  strictly i j ne (inr l) = inr (l.0, (let m = l.1 in omega arith))

  property : (o : Option ℕ) → length node ≡ product_count p → IsDearestBelow p node (product_count p) o → IsDearest p node o
  property None long h = λ i e. (let inside = open_inside node i e in let no = h i (omega arith) in let yes = open_is (mark_at node i) e in cc)
  property (Some i) long h = record {
    open_mark = is_open-true (mark_at node i) h.1;
    first = λ j e ne. (let inside = open_inside node j e in strictly i j ne (h.2 j (omega arith) (open_is (mark_at node j) e)));
  }

  -- The dearest Open product goes before each other Open one, or there is none.
  pub dearest_is : length node ≡ product_count p → IsDearest p node (dearest p node)
  dearest_is long = property (dearest p node) long (below_is (product_count p))

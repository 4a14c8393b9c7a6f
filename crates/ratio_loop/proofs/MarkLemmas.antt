-- The pass over ties, mark by mark.
use Rattle.std.proofs.Common.{◌≡◌, ◌≢◌, ℕ, zero, suc, ◌+◌, ◌*◌, ◌<◌, ◌≤◌, ◌⊎◌, inl, inr, Bool, true, false, List, [], ◌∷◌, length, set, length-set, get_or-set_same, get_or-set_other, refl, sym, ap, subst, below_more, arith}
use Rattle.std.proofs.Math.Nat.{mul-le-mul_left, mul-le-mul_right, le_of_mul-le-mul_left}
use Rattle.std.proofs.lemmas.List.{get_or-replicate, length-replicate}
use Rattle.offer_model.specs.declared.node.Mark.{Mark}
use Rattle.offer_model.specs.declared.node.Mark.TheVariants.{In, Out, Open}
use Rattle.offer_model.specs.declared.products.Fraction.{Fraction}
use Rattle.offer_model.specs.Assortments.{offers, IsBefore}
use Rattle.offer_model.specs.Problems.{ProblemData, product_count}
use Rattle.offer_model.specs.Validity.{IsProblem, IsRatioModel}
use Rattle.offer_model.specs.Limits.{IsFeasible}
use Rattle.offer_model.specs.Nodes.{mark_at, Completes, open_node}
use Rattle.offer_model.specs.Best.{IsBest}
use Rattle.offer_model.proofs.CompletionLemmas.{Completes-set, Completes-open}
use Rattle.offer_model.specs.Revenue.{own_gain, own_weight, revenue_of}
use Rattle.ratio_loop.specs.Earnings.{Earns, IsGreatestRevenue}
use Rattle.ratio_loop.specs.Trials.{EarnsMost}
use Rattle.ratio_loop.specs.Ties.{IsCompletionAt}
use Rattle.ratio_loop.proofs.LoopFacts.{ComesAfter, Leads}
use Rattle.offer_model.proofs.EarningLemmas.{own_weight-positive, ratio_from_earns, earns_from_ratio}
use Rattle.ratio_loop.proofs.TrialLemmas.{EarnsMost-greatest}

-- What comes after still does where an Open product is marked.
ComesAfter-set : (node : List Mark) (y : List Bool) (i : ℕ) (m : Mark) → mark_at node i ≡ Open → ComesAfter node y → ComesAfter (set node i m) y
ComesAfter-set [] y i m e h = h
ComesAfter-set (k ∷ node) [] zero m e h = absurd h
ComesAfter-set (k ∷ node) [] (suc i) m e h = absurd h
ComesAfter-set (In ∷ node) (b ∷ y) zero m e h = cc
ComesAfter-set (Out ∷ node) (b ∷ y) zero m e h = cc
ComesAfter-set (Open ∷ node) (b ∷ y) zero m e h = absurd h
ComesAfter-set (In ∷ node) (true ∷ y) (suc i) m e h = ComesAfter-set node y i m e h
ComesAfter-set (Out ∷ node) (false ∷ y) (suc i) m e h = ComesAfter-set node y i m e h
ComesAfter-set (Out ∷ node) (true ∷ y) (suc i) m e h = tt
ComesAfter-set (In ∷ node) (false ∷ y) (suc i) m e h = absurd h
ComesAfter-set (Open ∷ node) (b ∷ y) (suc i) m e h = absurd h

-- A completion that offers the first Open product comes after where that product is marked Out.
ComesAfter-out : (node : List Mark) (y : List Bool) (i : ℕ) → i < length node → ((k : ℕ) → k < i → mark_at node k ≢ Open)
    → Completes node y → offers y i ≡ true → ComesAfter (set node i Out) y
ComesAfter-out [] y i l h c o = absurd (omega arith)
ComesAfter-out (m ∷ node) [] i l h c o = absurd c
ComesAfter-out (m ∷ node) (true ∷ y) zero l h c o = tt
ComesAfter-out (m ∷ node) (false ∷ y) zero l h c o = cc
ComesAfter-out (In ∷ node) (true ∷ y) (suc i) l h c o = ComesAfter-out node y i (omega arith) (λ k lt. h (suc k) (omega arith)) c.1 o
ComesAfter-out (Out ∷ node) (false ∷ y) (suc i) l h c o = ComesAfter-out node y i (omega arith) (λ k lt. h (suc k) (omega arith)) c.1 o
ComesAfter-out (Open ∷ node) (b ∷ y) (suc i) l h c o = absurd (h 0 (omega arith) refl)
ComesAfter-out (In ∷ node) (false ∷ y) (suc i) l h c o = let e : false ≡ true = c.0 in cc
ComesAfter-out (Out ∷ node) (true ∷ y) (suc i) l h c o = let e : true ≡ false = c.0 in cc

-- Each completion is before what comes after.
ComesAfter-before : (node : List Mark) (x y : List Bool) → Completes node x → ComesAfter node y → IsBefore x y
ComesAfter-before [] x y c h = absurd h
ComesAfter-before (m ∷ node) x [] c h = absurd h
ComesAfter-before (m ∷ node) [] (b ∷ y) c h = absurd c
ComesAfter-before (In ∷ node) (true ∷ x) (true ∷ y) c h = ComesAfter-before node x y c.1 h
ComesAfter-before (Out ∷ node) (false ∷ x) (false ∷ y) c h = ComesAfter-before node x y c.1 h
ComesAfter-before (Out ∷ node) (false ∷ x) (true ∷ y) c h = tt
ComesAfter-before (In ∷ node) (false ∷ x) (true ∷ y) c h = let e : false ≡ true = c.0 in cc
ComesAfter-before (Out ∷ node) (true ∷ x) (b ∷ y) c h = let e : true ≡ false = c.0 in cc
ComesAfter-before (In ∷ node) (b ∷ x) (false ∷ y) c h = absurd h
ComesAfter-before (Open ∷ node) (a ∷ x) (b ∷ y) c h = absurd h

-- Where all products are marked there is one completion.
only_completion : (node : List Mark) (x y : List Bool) → ((k : ℕ) → k < length node → mark_at node k ≢ Open) → Completes node x → Completes node y → y ≡ x
only_completion [] [] [] h c d = refl
only_completion [] (b ∷ x) y h c d = absurd c
only_completion [] [] (b ∷ y) h c d = absurd d
only_completion (m ∷ node) [] y h c d = absurd c
only_completion (m ∷ node) (b ∷ x) [] h c d = absurd d
only_completion (In ∷ node) (a ∷ x) (b ∷ y) h c d =
    let rest = only_completion node x y (λ k l. h (suc k) (omega arith)) c.1 d.1 in
    let e : a ≡ true = c.0 in
    let f : b ≡ true = d.0 in
    rw (rest, e, f) refl
only_completion (Out ∷ node) (a ∷ x) (b ∷ y) h c d =
    let rest = only_completion node x y (λ k l. h (suc k) (omega arith)) c.1 d.1 in
    let e : a ≡ false = c.0 in
    let f : b ≡ false = d.0 in
    rw (rest, e, f) refl
only_completion (Open ∷ node) (a ∷ x) (b ∷ y) h c d = absurd (h 0 (omega arith) refl)

-- ---- What leads.

-- Before the first mark: an assortment that earns most.
pub Leads-first : (p : ProblemData) (at : Fraction) (root : List Mark) (x : List Bool) → EarnsMost p x → at ≡ revenue_of p x
    → root ≡ open_node (product_count p) → Leads p at 0 root x
Leads-first p at root x most own is =
    subst (λ node. Leads p at 0 node x) (sym is) (subst (λ t. Leads p t 0 (open_node (product_count p)) x) (sym own) (record {
      each = length-replicate (product_count p) Open;
      marked = λ k l. absurd (omega arith);
      rest = λ k l h. get_or-replicate (product_count p) k Open Out h;
      own = record { feasible = most.feasible; completes = Completes-open (product_count p) x most.feasible.0; earns = refl };
      others = λ y f t. inl (Completes-open (product_count p) y f.0);
    }))

either_way : (b : Bool) → (b ≡ true) ⊎ (b ≡ false)
either_way true = inl refl
either_way false = inr refl

-- The marks below i and from there on, with the mark m, not Open, at i.
marked_more : (node : List Mark) (i : ℕ) (m : Mark) → i < length node → m ≢ Open → ((k : ℕ) → k < i → mark_at node k ≢ Open)
    → (k : ℕ) → k < i + 1 → mark_at (set node i m) k ≢ Open
marked_more node i m inside settled marked =
    below_more (λ k. mark_at (set node i m) k ≢ Open) i (λ k h. let ne : k ≢ i = omega arith in rw get_or-set_other (marked k h))
    (rw (get_or-set_same node i m Out inside) settled)

rest_less : (node : List Mark) (i n : ℕ) (m : Mark) → ((k : ℕ) → i ≤ k → k < n → mark_at node k ≡ Open)
    → (k : ℕ) → i + 1 ≤ k → k < n → mark_at (set node i m) k ≡ Open
rest_less node i n m rest k l h = let ne : k ≢ i = omega arith in rw get_or-set_other (rest k (omega arith) h)

-- A completion with product i marked Out is there, and leads on.
pub Leads-out : (p : ProblemData) (at : Fraction) (i : ℕ) (node : List Mark) (x z : List Bool) → i < product_count p → Leads p at i node x
    → IsCompletionAt p at (set node i Out) z → Leads p at (i + 1) (set node i Out) z
Leads-out p at i node x z inside lead found = record {
  each = rw length-set lead.each;
  marked = marked_more node i Out within (λ e. cc) lead.marked;
  rest = rest_less node i (product_count p) Out lead.rest;
  own = found;
  others = λ y f t. goes_on y (lead.others y f t);
}
  where
    within : i < length node
    within = let l = lead.each in omega arith

    goes_on : (y : List Bool) → Completes node y ⊎ ComesAfter node y → Completes (set node i Out) y ⊎ ComesAfter (set node i Out) y
    goes_on y (inr after) = inr (ComesAfter-set node y i Out (lead.rest i (omega arith) inside) after)
    goes_on y (inl c) = by_offer (either_way (offers y i))
      where
        by_offer : (offers y i ≡ true) ⊎ (offers y i ≡ false) → Completes (set node i Out) y ⊎ ComesAfter (set node i Out) y
        by_offer (inl o) = inr (ComesAfter-out node y i within lead.marked c o)
        by_offer (inr o) = inl (Completes-set node y i Out c o)

-- x is such a completion where it doesn't offer product i.
pub Leads-left_out : (p : ProblemData) (at : Fraction) (i : ℕ) (node : List Mark) (x : List Bool) → i < product_count p → Leads p at i node x
    → offers x i ≡ false → Leads p at (i + 1) (set node i Out) x
Leads-left_out p at i node x inside lead out =
    Leads-out p at i node x x inside lead
    (let own = lead.own in record { feasible = own.feasible; completes = Completes-set node x i Out own.completes out; earns = own.earns })

-- There is none, and x offers product i.
pub Leads-in : (p : ProblemData) (at : Fraction) (i : ℕ) (node : List Mark) (x : List Bool) → i < product_count p → Leads p at i node x
    → offers x i ≡ true → ((z : List Bool) → IsCompletionAt p at (set node i Out) z → ⊥) → Leads p at (i + 1) (set (set node i Out) i In) x
Leads-in p at i node x inside lead offered none = subst (λ t. Leads p at (i + 1) t x) (sym (set_twice node i In Out)) (record {
  each = rw length-set lead.each;
  marked = marked_more node i In within (λ e. cc) lead.marked;
  rest = rest_less node i (product_count p) In lead.rest;
  own = let own = lead.own in record { feasible = own.feasible; completes = Completes-set node x i In own.completes offered; earns = own.earns };
  others = λ y f t. goes_on y f t (lead.others y f t);
})
  where
    within : i < length node
    within = let l = lead.each in omega arith

    set_twice : (xs : List Mark) (i : ℕ) (a b : Mark) → set (set xs i b) i a ≡ set xs i a
    set_twice [] i a b = refl
    set_twice (x ∷ xs) zero a b = refl
    set_twice (x ∷ xs) (suc i) a b = ap (λ z. x ∷ z) (set_twice xs i a b)

    goes_on : (y : List Bool) → IsFeasible p y → Earns p y at → Completes node y ⊎ ComesAfter node y → Completes (set node i In) y ⊎ ComesAfter (set node i In) y
    goes_on y f t (inr after) = inr (ComesAfter-set node y i In (lead.rest i (omega arith) inside) after)
    goes_on y f t (inl c) = by_offer (either_way (offers y i))
      where
        by_offer : (offers y i ≡ true) ⊎ (offers y i ≡ false) → Completes (set node i In) y ⊎ ComesAfter (set node i In) y
        by_offer (inl o) = inl (Completes-set node y i In c o)
        by_offer (inr o) = absurd (none y (record { feasible = f; completes = Completes-set node y i Out c o; earns = t }))

-- ---- The end.

-- Gain g and weight w of any assortment, g' and w' of one of the greatest revenue num / den: it doesn't earn less.
earns_no_more : (num den g w g' w' : ℕ) → 0 < den → g' * den ≡ num * w' → g * den ≤ num * w → g * w' ≤ g' * w
earns_no_more num den g w g' w' some earns most =
    let a : (g * den) * w' ≤ (num * w) * w' = mul-le-mul_right w' most in
    let b : (g' * den) * w ≡ (num * w') * w = ap (λ t. t * w) earns in
    let c : den * (g * w') ≤ den * (g' * w) = grind arith in
    le_of_mul-le-mul_left c some

-- What doesn't earn less than it has no lower revenue.
no_lower : (num den g w g' w' : ℕ) → 0 < w' → g' * den ≡ num * w' → g' * w ≤ g * w' → num * w ≤ g * den
no_lower num den g w g' w' some earns above =
    let a : den * (g' * w) ≤ den * (g * w') = mul-le-mul_left den above in
    let b : (g' * den) * w ≡ (num * w') * w = ap (λ t. t * w) earns in
    let c : w' * (num * w) ≤ w' * (g * den) = grind arith in
    le_of_mul-le-mul_left c some

-- Once all products are marked, what leads is the best assortment.
pub IsBest-leads : (p : ProblemData) (at : Fraction) (i : ℕ) (node : List Mark) (top x : List Bool) → IsProblem p → IsRatioModel p.model → EarnsMost p top
    → at ≡ revenue_of p top → product_count p ≤ i → Leads p at i node x → IsBest p x
IsBest-leads p at i node top x valid model most is all lead = record {
  feasible = lead.own.feasible;
  most = λ y f more.
      let no_more = earns_no_more at.num at.den (own_gain p y) (own_weight p y) (own_gain p x) (own_weight p x) some lead.own.earns (greatest y f) in
      let above = ratio_from_earns p.model p y x model more in
      omega arith;
  first = λ y f other no_more.
      let no_less = flip _ _ (λ l. no_more (earns_from_ratio p.model p x y model l)) in
      let high = no_lower at.num at.den (own_gain p y) (own_weight p y) (own_gain p x) (own_weight p x) (own_weight-positive p x valid model) lead.own.earns no_less in
      let low = greatest y f in
      pick y other (lead.others y f (omega arith));
}
  where
    greatest : IsGreatestRevenue p at
    greatest = rw is (EarnsMost-greatest p top model most)

    some : 0 < at.den
    some = rw is (own_weight-positive p top valid model)

    flip : (a b : ℕ) → (a < b → ⊥) → b ≤ a
    flip a b h = omega arith

    pick : (y : List Bool) → y ≢ x → Completes node y ⊎ ComesAfter node y → IsBefore x y
    pick y other (inl c) = absurd (other (only_completion node x y (λ k l. let e = lead.each in lead.marked k (omega arith)) lead.own.completes c))
    pick y other (inr after) = ComesAfter-before node x y lead.own.completes after

-- A give between two workers.
use Rattle.std.proofs.Common.{◌≡◌, ◌≢◌, ◌⊎◌, ℕ, suc, ◌+◌, ◌<◌, ◌≤◌, Bool, List, [], ◌∷◌, ◌++◌, length, get_or, set, refl, sym, ap, ◌∙◌, subst, inl, inr, ⊎_elim, arith, add-one}
use Rattle.offer_model.specs.declared.node.Mark.{Mark}
use Rattle.offer_model.specs.Nodes.{Completes}
use Rattle.tree_search.specs.Turns.{Walk, IsSound}
use Rattle.tree_search.specs.Sizes.{node_size, size_of}
use Rattle.tree_search.specs.Gives.{IsGiven}
use Rattle.tree_search.specs.Progress.{CompletesSome}
use Rattle.tree_search.proofs.GiveLemmas.{completes_parts}
use Rattle.worker_rounds.specs.declared.crew.Worker.{Worker}
use Rattle.worker_rounds.specs.Crews.{Each, AnyOf, HasOnStack, HasProducts, HasNodes, HasNoTwoNodes, IsEven, SameButNodes, SharesNodes}
use Rattle.worker_rounds.proofs.ListLemmas.{each_map, each_parts, each_append, each_along, EachOfFirst, first_more, first_set, first_all, first_along}
use Rattle.worker_rounds.proofs.ShareLemmas.{shared_trans}

size_parts : (rest : List (List Mark)) (node : List Mark) → size_of (rest ++ node ∷ []) ≡ size_of rest + node_size node
size_parts [] node = omega arith
size_parts (m ∷ rest) node = let r = size_parts rest node in omega arith

module _ {T : Type 0} where
  abbrev pub with_walker : Worker T → Walk → Worker T
  with_walker w x = record { number = w.number; place = w.place; walker = x; goal = w.goal }

  -- A give between two workers only moves a node.
  pub given_shared : (d o : Worker T) (x z : Walk) → IsGiven d.walker o.walker x z → 2 ≤ length d.walker.stack → o.walker.stack ≡ [] → IsSound x → IsSound z
      → SharesNodes (d ∷ o ∷ []) (with_walker d x ∷ with_walker o z ∷ [])
  given_shared d o x z given two empty sound other_sound = record {
    same = (
      record {
        number = refl;
        place = refl;
        goal = refl;
        best = ap (λ (w : Walk). w.best) given.left;
        products = ap (λ (w : Walk). w.products) given.left;
        sound = λ _. sound;
        some = λ _. donor_some;
        few = λ f. absurd (two_few f);
      },
      (
        record {
          number = refl;
          place = refl;
          goal = refl;
          best = ap (λ (w : Walk). w.best) given.given;
          products = ap (λ (w : Walk). w.products) given.given;
          sound = λ _. other_sound;
          some = λ n. absurd (n empty);
          few = λ _. other_few;
        },
        tt,
      ),
    );
    stacks = by_case;
    sizes =
        let a : size_of x.stack ≡ size_of given.rest = ap (λ (w : Walk). size_of w.stack) given.left in
        let b : size_of z.stack ≡ size_of (given.node ∷ []) = ap (λ (w : Walk). size_of w.stack) given.given in
        let e : size_of d.walker.stack ≡ size_of (given.rest ++ given.node ∷ []) = ap size_of given.bottom in
        let s = size_parts given.rest given.node in
        let n : size_of o.walker.stack ≡ 0 = ap size_of empty in
        omega arith;
  }
    where
      two_few : length d.walker.stack ≤ 1 → ⊥
      two_few f = absurd (omega arith)

      donor_some : x.stack ≢ []
      donor_some e =
          let s : given.rest ≡ [] = ap (λ (w : Walk). w.stack) (sym given.left) ∙ e in
          let l : length d.walker.stack ≡ length (given.rest ++ given.node ∷ []) = ap (λ (m : List (List Mark)). length m) given.bottom in
          let t : length (given.rest ++ given.node ∷ []) ≡ 1 = ap (λ (m : List (List Mark)). length (m ++ given.node ∷ [])) s in
          absurd (omega arith)

      other_few : length z.stack ≤ 1
      other_few = let l : length z.stack ≡ 1 = ap (λ (w : Walk). length w.stack) given.given in omega arith

      to_first : (y : List Bool) → CompletesSome given.rest y → CompletesSome x.stack y
      to_first y c = subst (λ (w : Walk). CompletesSome w.stack y) (sym given.left) c

      to_second : (y : List Bool) → Completes given.node y → CompletesSome z.stack y
      to_second y c = subst (λ (w : Walk). CompletesSome w.stack y) (sym given.given) (inl c)

      by_case : (y : List Bool) → AnyOf (HasOnStack y) (d ∷ o ∷ []) → AnyOf (HasOnStack y) (with_walker d x ∷ with_walker o z ∷ [])
      by_case y (inl c) = ⊎_elim (λ e. inl (to_first y e)) (λ e. inr (inl (to_second y e)))
          (completes_parts y given.rest given.node (subst (λ (s : List (List Mark)). CompletesSome s y) given.bottom c))
      by_case y (inr (inl c)) = absurd (subst (λ (s : List (List Mark)). CompletesSome s y) empty c)
      by_case y (inr (inr c)) = absurd c

  -- A worker that was given a node has one.
  pub given_some : (d o : Worker T) (x z : Walk) → IsGiven d.walker o.walker x z → HasNodes (with_walker o z)
  given_some d o x z given e = let s : given.node ∷ [] ≡ [] = ap (λ (w : Walk). w.stack) (sym given.given) ∙ e in cc

  -- ---- No worker is idle while another has two nodes.

  few_or_some : (w : Worker T) → HasNoTwoNodes w ⊎ HasNodes w
  few_or_some w = by_stack w.walker.stack refl
    where
      by_stack : (s : List (List Mark)) → w.walker.stack ≡ s → HasNoTwoNodes w ⊎ HasNodes w
      by_stack [] e = inl (let l : length w.walker.stack ≡ 0 = ap (λ (m : List (List Mark)). length m) e in omega arith)
      by_stack (m ∷ s) e = inr (λ f. (let g : m ∷ s ≡ [] = sym e ∙ f in cc))

  -- The donor gave, if it had to, to one more.
  pub donor_more : (d e f u : Worker T) (ws : List (Worker T)) (i : ℕ) → i < length ws → HasNoTwoNodes d ⊎ EachOfFirst HasNodes i ws
      → SharesNodes (d ∷ get_or ws i f ∷ []) (e ∷ u ∷ []) → HasNoTwoNodes e ⊎ HasNodes u → HasNoTwoNodes e ⊎ EachOfFirst HasNodes (i + 1) (set ws i u)
  donor_more d e f u ws i l (inl h) s b = inl (s.same.0.few h)
  donor_more d e f u ws i l (inr h) s (inl b) = inl b
  donor_more d e f u ws i l (inr h) s (inr b) = inr (subst (λ (n : ℕ). EachOfFirst HasNodes n (set ws i u)) (sym (add-one i)) (first_set HasNodes i ws u l b h))

  -- The donor gave to all.
  pub donor_all : (n : ℕ) (d : Worker T) (ws : List (Worker T)) → length ws ≤ n → HasNoTwoNodes d ⊎ EachOfFirst HasNodes n ws → HasNoTwoNodes d ⊎ Each HasNodes ws
  donor_all n d ws l (inl h) = inl h
  donor_all n d ws l (inr h) = inr (first_all HasNodes n ws l h)

  -- The donor gave to those in front, and then to those behind.
  pub even_around : (d e : Worker T) (front back new_back : List (Worker T)) → HasNoTwoNodes d ⊎ Each HasNodes front
      → SharesNodes (d ∷ back) (e ∷ new_back) → HasNoTwoNodes e ⊎ Each HasNodes new_back → HasNoTwoNodes e ⊎ Each HasNodes (front ++ e ∷ new_back)
  even_around d e front back new_back (inl f) s b = inl (s.same.0.few f)
  even_around d e front back new_back (inr n) s (inl f) = inl f
  even_around d e front back new_back (inr n) s (inr m) = ⊎_elim inl (λ h. inr (each_append HasNodes front (e ∷ new_back) n (h, m))) (few_or_some e)

  -- Of the first n workers none has two nodes, or each of all has one.
  abbrev pub IsEvenTo : ℕ → List (Worker T) → Type 0
  IsEvenTo n ws = EachOfFirst HasNoTwoNodes n ws ⊎ Each HasNodes ws

  -- The crew is even one worker further, after that worker gave.
  pub even_more : (n : ℕ) (vs front back : List (Worker T)) (e : Worker T) → IsEvenTo n vs → SharesNodes vs (front ++ e ∷ back) → length front ≡ n
      → HasNoTwoNodes e ⊎ Each HasNodes (front ++ e ∷ back) → IsEvenTo (suc n) (front ++ e ∷ back)
  even_more n vs front back e (inr h) s l b = inr (each_along SameButNodes HasNodes HasNodes (λ v w r p. r.some p) vs (front ++ e ∷ back) s.same h)
  even_more n vs front back e (inl h) s l (inr m) = inr m
  even_more n vs front back e (inl h) s l (inl f) = inl (first_more HasNoTwoNodes n front e back l f
      (first_along SameButNodes HasNoTwoNodes HasNoTwoNodes (λ v w r p. r.few p) n vs (front ++ e ∷ back) s.same h))

  -- After the last worker the crew is even.
  pub even_all : (n : ℕ) (ws : List (Worker T)) → length ws ≤ n → IsEvenTo n ws → IsEven ws
  even_all n ws l (inl h) = inl (first_all HasNoTwoNodes n ws l h)
  even_all n ws l (inr h) = inr h

  -- ---- The crew in three parts.

  -- The crew is those in front, the donor, and those behind.
  pub crew_parts : (whole front rest donor back : List (Worker T)) (x : Worker T) → whole ≡ front ++ rest → rest ≡ donor ++ back → length donor ≡ 1
      → whole ≡ front ++ get_or donor 0 x ∷ back
  crew_parts whole front rest [] back x a b l = absurd (omega arith)
  crew_parts whole front rest (d ∷ []) back x a b l = a ∙ ap (λ (r : List (Worker T)). front ++ r) b
  crew_parts whole front rest (d ∷ e ∷ ds) back x a b l = absurd (omega arith)

  set_one : (donor : List (Worker T)) (e : Worker T) → length donor ≡ 1 → set donor 0 e ≡ e ∷ []
  set_one [] e l = absurd (omega arith)
  set_one (d ∷ []) e l = refl
  set_one (d ∷ f ∷ ds) e l = absurd (omega arith)

  -- All have the donor's number of products.
  pub parts_products : (n : ℕ) (whole front back : List (Worker T)) (d : Worker T) → whole ≡ front ++ d ∷ back → Each (HasProducts n) whole
      → Each (HasProducts d.walker.products) front × Each (HasProducts d.walker.products) back
  parts_products n whole front back d is h =
      let p = each_parts (HasProducts n) front (d ∷ back) (subst (λ (l : List (Worker T)). Each (HasProducts n) l) is h) in
      let e : d.walker.products ≡ n = p.1.0 in (
        each_map (HasProducts n) (HasProducts d.walker.products) (λ w f. f ∙ sym e) front p.0,
        each_map (HasProducts n) (HasProducts d.walker.products) (λ w f. f ∙ sym e) back p.1.1,
      )

  -- After the donor gave, the crew is put together again.
  pub shared_parts : (first whole front back new_front new_back donor : List (Worker T)) (d e : Worker T) → SharesNodes first whole → whole ≡ front ++ d ∷ back → length donor ≡ 1
      → SharesNodes (front ++ d ∷ back) (new_front ++ e ∷ new_back) → SharesNodes first (new_front ++ (set donor 0 e ++ new_back))
  shared_parts first whole front back new_front new_back donor d e so is l s =
      let a : SharesNodes first (front ++ d ∷ back) = subst (λ (w : List (Worker T)). SharesNodes first w) is so in
      let b : SharesNodes first (new_front ++ e ∷ new_back) = shared_trans first (front ++ d ∷ back) (new_front ++ e ∷ new_back) a s in
      subst (λ (w : List (Worker T)). SharesNodes first (new_front ++ (w ++ new_back))) (sym (set_one donor e l)) b

  -- The crew is even one worker further.
  pub even_parts : (n : ℕ) (whole front back new_front new_back donor : List (Worker T)) (d e : Worker T) → IsEvenTo n whole → whole ≡ front ++ d ∷ back → length donor ≡ 1
      → length new_front ≡ n → SharesNodes (front ++ d ∷ back) (new_front ++ e ∷ new_back) → HasNoTwoNodes e ⊎ Each HasNodes (new_front ++ e ∷ new_back)
      → IsEvenTo (n + 1) (new_front ++ (set donor 0 e ++ new_back))
  even_parts n whole front back new_front new_back donor d e h is l long s b =
      let a : IsEvenTo n (front ++ d ∷ back) = subst (IsEvenTo n) is h in
      let b' : IsEvenTo (suc n) (new_front ++ e ∷ new_back) = even_more n (front ++ d ∷ back) new_front new_back e a s long b in
      let one = set_one donor e l in
      subst (λ (t : ℕ × List (Worker T)). IsEvenTo t.0 (new_front ++ (t.1 ++ new_back))) (λ k. (sym (add-one n) k, sym one k)) b'

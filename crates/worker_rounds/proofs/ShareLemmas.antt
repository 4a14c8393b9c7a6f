-- What stays when nodes go from stacks to other stacks.
use Rattle.std.proofs.Common.{◌≡◌, ◌⊎◌, ℕ, zero, suc, ◌+◌, ◌<◌, Bool, List, [], ◌∷◌, ◌++◌, length, get_or, set, refl, sym, ap, ◌∙◌, subst, inl, inr, ⊎_elim, arith}
use Rattle.std.specs.Prelude.{pos, Option}
use Rattle.tree_search.specs.Goals.{Rules}
use Rattle.tree_search.specs.Progress.{Reaches}
use Rattle.tree_search.proofs.SizeLemmas.{times, most}
use Rattle.shared_best.specs.Places.{PlaceData}
use Rattle.worker_rounds.specs.declared.crew.Worker.{Worker}
use Rattle.worker_rounds.specs.Rounds.{IsIn}
use Rattle.worker_rounds.specs.Crews.{Each, AnyOf, Pairwise, shares, sizes, HasOnStack, HasClaim, WorkerHas, CoversClaims, HasProducts, SameButNodes, SharesNodes}
use Rattle.worker_rounds.proofs.ListLemmas.{any_map, any_parts, any_front, any_back, any_split, pairwise_append, pairwise_refl, pairwise_trans, each_along, any_along, any_against}
use Rattle.worker_rounds.proofs.MeasureLemmas.{left, weights, lefts, weights_are}

module _ {T : Type 0} where
  same_self : (w : Worker T) → SameButNodes w w
  same_self w = record { number = refl; place = refl; goal = refl; best = refl; products = refl; sound = λ s. s; some = λ s. s; few = λ s. s }

  same_trans : (u v w : Worker T) → SameButNodes u v → SameButNodes v w → SameButNodes u w
  same_trans u v w a b = record {
    number = b.number ∙ a.number;
    place = b.place ∙ a.place;
    goal = b.goal ∙ a.goal;
    best = b.best ∙ a.best;
    products = b.products ∙ a.products;
    sound = λ s. b.sound (a.sound s);
    some = λ s. b.some (a.some s);
    few = λ s. b.few (a.few s);
  }

  -- Nothing given.
  pub same_all : (ws : List (Worker T)) → Pairwise SameButNodes ws ws
  same_all ws = pairwise_refl SameButNodes same_self ws

  sizes_append : (xs ys : List (Worker T)) → sizes (xs ++ ys) ≡ sizes xs + sizes ys
  sizes_append [] ys = omega arith
  sizes_append (x ∷ xs) ys = let r = sizes_append xs ys in omega arith

  -- Nothing given.
  pub shared_self : (ws : List (Worker T)) → SharesNodes ws ws
  shared_self ws = record { same = same_all ws; stacks = λ y a. a; sizes = refl }

  -- Given once more.
  pub shared_trans : (us vs ws : List (Worker T)) → SharesNodes us vs → SharesNodes vs ws → SharesNodes us ws
  shared_trans us vs ws a b = record {
    same = pairwise_trans SameButNodes same_trans us vs ws a.same b.same;
    stacks = λ y h. b.stacks y (a.stacks y h);
    sizes = b.sizes ∙ a.sizes;
  }

  -- Further workers at the end, or in front.
  shared_front : (vs ws xs : List (Worker T)) → SharesNodes vs ws → SharesNodes (vs ++ xs) (ws ++ xs)
  shared_front vs ws xs s = record {
    same = pairwise_append SameButNodes vs ws xs xs s.same (same_all xs);
    stacks = λ y a. ⊎_elim (λ b. any_front (HasOnStack y) ws xs (s.stacks y b)) (λ b. any_back (HasOnStack y) ws xs b) (any_parts (HasOnStack y) vs xs a);
    sizes = let e = s.sizes in let a = sizes_append vs xs in let b = sizes_append ws xs in omega arith;
  }

  shared_back : (xs vs ws : List (Worker T)) → SharesNodes vs ws → SharesNodes (xs ++ vs) (xs ++ ws)
  shared_back xs vs ws s = record {
    same = pairwise_append SameButNodes xs xs vs ws (same_all xs) s.same;
    stacks = λ y a. ⊎_elim (λ b. any_front (HasOnStack y) xs ws b) (λ b. any_back (HasOnStack y) xs ws (s.stacks y b)) (any_parts (HasOnStack y) xs vs a);
    sizes = let e = s.sizes in let a = sizes_append xs vs in let b = sizes_append xs ws in omega arith;
  }

  -- The first of the list stands in the middle.
  shared_middle : (d e : Worker T) (vs ws xs : List (Worker T)) → SharesNodes (d ∷ vs) (e ∷ ws) → SharesNodes (vs ++ d ∷ xs) (ws ++ e ∷ xs)
  shared_middle d e vs ws xs s = record {
    same = pairwise_append SameButNodes vs ws (d ∷ xs) (e ∷ xs) s.same.1 (s.same.0, same_all xs);
    stacks = λ y a. to y (from y (any_parts (HasOnStack y) vs (d ∷ xs) a));
    sizes = let t = s.sizes in let a = sizes_append vs (d ∷ xs) in let b = sizes_append ws (e ∷ xs) in omega arith;
  }
    where
      from : (y : List Bool) → AnyOf (HasOnStack y) vs ⊎ AnyOf (HasOnStack y) (d ∷ xs) → AnyOf (HasOnStack y) (e ∷ ws) ⊎ AnyOf (HasOnStack y) xs
      from y (inl a) = inl (s.stacks y (inr a))
      from y (inr (inl a)) = inl (s.stacks y (inl a))
      from y (inr (inr a)) = inr a

      to : (y : List Bool) → AnyOf (HasOnStack y) (e ∷ ws) ⊎ AnyOf (HasOnStack y) xs → AnyOf (HasOnStack y) (ws ++ e ∷ xs)
      to y (inl (inl a)) = any_back (HasOnStack y) ws (e ∷ xs) (inl a)
      to y (inl (inr a)) = any_front (HasOnStack y) ws (e ∷ xs) a
      to y (inr a) = any_back (HasOnStack y) ws (e ∷ xs) (inr a)

  -- A further one in the second place.
  shared_second : (d e x : Worker T) (vs ws : List (Worker T)) → SharesNodes (d ∷ vs) (e ∷ ws) → SharesNodes (d ∷ x ∷ vs) (e ∷ x ∷ ws)
  shared_second d e x vs ws s = record {
    same = (s.same.0, (same_self x, s.same.1));
    stacks = by_case;
    sizes = let t = s.sizes in omega arith;
  }
    where
      to : (y : List Bool) → AnyOf (HasOnStack y) (e ∷ ws) → AnyOf (HasOnStack y) (e ∷ x ∷ ws)
      to y (inl a) = inl a
      to y (inr a) = inr (inr a)

      by_case : (y : List Bool) → AnyOf (HasOnStack y) (d ∷ x ∷ vs) → AnyOf (HasOnStack y) (e ∷ x ∷ ws)
      by_case y (inl a) = to y (s.stacks y (inl a))
      by_case y (inr (inl a)) = inr (inl a)
      by_case y (inr (inr a)) = to y (s.stacks y (inr a))

  -- The donor gives to the worker at one place.
  pub shared_at : (d e f u : Worker T) (ws : List (Worker T)) (i : ℕ) → i < length ws
      → SharesNodes (d ∷ get_or ws i f ∷ []) (e ∷ u ∷ []) → SharesNodes (d ∷ ws) (e ∷ set ws i u)
  shared_at d e f u [] i l s = absurd (omega arith)
  shared_at d e f u (w ∷ ws) zero l s = shared_front (d ∷ w ∷ []) (e ∷ u ∷ []) ws s
  shared_at d e f u (w ∷ ws) (suc i) l s = shared_second d e w ws (set ws i u) (shared_at d e f u ws i (omega arith) s)

  -- The donor gave to those in front, and then to those behind.
  pub shared_around : (d e f : Worker T) (vs ws xs zs : List (Worker T)) → SharesNodes (d ∷ vs) (e ∷ ws) → SharesNodes (e ∷ xs) (f ∷ zs)
      → SharesNodes (vs ++ d ∷ xs) (ws ++ f ∷ zs)
  shared_around d e f vs ws xs zs a b = shared_trans (vs ++ d ∷ xs) (ws ++ e ∷ xs) (ws ++ f ∷ zs) (shared_middle d e vs ws xs a) (shared_back ws (e ∷ xs) (f ∷ zs) b)

  -- The numbers of products stay.
  pub shared_products : (n : ℕ) (vs ws : List (Worker T)) → SharesNodes vs ws → Each (HasProducts n) vs → Each (HasProducts n) ws
  shared_products n vs ws s e = each_along SameButNodes (HasProducts n) (HasProducts n) (λ v w a h. a.products ∙ h) vs ws s.same e

  shared_lefts : (tasks c : ℕ) (vs ws : List (Worker T)) → Pairwise SameButNodes vs ws → lefts tasks c ws ≡ lefts tasks c vs
  shared_lefts tasks c [] [] p = refl
  shared_lefts tasks c [] (w ∷ ws) p = absurd p
  shared_lefts tasks c (v ∷ vs) [] p = absurd p
  shared_lefts tasks c (v ∷ vs) (w ∷ ws) p =
      let r = shared_lefts tasks c vs ws p.1 in
      let e : times (left tasks w.place.view.claims) c ≡ times (left tasks v.place.view.claims) c = ap (λ (s : PlaceData). times (left tasks s.view.claims) c) p.0.place in
      omega arith

  -- What all may still do stays.
  pub shared_weights : (tasks n : ℕ) (vs ws : List (Worker T)) → SharesNodes vs ws → weights tasks n ws ≡ weights tasks n vs
  shared_weights tasks n vs ws s =
      let a = weights_are tasks n vs in
      let b = weights_are tasks n ws in
      let l = shared_lefts tasks (suc (most n)) vs ws s.same in
      let e = s.sizes in
      omega arith

  -- The shares stay.
  pub shared_shares : (vs ws : List (Worker T)) → Pairwise SameButNodes vs ws → shares ws ≡ shares vs
  shared_shares [] [] p = refl
  shared_shares [] (w ∷ ws) p = absurd p
  shared_shares (v ∷ vs) [] p = absurd p
  shared_shares (v ∷ vs) (w ∷ ws) p =
      let r = shared_shares vs ws p.1 in
      let e : w.place.view.share ≡ v.place.view.share = ap (λ (s : PlaceData). s.view.share) p.0.place in
      omega arith

  same_reaches : (r : Rules) (y : List Bool) (v w : Worker T) → SameButNodes v w
      → Reaches r (pos v.place.view.seen) v.walker.best y → Reaches r (pos w.place.view.seen) w.walker.best y
  same_reaches r y v w s h = subst (λ (t : PlaceData × Option (List Bool)). Reaches r (pos t.0.view.seen) t.1 y) (λ i. (sym s.place i, sym s.best i)) h

  shared_keeps : (r : Rules) (y : List Bool) (vs ws : List (Worker T)) → SharesNodes vs ws → AnyOf (WorkerHas r y) vs → AnyOf (WorkerHas r y) ws
  shared_keeps r y vs ws s a = ⊎_elim
      (λ b. any_map (HasOnStack y) (WorkerHas r y) (λ w c. inl c) ws (s.stacks y b))
      (λ b. any_map (λ w. Reaches r (pos w.place.view.seen) w.walker.best y) (WorkerHas r y) (λ w c. inr c) ws
      (any_along SameButNodes (λ w. Reaches r (pos w.place.view.seen) w.walker.best y) (λ w. Reaches r (pos w.place.view.seen) w.walker.best y) (same_reaches r y) vs ws s.same b))
      (any_split (HasOnStack y) (λ w. Reaches r (pos w.place.view.seen) w.walker.best y) vs a)

  -- What was covered stays covered.
  pub shared_covered : (r : Rules) (vs ws : List (Worker T)) → SharesNodes vs ws → CoversClaims r vs → CoversClaims r ws
  shared_covered r vs ws s h y f k l a c = shared_keeps r y vs ws s
      (h y f k l (any_against SameButNodes (HasClaim k) (HasClaim k) (λ v w e i. subst (λ (t : PlaceData). IsIn k t.view.claims) e.place i) vs ws s.same a) c)

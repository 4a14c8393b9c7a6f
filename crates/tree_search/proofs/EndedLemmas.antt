-- Where all is done, a worker has the top of the goal.
use Rattle.std.proofs.Common.{◌≡◌, ◌⊎◌, zero, suc, Bool, Option, Some, None, List, [], ◌∷◌, length, refl, sym, ◌∙◌, subst, inl, inr, ⊎_elim, arith}
use Rattle.std.specs.Prelude.{◌<ℤ◌}
use Rattle.std.specs.List.{All, Any}
use Rattle.std.proofs.lemmas.Int.{ints}
use Rattle.std.proofs.lemmas.List.Elements.{All-nil, All-cons, All-head, All-tail, All-weaker}
use Rattle.offer_model.specs.Assortments.{IsBefore}
use Rattle.tree_search.specs.Goals.{Rules, IsFeasibleFor}
use Rattle.tree_search.specs.Progress.{CompletesSome, Covers, IsFeasibleBest}
use Rattle.tree_search.specs.Worlds.{WorkerData, WorldData, IsEnded}
use Rattle.tree_search.specs.Covered.{IsLeftFor, HoldsFor, IsToldOf, IsCoveredWorker, Covered, HasValuesFromZero, HasTop}
use Rattle.tree_search.proofs.OrderLemmas.{before_total}
use Rattle.tree_search.proofs.CoverLemmas.{covers_trans}
use Rattle.tree_search.proofs.RunLemmas.{covers_top}

-- ---- Some worker of a list.

any_here : (P : WorkerData → Type 0) (u : WorkerData) (us : List WorkerData) → P u → Any P (u ∷ us)
any_here P u us p = (0, u, omega arith, refl, p)

any_later : (P : WorkerData → Type 0) (u : WorkerData) (us : List WorkerData) → Any P us → Any P (u ∷ us)
any_later P u us a = (suc a.0, a.1, (let l = a.2 in omega arith), a.3, a.4)

any_parts : (P : WorkerData → Type 0) (u : WorkerData) (us : List WorkerData) → Any P (u ∷ us) → P u ⊎ Any P us
any_parts P u us (zero, v, l, e, p) = inl (subst P (sym e) p)
any_parts P u us (suc k, v, l, e, p) = inr (k, v, omega arith, e, p)

any_with : (P Q R : WorkerData → Type 0) (us : List WorkerData) → ((u : WorkerData) → P u → Q u → R u) → All P us → Any Q us → Any R us
any_with P Q R us f h a = (a.0, a.1, a.2, a.3, f a.1 (subst P a.3 (h a.0 a.1 a.2)) a.4)

module _ (r : Rules) where
  -- Of two assortments one covers the other.

  covers_or : (x y : List Bool) → length x ≡ length y → Covers r (Some x) y ⊎ Covers r (Some y) x
  covers_or x y l = by_value (grind (arith, ints)) (before_total x y l)
    where
      by_order : r.value x ≡ r.value y → (x ≡ y) ⊎ (IsBefore x y ⊎ IsBefore y x) → Covers r (Some x) y ⊎ Covers r (Some y) x
      by_order e (inl s) = inl (inl s)
      by_order e (inr (inl b)) = inl (inr (inr (e, b)))
      by_order e (inr (inr b)) = inr (inr (inr (sym e, b)))

      by_value : (r.value y <ℤ r.value x) ⊎ ((r.value x <ℤ r.value y) ⊎ (r.value x ≡ r.value y)) → (x ≡ y) ⊎ (IsBefore x y ⊎ IsBefore y x)
          → Covers r (Some x) y ⊎ Covers r (Some y) x
      by_value (inl m) o = inl (inr (inl m))
      by_value (inr (inl m)) o = inr (inr (inl m))
      by_value (inr (inr e)) o = by_order e o

  -- ---- The best of all workers' bests.

  abbrev Does : List Bool → WorkerData → Type 0
  Does y u = Covers r u.best y

  abbrev Nothing : WorkerData → Type 0
  Nothing u = u.best ≡ None

  abbrev Feasible : WorkerData → Type 0
  Feasible u = IsFeasibleBest r u.best

  abbrev HasGreatest : List WorkerData → Type 0
  HasGreatest us = (x : List Bool) × IsFeasibleFor r x × Any (λ u. u.best ≡ Some x) us × ((y : List Bool) → Any (Does y) us → Covers r (Some x) y)

  none_does : (y : List Bool) (us : List WorkerData) → All Nothing us → Any (Does y) us → ⊥
  none_does y us n a =
      let e = subst Nothing a.3 (n a.0 a.1 a.2) in
      subst (λ (b : Option (List Bool)). Covers r b y) e a.4

  module _ (u : WorkerData) (us : List WorkerData) where
    does_by : (b : Option (List Bool)) → u.best ≡ b → (y : List Bool) → Does y u → Covers r b y
    does_by b e y c = subst (λ (o : Option (List Bool)). Covers r o y) e c

    greatest_of : (b : Option (List Bool)) → u.best ≡ b → IsFeasibleBest r b → HasGreatest us ⊎ All Nothing us → HasGreatest (u ∷ us) ⊎ All Nothing (u ∷ us)
    greatest_of None e f (inl t) =
        inl (t.0, t.1, any_later (λ v. v.best ≡ Some t.0) u us t.2, λ y a. ⊎_elim (λ c. absurd (does_by None e y c)) (t.3 y) (any_parts (Does y) u us a))
    greatest_of None e f (inr n) = inr (All-cons Nothing u us e n)
    greatest_of (Some b) e f (inr n) =
        inl (b, f, any_here (λ v. v.best ≡ Some b) u us e, λ y a. ⊎_elim (does_by (Some b) e y) (λ m. absurd (none_does y us n m)) (any_parts (Does y) u us a))
    greatest_of (Some b) e f (inl t) = ⊎_elim
        (λ k. inl (
          b,
          f,
          any_here (λ v. v.best ≡ Some b) u us e,
          λ y a. ⊎_elim (does_by (Some b) e y) (λ m. covers_trans r t.0 y (Some b) k (t.3 y m)) (any_parts (Does y) u us a),
        ))
        (λ k. inl (
          t.0,
          t.1,
          any_later (λ v. v.best ≡ Some t.0) u us t.2,
          λ y a. ⊎_elim (λ c. covers_trans r b y (Some t.0) k (does_by (Some b) e y c)) (t.3 y) (any_parts (Does y) u us a),
        ))
        (covers_or b t.0 (f.0 ∙ sym t.1.0))

  greatest : (us : List WorkerData) → All Feasible us → HasGreatest us ⊎ All Nothing us
  greatest [] h = inr (All-nil Nothing)
  greatest (u ∷ us) h = greatest_of u us u.best refl (All-head Feasible u us h) (greatest us (All-tail Feasible u us h))

  -- ---- An ended world.

  module _ (zero_up : HasValuesFromZero r) (s : WorldData) (end : IsEnded s) (cov : Covered r s) where
    idle_does : (y : List Bool) (u : WorkerData) → u.stack ≡ [] → HoldsFor r y u → Does y u
    idle_does y u e (inl c) = absurd (subst (λ st. CompletesSome st y) e c)
    idle_does y u e (inr c) = c

    told_does : (y : List Bool) → IsFeasibleFor r y → r.value y <ℤ s.shared → (u : WorkerData) → IsCoveredWorker r s.shared u → u.told ≡ s.shared → Does y u
    told_does y f low u k e = by_best u.best k.reached
      where
        by_best : (b : Option (List Bool)) → IsToldOf r b u.told → Covers r b y
        by_best None z = let v = zero_up y f.0 in absurd (omega (arith, ints))
        by_best (Some b) (inl z) = let v = zero_up y f.0 in absurd (omega (arith, ints))
        by_best (Some b) (inr h) = inr (inl (omega (arith, ints)))

    someone_does : (y : List Bool) → IsFeasibleFor r y → Any (Does y) s.workers
    someone_does y f = by_part (cov.each y f)
      where
        by_part : IsLeftFor r s y ⊎ (Any (HoldsFor r y) s.workers ⊎ (r.value y <ℤ s.shared)) → Any (Does y) s.workers
        by_part (inl t) = let a = t.1 in let b = t.2 in let e = end.0 in absurd (omega arith)
        by_part (inr (inl a)) = any_with (λ u. u.stack ≡ []) (HoldsFor r y) (Does y) s.workers (idle_does y) end.1 a
        by_part (inr (inr low)) = ⊎_elim (λ z. (let v = zero_up y f.0 in absurd (omega (arith, ints))))
            (λ a. any_with (IsCoveredWorker r s.shared) (λ u. u.told ≡ s.shared) (Does y) s.workers (told_does y f low) cov.workers a) cov.shared

    -- An ended world in which nothing is lost has the top of the goal.
    pub ended_has_top : HasTop r s
    ended_has_top = ⊎_elim
        (λ t. inl (t.0, covers_top r (Some t.0) t.1 (λ y f. t.3 y (someone_does y f)), t.2))
        (λ n. inr ((λ y f. none_does y s.workers n (someone_does y f)), n))
        (greatest s.workers (All-weaker (IsCoveredWorker r s.shared) Feasible (λ u k. k.best) s.workers cov.workers))

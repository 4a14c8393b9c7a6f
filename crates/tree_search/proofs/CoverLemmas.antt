-- One turn loses no feasible assortment.
use Rattle.std.proofs.Common.{◌≡◌, ◌⊎◌, ℕ, Bool, Option, Some, None, List, [], ◌∷◌, length, refl, sym, ap, ◌∙◌, subst, inl, inr, ⊎_elim, arith}
use Rattle.std.specs.Prelude.{ℤ, ◌<ℤ◌, ◌≤ℤ◌, slice_set}
use Rattle.std.specs.List.{All}
use Rattle.std.proofs.lemmas.Int.{ints}
use Rattle.offer_model.specs.declared.node.Mark.{Mark}
use Rattle.offer_model.specs.declared.node.Mark.TheVariants.{In, Out}
use Rattle.offer_model.specs.Assortments.{IsBefore}
use Rattle.offer_model.specs.Nodes.{Completes, fill_of}
use Rattle.offer_model.proofs.TieLemmas.{tie}
use Rattle.tree_search.specs.Goals.{Rules, IsLawful, IsOpenOf, IsBetter, IsFeasibleFor}
use Rattle.tree_search.specs.Turns.{Walk, IsBeaten, IsDropped, IsOutcome, IsBestAfter, IsTaken, Turn, IsSound, least, HasBoundInRange}
use Rattle.tree_search.specs.Progress.{CompletesSome, Covers, Matches, HasBy, Has, Reaches, IsFeasibleBest, IsOwn, IsReached}
use Rattle.tree_search.proofs.OrderLemmas.{before_total, fill_only, divided, better_trans}
use Rattle.offer_model.proofs.NodeLemmas.{length-fill_of}

module _ (r : Rules) where
  best_long : (best : Option (List Bool)) → IsFeasibleBest r best → (x : List Bool) → best ≡ Some x → length x ≡ r.products
  best_long best f x e = (subst (IsFeasibleBest r) e f).0

  -- A best that beats a node covers each of its completions whose value is at most the bound.
  beaten_covers : (best : Option (List Bool)) (node : List Mark) (y : List Bool) → Completes node y → length node ≡ r.products → r.value y ≤ℤ r.bound node
      → IsFeasibleBest r best → IsBeaten r best node → Covers r best y
  beaten_covers None node y c l v f e = absurd e
  beaten_covers (Some b) node y c l v f (inl low) = inr (inl (omega (arith, ints)))
  beaten_covers (Some b) node y c l v f (inr same) = ⊎_elim (λ e. inl (sym e)) (λ h. inr (as_good h)) (tie node b y c (f.0 ∙ sym l) same.1)
    where
      as_good : IsBefore b y → IsBetter r b y
      as_good h = let s = same.0 in by_value (grind (arith, ints))
        where
          by_value : (r.value y <ℤ r.value b) ⊎ (r.value b ≡ r.value y) → IsBetter r b y
          by_value (inl a) = inl a
          by_value (inr a) = inr (a, h)

  -- A bound below the number seen is below the best.
  seen_covers : (best : Option (List Bool)) (seen : ℤ) (node : List Mark) (y : List Bool) → IsOwn r best seen → r.value y ≤ℤ r.bound node
      → r.bound node <ℤ seen → least ≤ℤ r.bound node → Covers r best y
  seen_covers None seen node y s v l f = absurd (omega (arith, ints))
  seen_covers (Some b) seen node y s v l f = inr (inl (omega (arith, ints)))

  -- The best after x is met covers x.
  pub met_covers : (old new : Option (List Bool)) (x : List Bool) → length x ≡ r.products → IsFeasibleBest r old → IsBestAfter r x old new → Covers r new x
  met_covers old new x l f (inl t) = subst (λ (b : Option (List Bool)). Covers r b x) (sym t.1) (inl refl)
  met_covers None new x l f (inr t) = absurd (t.0 tt)
  met_covers (Some b) new x l f (inr t) = subst (λ (o : Option (List Bool)). Covers r o x) (sym t.1) (no_better t.0)
    where
      by_order : (IsBetter r x b → ⊥) → r.value x ≡ r.value b → (x ≡ b) ⊎ (IsBefore x b ⊎ IsBefore b x) → Covers r (Some b) x
      by_order n e (inl s) = inl (sym s)
      by_order n e (inr (inl h)) = absurd (n (inr (e, h)))
      by_order n e (inr (inr h)) = inr (inr (sym e, h))

      by_value : (IsBetter r x b → ⊥) → (r.value x <ℤ r.value b) ⊎ ((r.value b <ℤ r.value x) ⊎ (r.value x ≡ r.value b)) → Covers r (Some b) x
      by_value n (inl a) = inr (inl a)
      by_value n (inr (inl a)) = absurd (n (inl a))
      by_value n (inr (inr e)) = by_order n e (before_total x b (l ∙ sym f.0))

      no_better : (IsBetter r x b → ⊥) → Covers r (Some b) x
      no_better n = by_value n (grind (arith, ints))

  -- What the old best covered stays covered.
  pub covers_grown : (old new : Option (List Bool)) (x y : List Bool) → IsBestAfter r x old new → Covers r old y → Covers r new y
  covers_grown old new x y (inr t) c = subst (λ (b : Option (List Bool)). Covers r b y) (sym t.1) c
  covers_grown None new x y (inl t) c = absurd c
  covers_grown (Some b) new x y (inl t) (inl s) = subst (λ (o : Option (List Bool)). Covers r o y) (sym t.1) (inr (subst (λ (z : List Bool). IsBetter r x z) s t.0))
  covers_grown (Some b) new x y (inl t) (inr s) = subst (λ (o : Option (List Bool)). Covers r o y) (sym t.1) (inr (better_trans r x b y t.0 s))

  -- Where the old best and x are feasible, so is the new best.
  pub met_feasible : (old new : Option (List Bool)) (x : List Bool) → IsFeasibleBest r old → IsFeasibleFor r x → IsBestAfter r x old new → IsFeasibleBest r new
  met_feasible old new x p q (inl t) = subst (IsFeasibleBest r) (sym t.1) q
  met_feasible old new x p q (inr t) = subst (IsFeasibleBest r) (sym t.1) p

  -- What covers an assortment covers what that one covers.
  pub covers_trans : (x y : List Bool) (best : Option (List Bool)) → Covers r best x → Covers r (Some x) y → Covers r best y
  covers_trans x y None c d = absurd c
  covers_trans x y (Some b) (inl e) d = subst (λ (z : List Bool). Covers r (Some z) y) (sym e) d
  covers_trans x y (Some b) (inr l) (inl e) = inr (subst (λ (z : List Bool). IsBetter r b z) e l)
  covers_trans x y (Some b) (inr l) (inr m) = inr (better_trans r b x y l m)

  -- What is covered is worth no more.
  pub covers_value : (x y : List Bool) → Covers r (Some x) y → r.value y ≤ℤ r.value x
  covers_value x y (inl e) = let s = ap r.value e in omega (arith, ints)
  covers_value x y (inr (inl l)) = omega (arith, ints)
  covers_value x y (inr (inr l)) = let s = l.0 in omega (arith, ints)

  -- ---- The same of matching, which asks for less.

  beaten_matches : (floor : ℤ) (best : Option (List Bool)) (node : List Mark) (y : List Bool) → r.value y ≤ℤ r.bound node → IsBeaten r best node
      → Matches r floor best y
  beaten_matches floor None node y v e = absurd e
  beaten_matches floor (Some b) node y v (inl low) = inl (omega (arith, ints))
  beaten_matches floor (Some b) node y v (inr same) = let s = same.0 in inl (omega (arith, ints))

  -- What a bound below the number seen bounds is below the floor, or worth no more than the best.
  seen_matches : (floor : ℤ) (best : Option (List Bool)) (seen : ℤ) (node : List Mark) (y : List Bool) → IsReached r floor best seen
      → r.value y ≤ℤ r.bound node → r.bound node <ℤ seen → Matches r floor best y
  seen_matches floor None seen node y s v l = omega (arith, ints)
  seen_matches floor (Some b) seen node y (inl s) v l = inr (omega (arith, ints))
  seen_matches floor (Some b) seen node y (inr s) v l = inl (omega (arith, ints))

  met_matches : (floor : ℤ) (old new : Option (List Bool)) (x : List Bool) → length x ≡ r.products → IsFeasibleBest r old → IsBestAfter r x old new
      → Matches r floor new x
  met_matches floor old new x l f (inl t) = subst (λ (b : Option (List Bool)). Matches r floor b x) (sym t.1) (inl (omega (arith, ints)))
  met_matches floor None new x l f (inr t) = absurd (t.0 tt)
  met_matches floor (Some b) new x l f (inr t) = subst (λ (o : Option (List Bool)). Matches r floor o x) (sym t.1) (inl (no_better t.0))
    where
      by_value : (IsBetter r x b → ⊥) → (r.value b <ℤ r.value x) ⊎ (r.value x ≤ℤ r.value b) → r.value x ≤ℤ r.value b
      by_value n (inl a) = absurd (n (inl a))
      by_value n (inr a) = a

      no_better : (IsBetter r x b → ⊥) → r.value x ≤ℤ r.value b
      no_better n = by_value n (grind (arith, ints))

  grown_matches : (floor : ℤ) (old new : Option (List Bool)) (x y : List Bool) → IsBestAfter r x old new → Matches r floor old y → Matches r floor new y
  grown_matches floor old new x y (inr t) c = subst (λ (b : Option (List Bool)). Matches r floor b y) (sym t.1) c
  grown_matches floor None new x y (inl t) c = subst (λ (o : Option (List Bool)). Matches r floor o y) (sym t.1) (inr c)
  grown_matches floor (Some b) new x y (inl t) (inr c) = subst (λ (o : Option (List Bool)). Matches r floor o y) (sym t.1) (inr c)
  grown_matches floor (Some b) new x y (inl t) (inl c) = subst (λ (o : Option (List Bool)). Matches r floor o y) (sym t.1) (inl (more t.0))
    where
      more : IsBetter r x b → r.value y ≤ℤ r.value x
      more (inl a) = omega (arith, ints)
      more (inr a) = let s = a.0 in omega (arith, ints)

  -- What a best does for assortments: for each that is met, and still after a better one is.
  pub record Keeps (Does : Option (List Bool) → List Bool → Type 0) : Type 0 where
    pub met : (old new : Option (List Bool)) (x : List Bool) → length x ≡ r.products → IsFeasibleBest r old → IsBestAfter r x old new → Does new x
    pub grown : (old new : Option (List Bool)) (x y : List Bool) → IsBestAfter r x old new → Does old y → Does new y

  covers_keeps : Keeps (Covers r)
  covers_keeps = record { met = met_covers; grown = covers_grown }

  matches_keeps : (floor : ℤ) → Keeps (Matches r floor)
  matches_keeps floor = record { met = met_matches floor; grown = grown_matches floor }

  -- ---- The same of covering, or being worth less than a number seen.

  reaches_grown : (seen : ℤ) (old new : Option (List Bool)) (x y : List Bool) → IsBestAfter r x old new → Reaches r seen old y → Reaches r seen new y
  reaches_grown seen old new x y t (inl c) = inl (covers_grown old new x y t c)
  reaches_grown seen old new x y t (inr l) = inr l

  pub reaches_keeps : (seen : ℤ) → Keeps (Reaches r seen)
  reaches_keeps seen = record { met = λ old new x l f t. inl (met_covers old new x l f t); grown = reaches_grown seen }

  module _ (law : IsLawful r) (seen : ℤ) (old new : Walk) (feasible : IsFeasibleBest r old.best) (node : List Mark) (rest : List (List Mark))
      (top : old.stack ≡ node ∷ rest) (long : length node ≡ r.products) where
    -- The best covers each feasible completion of a node that is dropped, where the number seen is the best's value.
    dropped_covers : (y : List Bool) → Completes node y → r.Feasible y → IsOwn r old.best seen → HasBoundInRange r old.stack
        → IsDropped r seen old.best node → Covers r old.best y
    dropped_covers y c f own range d =
        by_case (law.bounded node y long c f) (λ k. law.clashing node y long k c f) d
      where
        by_case : r.value y ≤ℤ r.bound node → (r.Clashing node → ⊥) → IsDropped r seen old.best node → Covers r old.best y
        by_case v free (inl k) = absurd (free k)
        by_case v free (inr (inl l)) = seen_covers old.best seen node y own v l (subst (HasBoundInRange r) top range free)
        by_case v free (inr (inr b)) = beaten_covers old.best node y c long v feasible b

    -- The best covers them, or they are worth less than a number seen, whatever that number is.
    pub dropped_reaches : (y : List Bool) → Completes node y → r.Feasible y → IsDropped r seen old.best node → Reaches r seen old.best y
    dropped_reaches y c f d = by_case (law.bounded node y long c f) (λ k. law.clashing node y long k c f) d
      where
        by_case : r.value y ≤ℤ r.bound node → (r.Clashing node → ⊥) → IsDropped r seen old.best node → Reaches r seen old.best y
        by_case v free (inl k) = absurd (free k)
        by_case v free (inr (inl l)) = inr (omega (arith, ints))
        by_case v free (inr (inr b)) = inl (beaten_covers old.best node y c long v feasible b)

    -- The best matches them, where the number seen is at most the floor, or one more than the best's value.
    dropped_matches : (floor : ℤ) (y : List Bool) → Completes node y → r.Feasible y → IsReached r floor old.best seen → IsDropped r seen old.best node
        → Matches r floor old.best y
    dropped_matches floor y c f reached d =
        by_case (law.bounded node y long c f) (λ k. law.clashing node y long k c f) d
      where
        by_case : r.value y ≤ℤ r.bound node → (r.Clashing node → ⊥) → IsDropped r seen old.best node → Matches r floor old.best y
        by_case v free (inl k) = absurd (free k)
        by_case v free (inr (inl l)) = seen_matches floor old.best seen node y reached v l
        by_case v free (inr (inr b)) = beaten_matches floor old.best node y v b

    module _ (Does : Option (List Bool) → List Bool → Type 0) (keeps : Keeps Does) (y : List Bool) where
      taken_has : (o : Option ℕ) → IsOpenOf node o → IsTaken r old node rest o new → CompletesSome (node ∷ rest) y ⊎ Does old.best y → HasBy Does new y
      taken_has None full t (inl (inl c)) = inr (subst (Does new.best) (fill_only node y full c) (keeps.met old.best new.best (fill_of node) (length-fill_of node ∙ long)
          feasible t.1))
      taken_has None full t (inl (inr c)) = inl (subst (λ (s : List (List Mark)). CompletesSome s y) (sym t.0) c)
      taken_has None full t (inr c) = inr (keeps.grown old.best new.best (fill_of node) y t.1 c)
      taken_has (Some i) is t h = subst (λ (w : Walk). HasBy Does w y) (sym t) (split h)
        where
          split : CompletesSome (node ∷ rest) y ⊎ Does old.best y
              → CompletesSome (slice_set node i In ∷ slice_set node i Out ∷ rest) y ⊎ Does old.best y
          split (inl (inl c)) = ⊎_elim (λ d. inl (inl d)) (λ d. inl (inr (inl d))) (divided node y i c)
          split (inl (inr c)) = inl (inr (inr c))
          split (inr c) = inr c

      pub turned_has : (Completes node y → IsDropped r seen old.best node → Does old.best y) → IsOutcome r seen old node rest new
          → CompletesSome (node ∷ rest) y ⊎ Does old.best y → HasBy Does new y
      turned_has dropped (inl d) h = subst (λ (w : Walk). HasBy Does w y) (sym d.1) (below h)
        where
          below : CompletesSome (node ∷ rest) y ⊎ Does old.best y → CompletesSome rest y ⊎ Does old.best y
          below (inl (inl c)) = inr (dropped c d.0)
          below (inl (inr c)) = inl c
          below (inr c) = inr c
      turned_has dropped (inr t) h = taken_has (r.next node) (law.next node long) t.1 h

    taken_feasible : (o : Option ℕ) → IsOpenOf node o → (r.Clashing node → ⊥) → IsTaken r old node rest o new → IsFeasibleBest r new.best
    taken_feasible None full free t = met_feasible old.best new.best (fill_of node) feasible (length-fill_of node ∙ long, law.full node long full free) t.1
    taken_feasible (Some i) is free t = subst (λ (w : Walk). IsFeasibleBest r w.best) (sym t) feasible

    pub turned_feasible : IsOutcome r seen old node rest new → IsFeasibleBest r new.best
    turned_feasible (inl d) = subst (λ (w : Walk). IsFeasibleBest r w.best) (sym d.1) feasible
    turned_feasible (inr t) = taken_feasible (r.next node) (law.next node long) (λ k. t.0 (inl k)) t.1

  taken_grown : (old new : Walk) (node : List Mark) (rest : List (List Mark)) (o : Option ℕ) (y : List Bool) → IsTaken r old node rest o new
      → Covers r old.best y → Covers r new.best y
  taken_grown old new node rest None y t c = covers_grown old.best new.best (fill_of node) y t.1 c
  taken_grown old new node rest (Some i) y t c = subst (λ (w : Walk). Covers r w.best y) (sym t) c

  -- What the best covers before a turn it covers after it.
  pub turn_grown : (seen : ℤ) (old new : Walk) → Turn r seen old new → (y : List Bool) → Covers r old.best y → Covers r new.best y
  turn_grown seen old new turn y c = ⊎_elim (λ d. subst (λ (w : Walk). Covers r w.best y) (sym d.1) c)
      (λ t. taken_grown old new turn.node turn.rest (r.next turn.node) y t.1 c) turn.outcome

  -- ---- A walker's turn.

  pub top_long : (w : Walk) (node : List Mark) (rest : List (List Mark)) → w.stack ≡ node ∷ rest → w.products ≡ r.products → IsSound w → length node ≡ r.products
  top_long w node rest e p s =
      let h = subst (λ (st : List (List Mark)). All (λ (m : List Mark). length m ≡ w.products) st) e s.nodes in
      h 0 [] (omega arith) ∙ p

  module _ (law : IsLawful r) (seen : ℤ) (old new : Walk) (turn : Turn r seen old new) (p : old.products ≡ r.products) (sound : IsSound old)
      (feasible : IsFeasibleBest r old.best) where
    pub turn_has : (y : List Bool) → r.Feasible y → IsOwn r old.best seen → HasBoundInRange r old.stack → Has r old y → Has r new y
    turn_has y f own range h =
        let long = top_long old turn.node turn.rest turn.top p sound in
        turned_has law seen old new feasible turn.node turn.rest turn.top long (Covers r) covers_keeps y
        (λ c d. dropped_covers law seen old new feasible turn.node turn.rest turn.top long y c f own range d) turn.outcome
        (subst (λ (s : List (List Mark)). CompletesSome s y ⊎ Covers r old.best y) turn.top h)

    pub turn_matches : (floor : ℤ) (y : List Bool) → r.Feasible y → IsReached r floor old.best seen → HasBy (Matches r floor) old y
        → HasBy (Matches r floor) new y
    turn_matches floor y f reached h =
        let long = top_long old turn.node turn.rest turn.top p sound in
        turned_has law seen old new feasible turn.node turn.rest turn.top long (Matches r floor) (matches_keeps floor) y
        (λ c d. dropped_matches law seen old new feasible turn.node turn.rest turn.top long floor y c f reached d) turn.outcome
        (subst (λ (s : List (List Mark)). CompletesSome s y ⊎ Matches r floor old.best y) turn.top h)

    -- A turn with any number seen loses only assortments that are worth less than it.
    pub turn_reaches : (y : List Bool) → r.Feasible y → HasBy (Reaches r seen) old y → HasBy (Reaches r seen) new y
    turn_reaches y f h =
        let long = top_long old turn.node turn.rest turn.top p sound in
        turned_has law seen old new feasible turn.node turn.rest turn.top long (Reaches r seen) (reaches_keeps seen) y
        (λ c d. dropped_reaches law seen old new feasible turn.node turn.rest turn.top long y c f d) turn.outcome
        (subst (λ (s : List (List Mark)). CompletesSome s y ⊎ Reaches r seen old.best y) turn.top h)

    pub turn_feasible : IsFeasibleBest r new.best
    turn_feasible = turned_feasible law seen old new feasible turn.node turn.rest turn.top (top_long old turn.node turn.rest turn.top p sound) turn.outcome

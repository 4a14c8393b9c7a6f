-- Each event keeps what is covered, and the start has it.
use Rattle.std.proofs.Common.{◌≡◌, ◌≢◌, ◌⊎◌, ℕ, ◌+◌, ◌<◌, ◌≤◌, Bool, true, false, cond, Option, Some, None, List, [], ◌∷◌, ◌++◌, length, get_or, set, refl, sym, ap, ◌∙◌, subst, inl, inr, ⊎_elim, length-set, arith}
use Rattle.std.specs.Prelude.{ℤ, pos, ◌≤ℤ◌, ◌<ℤ◌, int_lt}
use Rattle.std.specs.List.{All, Any}
use Rattle.std.specs.Int.{int_max}
use Rattle.std.proofs.lemmas.Int.{ints, clamps}
use Rattle.std.proofs.lemmas.List.{get_or-set_other}
use Rattle.std.proofs.lemmas.List.Elements.{All-set, All-weaker, All-replicate}
use Rattle.std.proofs.lemmas.List.Quantifiers.{any-set}
use mathlib.Core.Logic.{dite}
use native.Mathlib.Decide.{ℕ_discrete}
use Rattle.offer_model.specs.declared.node.Mark.{Mark}
use Rattle.offer_model.specs.Nodes.{Completes, open_node}
use Rattle.offer_model.proofs.ListLemmas.{get_or-any}
use Rattle.offer_model.proofs.CompletionLemmas.{Completes-open}
use Rattle.tree_search.specs.declared.event.Event.{Event}
use Rattle.tree_search.specs.declared.event.Event.TheVariants.{Take, Look, Work, Tell, Give}
use Rattle.tree_search.specs.Goals.{Rules, IsLawful, IsFeasibleFor}
use Rattle.tree_search.specs.Tasks.{depth_of, tasks_of, task_of}
use Rattle.tree_search.specs.Turns.{Walk, Turn}
use Rattle.tree_search.specs.Progress.{CompletesSome, Covers, Reaches}
use Rattle.tree_search.specs.Worlds.{WorkerData, WorldData, new_worker, start_of, worker_at, with_nodes, with_seen, with_told, walk_at, with_walk, IsTurned, with_worker, IsPossible, LeadsTo, Happens, Runs, IsWorkerOf, IsWorldOf}
use Rattle.tree_search.specs.Covered.{IsLeftFor, HoldsFor, IsToldOf, IsCoveredWorker, Covered}
use Rattle.tree_search.proofs.CoverLemmas.{covers_value, reaches_keeps, dropped_reaches, turned_has, turned_feasible, turn_grown}
use Rattle.tree_search.proofs.GiveLemmas.{completes_parts}
use Rattle.tree_search.proofs.TaskLemmas.{tasks_cover}
use Rattle.tree_search.proofs.WorldLemmas.{worker_is, happens_of, start_is}

-- ---- A list of workers, one of which changes.

-- What some worker had, some worker has after the change, or R holds.
any_after : (P Q : WorkerData → Type 0) (R : Type 0) (xs : List WorkerData) (i : ℕ) (v : WorkerData) → i < length xs
    → (P (get_or xs i new_worker) → Q v ⊎ R) → ((u : WorkerData) → P u → Q u) → Any P xs → Any Q (set xs i v) ⊎ R
any_after P Q R xs i v l here more a = dite (ℕ_discrete a.0 i) (λ e. at e) (λ n. else n)
  where
    at : a.0 ≡ i → Any Q (set xs i v) ⊎ R
    at e =
        let same : a.1 ≡ get_or xs i new_worker = sym a.3 ∙ (ap (λ (k : ℕ). get_or xs k a.1) e ∙ get_or-any xs i new_worker a.1 l) in
        ⊎_elim (λ q. inl (any-set Q xs i v l q)) inr (here (subst P same a.4))

    else : a.0 ≢ i → Any Q (set xs i v) ⊎ R
    else n =
        let inside : a.0 < length (set xs i v) = let e = length-set xs i v in let m = a.2 in omega arith in
        inl (a.0, a.1, inside, get_or-set_other xs i a.0 v a.1 n ∙ a.3, more a.1 a.4)

abbrev HasTold : ℤ → WorkerData → Type 0
HasTold z u = u.told ≡ z

max_is : (a b : ℤ) → (int_max a b ≡ b) ⊎ ((int_max a b ≡ a) × (b <ℤ a))
max_is a b = by_test (int_lt b a) refl
  where
    by_test : (t : Bool) → int_lt b a ≡ t → (cond t a b ≡ b) ⊎ ((cond t a b ≡ a) × (b <ℤ a))
    by_test true e = inr (refl, omega (arith, ints))
    by_test false e = inl refl

module _ (r : Rules) where
  -- What was told is at most a better best's value.
  told_grown : (told : ℤ) (old new : Option (List Bool)) → ((y : List Bool) → Covers r old y → Covers r new y) → IsToldOf r old told → IsToldOf r new told
  told_grown told None None h t = t
  told_grown told None (Some y) h t = inl t
  told_grown told (Some x) None h t = absurd (h x (inl refl))
  told_grown told (Some x) (Some y) h (inl z) = inl z
  told_grown told (Some x) (Some y) h (inr l) = let v = covers_value r y x (h x (inl refl)) in inr (omega (arith, ints))

  -- ---- One worker becomes another, and the shared number stays.

  module _ (s : WorldData) (i : ℕ) (v : WorkerData) (next : ℕ) (l : i < length s.workers) where
    abbrev changed : WorldData
    changed = record { shared = s.shared; next = next; tasks = s.tasks; workers = set s.workers i v }

    one_changed : Covered r s → v.told ≡ (worker_at s i).told → IsCoveredWorker r s.shared v
        → ((y : List Bool) → IsFeasibleFor r y → HoldsFor r y (worker_at s i) → HoldsFor r y v ⊎ (r.value y <ℤ s.shared))
        → ((y : List Bool) → IsLeftFor r s y → IsLeftFor r changed y ⊎ HoldsFor r y v) → Covered r changed
    one_changed cov told fine holds left = record {
      each = λ y f. by_part y f (cov.each y f);
      workers = All-set (IsCoveredWorker r s.shared) s.workers i v fine cov.workers;
      shared = ⊎_elim inl (λ a. ⊎_elim inr absurd (any_after (HasTold s.shared) (HasTold s.shared) ⊥ s.workers i v l (λ e. inl (told ∙ e)) (λ u e. e) a)) cov.shared;
    }
      where
        by_part : (y : List Bool) → IsFeasibleFor r y → IsLeftFor r s y ⊎ (Any (HoldsFor r y) s.workers ⊎ (r.value y <ℤ s.shared))
            → IsLeftFor r changed y ⊎ (Any (HoldsFor r y) (set s.workers i v) ⊎ (r.value y <ℤ s.shared))
        by_part y f (inl a) = ⊎_elim inl (λ h. inr (inl (any-set (HoldsFor r y) s.workers i v l h))) (left y a)
        by_part y f (inr (inl a)) = inr (any_after (HoldsFor r y) (HoldsFor r y) (r.value y <ℤ s.shared) s.workers i v l (holds y f) (λ u h. h) a)
        by_part y f (inr (inr a)) = inr (inr a)

  worker_fine : (s : WorldData) (i : ℕ) → Covered r s → i < length s.workers → IsCoveredWorker r s.shared (worker_at s i)
  worker_fine s i cov l = cov.workers i new_worker l

  -- ---- The events.

  next_or : (n k : ℕ) → n ≤ k → (k ≡ n) ⊎ (n + 1 ≤ k)
  next_or n k l = dite (ℕ_discrete k n) inl (λ ne. inr (omega arith))

  no_nodes : (y : List Bool) (u : WorkerData) → u.stack ≡ [] → HoldsFor r y u → Covers r u.best y
  no_nodes y u e (inl c) = absurd (subst (λ (st : List (List Mark)). CompletesSome st y) e c)
  no_nodes y u e (inr c) = c

  take_keeps : (s : WorldData) (w : ℕ) → IsPossible (Take w) s → Covered r s
      → Covered r record { shared = s.shared; next = s.next + 1; tasks = s.tasks; workers = set s.workers w (with_nodes (task_of r s.next ∷ []) (worker_at s w)) }
  take_keeps s w p cov =
      let u = worker_at s w in
      let k = worker_fine s w cov p.0 in
      one_changed s w (with_nodes (task_of r s.next ∷ []) u) (s.next + 1) p.0 cov refl
      (record { best = k.best; seen = k.seen; told = k.told; reached = k.reached })
      (λ y f h. inl (inr (no_nodes y u p.1 h)))
      (λ y a. ⊎_elim (λ e. inr (inl (inl (subst (λ (j : ℕ). Completes (task_of r j) y) e a.3)))) (λ m. inl (a.0, m, a.2, a.3)) (next_or s.next a.0 a.1))

  look_keeps : (s : WorldData) (w : ℕ) → w < length s.workers → Covered r s → Covered r (with_worker s w (with_seen s.shared (worker_at s w)))
  look_keeps s w l cov =
      let k = worker_fine s w cov l in
      one_changed s w (with_seen s.shared (worker_at s w)) s.next l cov refl
      (record { best = k.best; seen = omega (arith, ints); told = k.told; reached = k.reached })
      (λ y f h. inl h) (λ y a. inl a)

  -- A turn of a worker whose nodes have the goal's length.
  module _ (law : IsLawful r) (shared : ℤ) (u : WorkerData) (w : Walk) (turn : Turn r u.seen (walk_at r.products u) w) (of : IsWorkerOf r.products u)
      (fine : IsCoveredWorker r shared u) where
    top_of : length turn.node ≡ r.products
    top_of = subst (λ (st : List (List Mark)). All (λ (m : List Mark). length m ≡ r.products) st) turn.top of.nodes 0 [] (omega arith)

    turn_holds : (y : List Bool) → IsFeasibleFor r y → HoldsFor r y u → HoldsFor r y (with_walk w u) ⊎ (r.value y <ℤ shared)
    turn_holds y f h = split (turned_has r law u.seen (walk_at r.products u) w fine.best turn.node turn.rest turn.top top_of (Reaches r u.seen) (reaches_keeps r u.seen) y
        (λ c d. dropped_reaches r law u.seen (walk_at r.products u) w fine.best turn.node turn.rest turn.top top_of y c f.1 d) turn.outcome
        (subst (λ (st : List (List Mark)). CompletesSome st y ⊎ Reaches r u.seen u.best y) turn.top (more h)))
      where
        more : HoldsFor r y u → CompletesSome u.stack y ⊎ Reaches r u.seen u.best y
        more (inl c) = inl c
        more (inr c) = inr (inl c)

        split : CompletesSome w.stack y ⊎ Reaches r u.seen w.best y → HoldsFor r y (with_walk w u) ⊎ (r.value y <ℤ shared)
        split (inl c) = inl (inl c)
        split (inr (inl c)) = inl (inr c)
        split (inr (inr low)) = let e = fine.seen in inr (omega (arith, ints))

    turn_fine : IsCoveredWorker r shared (with_walk w u)
    turn_fine = record {
      best = turned_feasible r law u.seen (walk_at r.products u) w fine.best turn.node turn.rest turn.top top_of turn.outcome;
      seen = fine.seen;
      told = fine.told;
      reached = told_grown u.told u.best w.best (turn_grown r u.seen (walk_at r.products u) w turn) fine.reached;
    }

  work_keeps : IsLawful r → (s : WorldData) (i : ℕ) (v : WorkerData) → i < length s.workers → IsTurned r (worker_at s i) v → IsWorldOf r.products s → Covered r s
      → Covered r (with_worker s i v)
  work_keeps law s i v l t of cov =
      let u = worker_at s i in
      let fine = worker_fine s i cov l in
      let k = worker_is r.products s i of l in
      subst (λ (x : WorkerData). Covered r (with_worker s i x)) (sym t.2)
      (one_changed s i (with_walk t.0 u) s.next l cov refl (turn_fine law s.shared u t.0 t.1 k fine) (turn_holds law s.shared u t.0 t.1 k fine) (λ y a. inl a))

  -- The worker's own value is told.
  module _ (s : WorldData) (w : ℕ) (x : List Bool) (l : w < length s.workers) (is : (worker_at s w).best ≡ Some x) (cov : Covered r s) where
    abbrev value : ℤ
    value = r.value x

    abbrev greater : ℤ
    greater = int_max s.shared value

    abbrev told_one : WorkerData
    told_one = with_told value (worker_at s w)

    not_less : s.shared ≤ℤ greater
    not_less = omega (arith, ints, clamps)

    own_less : value ≤ℤ greater
    own_less = omega (arith, ints, clamps)

    raised : (u : WorkerData) → IsCoveredWorker r s.shared u → IsCoveredWorker r greater u
    raised u k = let a = k.seen in let b = k.told in let c = not_less in
        record { best = k.best; seen = omega (arith, ints, c); told = omega (arith, ints, c); reached = k.reached }

    told_fine : IsCoveredWorker r greater told_one
    told_fine = let k = raised (worker_at s w) (worker_fine s w cov l) in
        record { best = k.best; seen = k.seen; told = own_less; reached = subst (λ (b : Option (List Bool)). IsToldOf r b value) (sym is) (inr (omega (arith, ints))) }

    -- The greatest number that was told is this one, or the one before.
    told_shared : (greater ≡ value) ⊎ ((greater ≡ s.shared) × (value <ℤ s.shared)) → (greater ≡ pos 0) ⊎ Any (HasTold greater) (set s.workers w told_one)
    told_shared (inl e) = inr (any-set (HasTold greater) s.workers w told_one l (sym e))
    told_shared (inr m) = ⊎_elim (λ z. inl (m.0 ∙ z))
        (λ a. ⊎_elim inr inl (any_after (HasTold s.shared) (HasTold greater) (greater ≡ pos 0) s.workers w told_one l
        (λ e. inr (m.0 ∙ (sym e ∙ nothing e (subst (λ (b : Option (List Bool)). IsToldOf r b (worker_at s w).told) is (worker_fine s w cov l).reached))))
        (λ u e. e ∙ sym m.0) a)) cov.shared
      where
        nothing : (worker_at s w).told ≡ s.shared → IsToldOf r (Some x) (worker_at s w).told → (worker_at s w).told ≡ pos 0
        nothing e (inl z) = z
        nothing e (inr h) = let low = m.1 in absurd (omega (arith, ints))

    tell_keeps : Covered r record { shared = greater; next = s.next; tasks = s.tasks; workers = set s.workers w told_one }
    tell_keeps = record {
      each = λ y f. by_part y (cov.each y f);
      workers = All-set (IsCoveredWorker r greater) s.workers w told_one told_fine (All-weaker (IsCoveredWorker r s.shared) (IsCoveredWorker r greater) raised s.workers cov.workers);
      shared = told_shared (max_is s.shared value);
    }
      where
        by_part : (y : List Bool) → IsLeftFor r s y ⊎ (Any (HoldsFor r y) s.workers ⊎ (r.value y <ℤ s.shared))
            → IsLeftFor r s y ⊎ (Any (HoldsFor r y) (set s.workers w told_one) ⊎ (r.value y <ℤ greater))
        by_part y (inl a) = inl a
        by_part y (inr (inl a)) = inr (any_after (HoldsFor r y) (HoldsFor r y) (r.value y <ℤ greater) s.workers w told_one l (λ h. inl h) (λ u h. h) a)
        by_part y (inr (inr a)) = let c = not_less in inr (inr (omega (arith, ints, c)))

  -- ---- A node goes from one worker to another.

  module _ (s : WorldData) (w u : ℕ) (node : List Mark) (rest : List (List Mark)) (p : IsPossible (Give w u) s)
      (bottom : (worker_at s w).stack ≡ rest ++ node ∷ []) (cov : Covered r s) where
    abbrev giver : WorkerData
    giver = with_nodes rest (worker_at s w)

    abbrev taker : WorkerData
    taker = with_nodes (node ∷ []) (worker_at s u)

    abbrev between : List WorkerData
    between = set s.workers w giver

    inside : u < length between
    inside = let e = length-set s.workers w giver in let l = p.1 in omega arith

    same_taker : get_or between u new_worker ≡ worker_at s u
    same_taker = get_or-set_other s.workers w u giver new_worker (λ e. p.2 (sym e))

    with_rest : (v : WorkerData) → IsCoveredWorker r s.shared v → (stack : List (List Mark)) → IsCoveredWorker r s.shared (with_nodes stack v)
    with_rest v k stack = record { best = k.best; seen = k.seen; told = k.told; reached = k.reached }

    give_holds : (y : List Bool) → Any (HoldsFor r y) s.workers → Any (HoldsFor r y) (set between u taker)
    give_holds y a = ⊎_elim
        (λ m. ⊎_elim (λ b. b) absurd (any_after (HoldsFor r y) (HoldsFor r y) ⊥ between u taker inside
        (λ h. inl (inr (no_nodes y (worker_at s u) p.4 (subst (HoldsFor r y) same_taker h)))) (λ v h. h) m))
        (λ c. any-set (HoldsFor r y) between u taker inside (inl (inl c)))
        (any_after (HoldsFor r y) (HoldsFor r y) (Completes node y) s.workers w giver p.0 parts (λ v h. h) a)
      where
        parts : HoldsFor r y (worker_at s w) → HoldsFor r y giver ⊎ Completes node y
        parts (inl c) = ⊎_elim (λ d. inl (inl d)) inr (completes_parts y rest node (subst (λ (st : List (List Mark)). CompletesSome st y) bottom c))
        parts (inr c) = inl (inr c)

    give_keeps : Covered r record { shared = s.shared; next = s.next; tasks = s.tasks; workers = set between u taker }
    give_keeps = record {
      each = λ y f. ⊎_elim inl (λ h. inr (⊎_elim (λ a. inl (give_holds y a)) inr h)) (cov.each y f);
      workers = All-set (IsCoveredWorker r s.shared) between u taker (with_rest (worker_at s u) (worker_fine s u cov p.1) (node ∷ []))
          (All-set (IsCoveredWorker r s.shared) s.workers w giver (with_rest (worker_at s w) (worker_fine s w cov p.0) rest) cov.workers);
      shared = ⊎_elim inl (λ a. inr (told a)) cov.shared;
    }
      where
        told : Any (HasTold s.shared) s.workers → Any (HasTold s.shared) (set between u taker)
        told a = ⊎_elim
            (λ m. ⊎_elim (λ b. b) absurd (any_after (HasTold s.shared) (HasTold s.shared) ⊥ between u taker inside (λ e. inl (subst (HasTold s.shared) same_taker e)) (λ v e. e) m)) absurd
            (any_after (HasTold s.shared) (HasTold s.shared) ⊥ s.workers w giver p.0 (λ e. inl e) (λ v e. e) a)

  -- ---- Any event, and lists of events.

  module _ (law : IsLawful r) where
    leads_keeps : (e : Event) (s t : WorldData) → IsPossible e s → LeadsTo r e s t → IsWorldOf r.products s → Covered r s → Covered r t
    leads_keeps (Take w) s t p e of cov = subst (Covered r) (sym e) (take_keeps s w p cov)
    leads_keeps (Look w) s t p e of cov = subst (Covered r) (sym e) (look_keeps s w p cov)
    leads_keeps (Work w) s t p e of cov = subst (Covered r) (sym e.2) (work_keeps law s w e.0 p.0 e.1 of cov)
    leads_keeps (Tell w) s t p e of cov = subst (Covered r) (sym e.2) (tell_keeps s w e.0 p.0 e.1 cov)
    leads_keeps (Give w u) s t p e of cov =
        let h = e.2 in
        let g = h.2 in
        let one : e.0 ≡ with_nodes g.rest (worker_at s w) = h.3 ∙ ap (λ (v : Walk). with_walk v (worker_at s w)) g.left in
        let other : e.1 ≡ with_nodes (g.node ∷ []) (worker_at s u) = h.4 ∙ ap (λ (v : Walk). with_walk v (worker_at s u)) g.given in
        subst (Covered r) (sym (e.3 ∙ (ap (λ (x : WorkerData). with_worker (with_worker s w x) u e.1) one
        ∙ ap (λ (x : WorkerData). with_worker (with_worker s w (with_nodes g.rest (worker_at s w))) u x) other)))
        (give_keeps s w u g.node g.rest p g.bottom cov)

    -- Each event keeps what is covered.
    pub happens_keeps : (e : Event) (s t : WorldData) → Happens r e s t → IsWorldOf r.products s → Covered r s → Covered r t
    happens_keeps e s t (inl h) of cov = leads_keeps e s t h.0 h.1 of cov
    happens_keeps e s t (inr h) of cov = subst (Covered r) (sym h.1) cov

    runs_keep : (es : List Event) (s t : WorldData) → Runs r es s t → IsWorldOf r.products s → Covered r s → Covered r t
    runs_keep [] s t e of cov = subst (Covered r) (sym e) cov
    runs_keep (e ∷ es) s t h of cov = runs_keep es h.0 t h.2 (happens_of r e s h.0 h.1 of) (happens_keeps e s h.0 h.1 of cov)

  pub start_covered : (workers : ℕ) → Covered r (start_of (tasks_of r.products) workers)
  start_covered workers = record {
    each = λ y f. (let t = tasks_cover r (depth_of r.products) (open_node r.products) y (Completes-open r.products y f.0) in inl (t.0, omega arith, t.1, t.2));
    workers = All-replicate (IsCoveredWorker r (pos 0)) workers new_worker (record { best = tt; seen = omega (arith, ints); told = omega (arith, ints); reached = refl });
    shared = inl refl;
  }

  -- After any list of events from the start, no feasible assortment is lost.
  pub runs_covered : IsLawful r → (workers : ℕ) (es : List Event) (t : WorldData) → Runs r es (start_of (tasks_of r.products) workers) t → Covered r t
  runs_covered law workers es t h = runs_keep law es (start_of (tasks_of r.products) workers) t h (start_is r.products workers) (start_covered workers)

-- A worker of a world and the worlds that its events leave; nodes and bests keep their length.
use Rattle.std.proofs.Common.{◌≡◌, ◌≢◌, ℕ, ◌-◌, ◌<◌, Bool, Option, Some, None, List, [], ◌∷◌, ◌++◌, length, get_or, set, refl, sym, ap, ◌∙◌, subst, inl, inr, ⊎_elim, length-set, arith}
use Rattle.std.specs.Prelude.{ℤ, slice_set}
use Rattle.std.specs.List.{All}
use Rattle.std.proofs.Math.ListN.{get_or-append}
use Rattle.std.proofs.lemmas.List.{length-append, set-get_or, set-append_left, set-append_right}
use Rattle.std.proofs.lemmas.List.Elements.{All-set, All-cons, All-head, All-tail, All-pop, All-replicate, All-nil}
use Rattle.offer_model.specs.declared.node.Mark.{Mark}
use Rattle.offer_model.specs.declared.node.Mark.TheVariants.{In, Out}
use Rattle.offer_model.specs.Nodes.{open_node, fill_of}
use Rattle.offer_model.proofs.ListLemmas.{get_or-any}
use Rattle.offer_model.proofs.NodeLemmas.{length-fill_of, length-open_node}
use Rattle.tree_search.specs.declared.event.Event.{Event}
use Rattle.tree_search.specs.declared.event.Event.TheVariants.{Take, Look, Work, Tell, Give}
use Rattle.tree_search.specs.Goals.{Rules}
use Rattle.tree_search.specs.Tasks.{depth_of, tasks_of, task_of}
use Rattle.tree_search.specs.Turns.{Walk, with_products, IsSound, IsBestAfter, IsTaken, Turn}
use Rattle.tree_search.specs.Gives.{IsGiven}
use Rattle.tree_search.proofs.TaskLemmas.{task_long}
use Rattle.tree_search.specs.Worlds.{WorkerData, WorldData, new_worker, start_of, worker_at, walk_at, with_walk, IsTurned, GivesOrNot, GivesBetween, with_worker, IsPossible, LeadsTo, Happens, IsWorkerOf, IsWorldOf}

-- What is read at the number of a worker is the worker.
pub read_is : (xs : List WorkerData) (w : ℕ) (u : WorkerData) → w < length xs → u ≡ get_or xs w u → u ≡ get_or xs w new_worker
read_is xs w u l e = e ∙ get_or-any xs w new_worker u l

-- The worker of a number is one of the goal's.
pub worker_is : (n : ℕ) (s : WorldData) (w : ℕ) → IsWorldOf n s → w < length s.workers → IsWorkerOf n (worker_at s w)
worker_is n s w h l = h.workers w new_worker l

module _ (r : Rules) where
  abbrev IsWalkOf : Walk → Type 0
  IsWalkOf w = All (λ (node : List Mark). length node ≡ r.products) w.stack × ((x : List Bool) → w.best ≡ Some x → length x ≡ r.products)

  best_after : (x : List Bool) (old new : Option (List Bool)) → length x ≡ r.products → ((z : List Bool) → old ≡ Some z → length z ≡ r.products)
      → IsBestAfter r x old new → (z : List Bool) → new ≡ Some z → length z ≡ r.products
  best_after x old new l h (inl t) z e = let s : Some x ≡ Some z = sym t.1 ∙ e in let k : x ≡ z = cc in subst (λ (y : List Bool). length y ≡ r.products) k l
  best_after x old new l h (inr t) z e = h z (sym t.1 ∙ e)

  taken_of : (old new : Walk) (node : List Mark) (rest : List (List Mark)) (o : Option ℕ) → length node ≡ r.products
      → All (λ (m : List Mark). length m ≡ r.products) rest → ((x : List Bool) → old.best ≡ Some x → length x ≡ r.products)
      → IsTaken r old node rest o new → IsWalkOf new
  taken_of old new node rest None l a b t = (
    subst (All (λ (m : List Mark). length m ≡ r.products)) (sym t.0) a,
    best_after (fill_of node) old.best new.best (length-fill_of node ∙ l) b t.1,
  )
  taken_of old new node rest (Some i) l a b t = subst IsWalkOf (sym t) (
    All-cons (λ (m : List Mark). length m ≡ r.products) (slice_set node i In) (slice_set node i Out ∷ rest) (length-set node i In ∙ l)
        (All-cons (λ (m : List Mark). length m ≡ r.products) (slice_set node i Out) rest (length-set node i Out ∙ l) a),
    b,
  )

  turn_of : (seen : ℤ) (old new : Walk) → Turn r seen old new → IsWalkOf old → IsWalkOf new
  turn_of seen old new turn h =
      let all = subst (All (λ (m : List Mark). length m ≡ r.products)) turn.top h.0 in
      let l = All-head (λ (m : List Mark). length m ≡ r.products) turn.node turn.rest all in
      let a = All-tail (λ (m : List Mark). length m ≡ r.products) turn.node turn.rest all in
      ⊎_elim (λ d. subst IsWalkOf (sym d.1) (a, h.1)) (λ t. taken_of old new turn.node turn.rest (r.next turn.node) l a h.1 t.1) turn.outcome

  with_walk_of : (u : WorkerData) (v : Walk) → IsWalkOf v → IsWorkerOf r.products (with_walk v u)
  with_walk_of u v h = record { nodes = h.0; best = h.1 }

  given_of : (one other v z : Walk) → IsGiven one other v z → IsWalkOf one → IsWalkOf other → IsWalkOf v × IsWalkOf z
  given_of one other v z g h k =
      let parts = All-pop (λ (m : List Mark). length m ≡ r.products) one.stack g.rest (Some g.node) g.bottom h.0 in (
        subst IsWalkOf (sym g.left) (parts.0, h.1),
        subst IsWalkOf (sym g.given) (All-cons (λ (m : List Mark). length m ≡ r.products) g.node [] parts.1 (All-nil (λ (m : List Mark). length m ≡ r.products)), k.1),
      )

  task_of_long : (k : ℕ) → length (task_of r k) ≡ r.products
  task_of_long k = task_long r (depth_of r.products) k (open_node r.products) ∙ length-open_node r.products

  one_of : (s : WorldData) (w : ℕ) (u : WorkerData) → IsWorldOf r.products s → IsWorkerOf r.products u → All (IsWorkerOf r.products) (set s.workers w u)
  one_of s w u h k = All-set (IsWorkerOf r.products) s.workers w u k h.workers

  leads_of : (e : Event) (s t : WorldData) → IsPossible e s → LeadsTo r e s t → IsWorldOf r.products s → IsWorldOf r.products t
  leads_of (Take w) s t p e h = subst (IsWorldOf r.products) (sym e) (record {
    tasks = h.tasks;
    workers = one_of s w _ h (record {
      nodes = All-cons (λ (m : List Mark). length m ≡ r.products) (task_of r s.next) [] (task_of_long s.next) (All-nil (λ (m : List Mark). length m ≡ r.products));
      best = (worker_is r.products s w h p.0).best;
    });
  })
  leads_of (Look w) s t p e h = let k = worker_is r.products s w h p in subst (IsWorldOf r.products) (sym e) (record {
    tasks = h.tasks;
    workers = one_of s w _ h (record { nodes = k.nodes; best = k.best });
  })
  leads_of (Work w) s t p e h =
      let k = worker_is r.products s w h p.0 in
      let turned = e.1 in
      let u : IsWorkerOf r.products e.0 =
      subst (IsWorkerOf r.products) (sym turned.2) (with_walk_of (worker_at s w) turned.0 (turn_of (worker_at s w).seen (walk_at r.products (worker_at s w)) turned.0 turned.1 (k.nodes, k.best))) in
      subst (IsWorldOf r.products) (sym e.2) (record { tasks = h.tasks; workers = one_of s w e.0 h u })
  leads_of (Tell w) s t p e h = let k = worker_is r.products s w h p.0 in subst (IsWorldOf r.products) (sym e.2) (record {
    tasks = h.tasks;
    workers = one_of s w _ h (record { nodes = k.nodes; best = k.best });
  })
  leads_of (Give w u) s t p e h =
      let k = worker_is r.products s w h p.0 in
      let m = worker_is r.products s u h p.1 in
      let g = e.2 in
      let of = given_of (walk_at r.products (worker_at s w)) (walk_at r.products (worker_at s u)) g.0 g.1 g.2 (k.nodes, k.best) (m.nodes, m.best) in
      let one : IsWorkerOf r.products e.0 = subst (IsWorkerOf r.products) (sym g.3) (with_walk_of (worker_at s w) g.0 of.0) in
      let other : IsWorkerOf r.products e.1 = subst (IsWorkerOf r.products) (sym g.4) (with_walk_of (worker_at s u) g.1 of.1) in
      subst (IsWorldOf r.products) (sym e.3) (record {
        tasks = h.tasks;
        workers = All-set (IsWorkerOf r.products) (set s.workers w e.0) u e.1 other (one_of s w e.0 h one);
      })

  -- Each event keeps a world one of the goal's.
  pub happens_of : (e : Event) (s t : WorldData) → Happens r e s t → IsWorldOf r.products s → IsWorldOf r.products t
  happens_of e s t (inl h) w = leads_of e s t h.0 h.1 w
  happens_of e s t (inr h) w = subst (IsWorldOf r.products) (sym h.1) w

-- A world that starts with the goal's tasks is one of the goal's.
pub start_is : (n workers : ℕ) → IsWorldOf n (start_of (tasks_of n) workers)
start_is n workers = record {
  tasks = refl;
  workers = All-replicate (IsWorkerOf n) workers new_worker (record { nodes = All-nil (λ (m : List Mark). length m ≡ n); best = λ x e. absurd cc });
}

-- ---- What the calls do to a list of workers.

-- The worker at a place of the world's list is one of the goal's.
pub element_is : (n : ℕ) (s : WorldData) (xs : List WorkerData) (w : ℕ) (u : WorkerData) → IsWorldOf n s → xs ≡ s.workers → w < length xs → u ≡ get_or xs w u
    → IsWorkerOf n u
element_is n s xs w u h e l is = subst (IsWorkerOf n) (sym is) (subst (All (IsWorkerOf n)) (sym e) h.workers w u l)

-- A walker whose nodes are a worker's has the goal's products, where there is a node.
pub sound_products : (n : ℕ) (w : Walk) → IsSound w → w.stack ≢ [] → All (λ (m : List Mark). length m ≡ n) w.stack → w.products ≡ n
sound_products n w sound some long = by_stack w.stack refl
  where
    by_stack : (st : List (List Mark)) → w.stack ≡ st → w.products ≡ n
    by_stack [] e = absurd (some e)
    by_stack (node ∷ rest) e =
        let inside : 0 < length w.stack = let l = ap (λ (x : List (List Mark)). length x) e in omega arith in
        sym (sound.nodes 0 [] inside) ∙ long 0 [] inside

-- A turn of the worker's walker is one of the worker.
pub turned_by : (r : Rules) (w v : Walk) (seen told : ℤ) (u : WorkerData) → record { stack = w.stack; best = w.best; seen = seen; told = told } ≡ u
    → w.products ≡ r.products → Turn r seen w v → IsTurned r u (record { stack = v.stack; best = v.best; seen = seen; told = told })
turned_by r w v seen told u view p t =
    subst (λ (x : WorkerData). IsTurned r x (record { stack = v.stack; best = v.best; seen = seen; told = told })) view
    (v, subst (λ (m : ℕ). Turn r seen (record { stack = w.stack; best = w.best; products = m }) v) p t, refl)

-- The worker of that number works, where it has a node.
pub worked : (r : Rules) (s t : WorldData) (w : ℕ) (u v : WorkerData) → w < length s.workers → u ≡ get_or s.workers w u
    → (u.stack ≢ [] → IsTurned r u v) → (u.stack ≡ [] → v ≡ u) → t ≡ with_worker s w v → Happens r (Work w) s t
worked r s t w u v l is turned idle e = by_stack u.stack refl
  where
    here : u ≡ worker_at s w
    here = read_is s.workers w u l is

    by_stack : (st : List (List Mark)) → u.stack ≡ st → Happens r (Work w) s t
    by_stack [] q = inr (
      λ p. p.1 (ap (λ (x : WorkerData). x.stack) (sym here) ∙ q),
      e ∙ (ap (λ (x : WorkerData). with_worker s w x) (idle q ∙ is) ∙ ap (λ (xs : List WorkerData). record { shared = s.shared; next = s.next; tasks = s.tasks; workers = xs })
          (set-get_or s.workers w u)),
    )
    by_stack (node ∷ rest) q =
        let some : u.stack ≢ [] = λ n. (let k = sym q ∙ n in cc) in
        inl ((l, λ n. some (ap (λ (x : WorkerData). x.stack) here ∙ n)), (v, subst (λ (x : WorkerData). IsTurned r x v) here (turned some), e))

-- ---- A node is given.

pub gives_by : (n : ℕ) (w x fitted v y : Walk) (seen told other_seen other_told : ℤ) (one other : WorkerData)
    → record { stack = w.stack; best = w.best; seen = seen; told = told } ≡ one
    → record { stack = x.stack; best = x.best; seen = other_seen; told = other_told } ≡ other
    → w.products ≡ n → fitted ≡ with_products x n → w.stack ≢ [] → x.stack ≡ [] → IsGiven w fitted v y
    → GivesOrNot n one other (record { stack = v.stack; best = v.best; seen = seen; told = told }) (record { stack = y.stack; best = y.best; seen = other_seen; told = other_told })
gives_by n w x fitted v y seen told other_seen other_told one other view other_view p fits some none given =
    subst (λ (a : WorkerData). GivesOrNot n a other (record { stack = v.stack; best = v.best; seen = seen; told = told })
    (record { stack = y.stack; best = y.best; seen = other_seen; told = other_told })) view
    (subst (λ (b : WorkerData). GivesOrNot n (record { stack = w.stack; best = w.best; seen = seen; told = told }) b (record { stack = v.stack; best = v.best; seen = seen; told = told })
    (record { stack = y.stack; best = y.best; seen = other_seen; told = other_told })) other_view
    (inl (
      some,
      none,
      (
        v,
        y,
        subst (λ (m : ℕ). IsGiven (record { stack = w.stack; best = w.best; products = m }) (with_products x n) v y) p
            (subst (λ (z : Walk). IsGiven w z v y) fits given),
        refl,
        refl,
      ),
    )))

module _ (old front back : List WorkerData) (i j : ℕ) (a b one other : WorkerData) (is : old ≡ front ++ back) (size : length front ≡ j) (low : i < j) (high : j < length old) where
  some_back : 0 < length back
  some_back = let e = ap (λ (xs : List WorkerData). length xs) is in let f = length-append front back in omega arith

  at_first : get_or front i a ≡ get_or old i new_worker
  at_first = let inside : i < length front = omega arith in
      get_or-any front i new_worker a inside ∙ (sym (get_or-append front back new_worker i inside) ∙ ap (λ (xs : List WorkerData). get_or xs i new_worker) (sym is))

  at_second : get_or back 0 b ≡ get_or old j new_worker
  at_second = get_or-any back 0 new_worker b some_back ∙ (sym (after front) ∙ (ap (λ (k : ℕ). get_or (front ++ back) k new_worker) size ∙ ap (λ (xs : List WorkerData). get_or xs j new_worker) (sym is)))
    where
      after : (xs : List WorkerData) → get_or (xs ++ back) (length xs) new_worker ≡ get_or back 0 new_worker
      after [] = refl
      after (x ∷ xs) = after xs

  set_second : (x : WorkerData) (xs : List WorkerData) → length xs ≡ j → set (xs ++ back) j x ≡ xs ++ set back 0 x
  set_second x xs e = let z : j - j ≡ 0 = omega arith in set-append_right xs back j j x e (omega arith) ∙ ap (λ (k : ℕ). xs ++ set back k x) z

  -- The first gives to the second.
  pub gives_later : (n : ℕ) → GivesOrNot n (get_or front i a) (get_or back 0 b) one other → GivesBetween n i j old (set front i one ++ set back 0 other)
  gives_later n g = (
    one,
    other,
    subst (λ (x : WorkerData). GivesOrNot n x (get_or old j new_worker) one other) at_first (subst (λ (y : WorkerData). GivesOrNot n (get_or front i a) y one other) at_second g),
    sym (ap (λ (xs : List WorkerData). set (set xs i one) j other) is ∙ (ap (λ (xs : List WorkerData). set xs j other) (set-append_left front back i one (omega arith))
        ∙ set_second other (set front i one) (length-set front i one ∙ size))),
  )

  -- The second gives to the first.
  pub gives_earlier : (n : ℕ) → GivesOrNot n (get_or back 0 b) (get_or front i a) other one → GivesBetween n j i old (set front i one ++ set back 0 other)
  gives_earlier n g = (
    other,
    one,
    subst (λ (y : WorkerData). GivesOrNot n y (get_or old i new_worker) other one) at_second (subst (λ (x : WorkerData). GivesOrNot n (get_or back 0 b) x other one) at_first g),
    sym (ap (λ (xs : List WorkerData). set (set xs j other) i one) is ∙ (ap (λ (xs : List WorkerData). set xs i one) (set_second other front size)
        ∙ set-append_left front (set back 0 other) i one (omega arith))),
  )

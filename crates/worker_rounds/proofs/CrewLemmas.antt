-- A round of a crew, and the nodes given after it: what the crew keeps, and what falls.
use Rattle.std.proofs.Common.{◌≡◌, ◌⊎◌, ℕ, ◌+◌, ◌<◌, ◌≤◌, Bool, List, [], ◌∷◌, ◌++◌, length, refl, sym, ap, ◌∙◌, subst, inl, inr, ⊎_elim, arith}
use Rattle.std.specs.Prelude.{Option, Some}
use Rattle.offer_model.specs.Nodes.{Completes}
use Rattle.tree_search.specs.Goals.{Rules, IsFeasibleFor}
use Rattle.tree_search.specs.Tasks.{tasks_of, task_of}
use Rattle.tree_search.specs.Turns.{Walk, IsSound}
use Rattle.tree_search.specs.Progress.{IsFeasibleBest}
use Rattle.shared_best.specs.Places.{DeskData, PlaceData, BelongsTo}
use Rattle.worker_rounds.specs.declared.crew.Worker.{Worker}
use Rattle.tree_search.specs.AnswerRanges.{AnswersInRange}
use Rattle.worker_rounds.specs.Rounds.{IsBacked, IsIn, Round}
use Rattle.worker_rounds.specs.Crews.{Each, AnyOf, Pairwise, IsWorkerBusy, shares, HasClaim, WorkerHas, CoversClaims, HasNoClaims, HasProducts, SameButNodes, SharesNodes, IsReady, WorkerRound, IsMember, IsCrew}
use Rattle.worker_rounds.proofs.ListLemmas.{each_map, each_along, any_along, any_or, pairwise_length, pairwise_map}
use Rattle.worker_rounds.proofs.RoundLemmas.{IsIn-append, kept_covers, holds_more}
use Rattle.worker_rounds.proofs.MeasureLemmas.{weights, weight_busy, weight_any}
use Rattle.worker_rounds.proofs.ShareLemmas.{shared_covered, shared_weights, shared_shares}

module _ {T : Type 0} where
  -- ---- A round of all.

  -- A round of one worker of the goal.
  record GoalRound (r : Rules) (desk : DeskData) (v w : Worker T) : Type 0 where
    pub round : Round r desk v.place w.place v.walker w.walker
    pub sound : IsSound w.walker
    pub long : w.walker.products ≡ r.products
    pub share : w.place.view.share ≡ v.place.view.share

  rounds_less : (r : Rules) (desk : DeskData) (vs ws : List (Worker T)) → Pairwise (GoalRound r desk) vs ws
      → weights desk.tasks r.products ws ≤ weights desk.tasks r.products vs
  rounds_less r desk [] [] p = omega arith
  rounds_less r desk [] (w ∷ ws) p = absurd p
  rounds_less r desk (v ∷ vs) [] p = absurd p
  rounds_less r desk (v ∷ vs) (w ∷ ws) p =
      let a = rounds_less r desk vs ws p.1 in
      let b = weight_any r desk r.products v.place w.place v.walker w.walker p.0.round p.0.sound p.0.long in
      omega arith

  rounds_busy : (r : Rules) (desk : DeskData) (vs ws : List (Worker T)) → Pairwise (GoalRound r desk) vs ws → AnyOf IsWorkerBusy vs
      → weights desk.tasks r.products ws < weights desk.tasks r.products vs
  rounds_busy r desk [] ws p a = absurd a
  rounds_busy r desk (v ∷ vs) [] p a = absurd p
  rounds_busy r desk (v ∷ vs) (w ∷ ws) p (inl b) =
      let a = rounds_less r desk vs ws p.1 in
      let l = weight_busy r desk r.products v.place w.place v.walker w.walker p.0.round p.0.sound p.0.long b in
      omega arith
  rounds_busy r desk (v ∷ vs) (w ∷ ws) p (inr b) =
      let a = rounds_busy r desk vs ws p.1 b in
      let l = weight_any r desk r.products v.place w.place v.walker w.walker p.0.round p.0.sound p.0.long in
      omega arith

  rounds_shares : (r : Rules) (desk : DeskData) (vs ws : List (Worker T)) → Pairwise (GoalRound r desk) vs ws → shares ws ≡ shares vs
  rounds_shares r desk [] [] p = refl
  rounds_shares r desk [] (w ∷ ws) p = absurd p
  rounds_shares r desk (v ∷ vs) [] p = absurd p
  rounds_shares r desk (v ∷ vs) (w ∷ ws) p = let a = rounds_shares r desk vs ws p.1 in let s = p.0.share in omega arith

  -- What a worker held it holds after the round.
  round_keeps : (r : Rules) (desk : DeskData) (y : List Bool) → IsFeasibleFor r y → (v w : Worker T) → GoalRound r desk v w → WorkerHas r y v → WorkerHas r y w
  round_keeps r desk y f v w o (inl c) = o.round.covered y f (inl c)
  round_keeps r desk y f v w o (inr (inl c)) = inr (inl (kept_covers r v.walker.best w.walker.best y o.round.kept c))
  round_keeps r desk y f v w o (inr (inr l)) = holds_more r v.place.view.seen w.place.view.seen w.walker y o.round.seen (inr (inr l))

  -- A claim is from before, or its assortments are held.
  round_claims : (r : Rules) (desk : DeskData) (y : List Bool) (k : ℕ) → IsFeasibleFor r y → k < tasks_of r.products → Completes (task_of r k) y
      → (v w : Worker T) → GoalRound r desk v w → HasClaim k w → HasClaim k v ⊎ WorkerHas r y w
  round_claims r desk y k f l c v w o i = ⊎_elim inl (λ j. inr (o.round.covered y f (inr (k, j, l, c))))
      (IsIn-append k v.place.view.claims o.round.claims (subst (IsIn k) o.round.all i))

  rounds_covered : (r : Rules) (desk : DeskData) (vs ws : List (Worker T)) → Pairwise (GoalRound r desk) vs ws → CoversClaims r vs → CoversClaims r ws
  rounds_covered r desk vs ws p h y f k l a c = ⊎_elim
      (λ b. any_along (GoalRound r desk) (WorkerHas r y) (WorkerHas r y) (round_keeps r desk y f) vs ws p (h y f k l b c))
      (λ b. b)
      (any_or (GoalRound r desk) (HasClaim k) (HasClaim k) (WorkerHas r y) (round_claims r desk y k f l c) vs ws p a)

  -- ---- Crews.

  -- A round changes no walker's number of products.
  pub worked_long : (rules : T → Rules) (desk : DeskData) (n : ℕ) (us vs : List (Worker T)) → Pairwise (WorkerRound rules desk) us vs → Each (HasProducts n) us → Each (HasProducts n) vs
  worked_long rules desk n us vs p e = each_along (WorkerRound rules desk) (HasProducts n) (HasProducts n) (λ v w o h. o.round.products ∙ h) us vs p e

  -- All walkers of a crew have the goal's products.
  pub crew_products : (rules : T → Rules) (g : T) (desk : DeskData) (ws : List (Worker T)) → IsCrew rules g desk ws → Each (HasProducts (rules g).products) ws
  crew_products rules g desk ws c = each_map (IsMember rules g desk) (HasProducts (rules g).products) (λ w f. f.products) ws c.each

  module _ (rules : T → Rules) (g : T) (desk : DeskData) where
    -- A worker between rounds is ready for one.
    pub member_ready : desk.tasks ≡ tasks_of (rules g).products → AnswersInRange (rules g) → (w : Worker T) → IsMember rules g desk w → IsReady rules desk w
    member_ready few modest w f =
        let e = sym f.goal in
        record {
          place = f.place;
          tasks = subst (λ (h : T). desk.tasks ≡ tasks_of (rules h).products) e few;
          answers = subst (λ (h : T). AnswersInRange (rules h)) e modest;
          products = subst (λ (h : T). w.walker.products ≡ (rules h).products) e f.products;
          feasible = subst (λ (h : T). IsFeasibleBest (rules h) w.walker.best) e f.feasible;
          told = subst (λ (h : T). IsBacked (rules h) w.place.view.told w.walker.best) e f.told;
        }

    goal_round : (v w : Worker T) → IsMember rules g desk v → WorkerRound rules desk v w → GoalRound (rules g) desk v w
    goal_round v w f o =
        let round = subst (λ (h : T). Round (rules h) desk v.place w.place v.walker w.walker) f.goal o.round in
        record { round = round; sound = o.sound; long = round.products ∙ f.products; share = round.share }

    worked_member : (v w : Worker T) → WorkerRound rules desk v w → IsMember rules g desk v → IsMember rules g desk w
    worked_member v w o f =
        let round = subst (λ (h : T). Round (rules h) desk v.place w.place v.walker w.walker) f.goal o.round in
        record {
          goal = o.goal ∙ f.goal;
          place = round.place;
          products = round.products ∙ f.products;
          feasible = round.feasible;
          told = round.told;
          sound = o.sound;
        }

    same_member : (v w : Worker T) → SameButNodes v w → IsMember rules g desk v → IsMember rules g desk w
    same_member v w s f = record {
      goal = s.goal ∙ f.goal;
      place = subst (λ (p : PlaceData). BelongsTo p desk) (sym s.place) f.place;
      products = s.products ∙ f.products;
      feasible = subst (IsFeasibleBest (rules g)) (sym s.best) f.feasible;
      told = subst (λ (t : PlaceData × Option (List Bool)). IsBacked (rules g) t.0.view.told t.1) (λ i. (sym s.place i, sym s.best i)) f.told;
      sound = s.sound f.sound;
    }

    -- So is a crew.
    pub crew_ready : desk.tasks ≡ tasks_of (rules g).products → AnswersInRange (rules g) → (ws : List (Worker T)) → IsCrew rules g desk ws → Each (IsReady rules desk) ws
    crew_ready few modest ws c = each_map (IsMember rules g desk) (IsReady rules desk) (member_ready few modest) ws c.each

    module _ (us vs ws : List (Worker T)) (crew : IsCrew rules g desk us) (p : Pairwise (WorkerRound rules desk) us vs) where
      goal_rounds : Pairwise (GoalRound (rules g) desk) us vs
      goal_rounds = pairwise_map (WorkerRound rules desk) (GoalRound (rules g) desk) (IsMember rules g desk) goal_round us vs crew.each p

      worked_each : Each (IsMember rules g desk) vs
      worked_each = each_along (WorkerRound rules desk) (IsMember rules g desk) (IsMember rules g desk) worked_member us vs p crew.each

      -- After a round and the nodes given it is a crew again.
      pub round_crew : SharesNodes vs ws → IsCrew rules g desk ws
      round_crew s = record {
        each = each_along SameButNodes (IsMember rules g desk) (IsMember rules g desk) same_member vs ws s.same worked_each;
        covered = shared_covered (rules g) vs ws s (rounds_covered (rules g) desk us vs goal_rounds crew.covered);
      }

      -- Where some worker had something to do, less is left.
      pub round_less : SharesNodes vs ws → AnyOf IsWorkerBusy us → weights desk.tasks (rules g).products ws < weights desk.tasks (rules g).products us
      round_less s b =
          let e = shared_weights desk.tasks (rules g).products vs ws s in
          let l = rounds_busy (rules g) desk us vs goal_rounds b in
          omega arith

      -- The shares stay.
      pub round_shares : SharesNodes vs ws → shares ws ≡ shares us
      round_shares s = shared_shares vs ws s.same ∙ rounds_shares (rules g) desk us vs goal_rounds

      -- No worker comes or goes.
      pub round_length : SharesNodes vs ws → length ws ≡ length us
      round_length s = pairwise_length SameButNodes vs ws s.same ∙ pairwise_length (WorkerRound rules desk) us vs p

    -- A crew of which spent_view has claimed anything.
    nothing_claimed : (k : ℕ) (ws : List (Worker T)) → Each HasNoClaims ws → AnyOf (HasClaim k) ws → ⊥
    nothing_claimed k [] e a = absurd a
    nothing_claimed k (w ∷ ws) e (inl i) = absurd (subst (IsIn k) e.0 i)
    nothing_claimed k (w ∷ ws) e (inr a) = nothing_claimed k ws e.1 a

    -- A crew that has claimed nothing has nothing to cover.
    pub fresh_crew : (ws : List (Worker T)) → Each (IsMember rules g desk) ws → Each HasNoClaims ws → IsCrew rules g desk ws
    fresh_crew ws f n = record { each = f; covered = λ y a k l i c. absurd (nothing_claimed k ws n i) }

    -- A worker with no nodes, an assortment at hand and a place that told at most its value.
    pub fresh_member : (w : Worker T) (x : List Bool) → w.goal ≡ g → BelongsTo w.place desk → IsFeasibleFor (rules g) x
        → w.walker ≡ record { stack = []; best = Some x; products = length x } → IsBacked (rules g) w.place.view.told w.walker.best
        → IsMember rules g desk w
    fresh_member w x same of feasible is told = record {
      goal = same;
      place = of;
      products = ap (λ (v : Walk). v.products) is ∙ feasible.0;
      feasible = subst (λ (v : Walk). IsFeasibleBest (rules g) v.best) (sym is) feasible;
      told = told;
      sound = subst IsSound (sym is) (record {
        nodes = λ k d l. absurd (omega arith);
        best = λ y e. (let same : x ≡ y = cc in sym (ap (λ (l : List Bool). length l) same));
        few = omega arith;
      });
    }

  -- The shares with one worker more.
  pub shares_push : (ws : List (Worker T)) (w : Worker T) → shares (ws ++ w ∷ []) ≡ shares ws + w.place.view.share
  shares_push [] w = omega arith
  shares_push (x ∷ xs) w = let r = shares_push xs w in omega arith

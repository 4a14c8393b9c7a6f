-- What is known once all workers have ended.
use Rattle.std.proofs.Common.{◌≡◌, ◌⊎◌, ℕ, ◌<◌, ◌≤◌, Bool, true, false, ◌||◌, nat_lt, max, cond, sum_by, Option, Some, None, List, [], ◌∷◌, ◌++◌, length, take, refl, sym, ap, ◌∙◌, subst, inl, inr, ⊎_elim, arith}
use Rattle.std.specs.Prelude.{pos, ◌≤ℤ◌, ◌<ℤ◌}
use Rattle.std.proofs.lemmas.Int.{ints}
use Rattle.std.proofs.lemmas.Bool.Decides.{nat_tests}
use Rattle.std.proofs.Math.Seq.{take-append_seam}
use Rattle.offer_model.specs.declared.node.Mark.{Mark}
use Rattle.offer_model.specs.Nodes.{open_node}
use Rattle.offer_model.proofs.CompletionLemmas.{Completes-open}
use Rattle.tree_search.specs.Goals.{Rules, IsFeasibleFor, IsTop}
use Rattle.tree_search.specs.Tasks.{depth_of, tasks_of}
use Rattle.tree_search.specs.Progress.{CompletesSome, Covers, IsFeasibleBest}
use Rattle.tree_search.proofs.TaskLemmas.{tasks_cover}
use Rattle.tree_search.proofs.RunLemmas.{covers_top}
use Rattle.tree_search.proofs.CoverLemmas.{covers_trans, met_covers, covers_grown, met_feasible}
use Rattle.shared_best.specs.declared.view.View.{View}
use Rattle.offer_model.specs.Assortments.{sum_below}
use Rattle.std.proofs.lemmas.List.Sums.{sum_by-cons}
use Rattle.shared_best.specs.Views.{is_done, joined, any_past}
use Rattle.shared_best.proofs.ClaimLemmas.{one_if_is, one_or_none, below_once, all_below, past_below, any_past-append}
use Rattle.worker_rounds.specs.declared.crew.Worker.{Worker}
use Rattle.worker_rounds.specs.Rounds.{IsBacked, IsIn}
use Rattle.worker_rounds.specs.Crews.{Each, AnyOf, IsWorkerAtRest, HasClaim, WorkerHas, CoversClaims}
use Rattle.worker_rounds.specs.Gathering.{MergesBest, Settles, SettlesClaims, WorkerSettles, AreSettled}
use Rattle.worker_rounds.proofs.RoundLemmas.{IsIn-append, told_kept}
use Rattle.worker_rounds.proofs.ListLemmas.{any_parts, any_front, any_back}

-- ---- Two bests are brought together.

module _ (r : Rules) where
  abbrev Grows : Option (List Bool) → Option (List Bool) → Type 0
  Grows old new = (y : List Bool) → Covers r old y → Covers r new y

  merged_old : (x old new : Option (List Bool)) → MergesBest r x old new → Grows old new
  merged_old None old new m y c = subst (λ (o : Option (List Bool)). Covers r o y) (sym m) c
  merged_old (Some x) old new m y c = covers_grown r old new x y m c

  merged_new : (x old new : Option (List Bool)) → IsFeasibleBest r x → IsFeasibleBest r old → MergesBest r x old new → Grows x new
  merged_new None old new f g m y c = absurd c
  merged_new (Some x) old new f g m y c = covers_trans r x y new (met_covers r old new x f.0 g m) c

  -- The better of two feasible bests is feasible.
  pub merged_feasible : (x old new : Option (List Bool)) → IsFeasibleBest r x → IsFeasibleBest r old → MergesBest r x old new → IsFeasibleBest r new
  merged_feasible None old new f g m = subst (IsFeasibleBest r) (sym m) g
  merged_feasible (Some x) old new f g m = met_feasible r old new x g f m

  told_max : (s t : ℕ) (best : Option (List Bool)) → IsBacked r s best → IsBacked r t best → IsBacked r (max s t) best
  told_max s t None p q = omega arith
  told_max s t (Some x) (inl p) (inl q) = inl (omega arith)
  told_max s t (Some x) (inl p) (inr q) = inr (let e : max s t ≡ t = omega arith in subst (λ (n : ℕ). pos n ≤ℤ r.value x) (sym e) q)
  told_max s t (Some x) (inr p) (inl q) = inr (let e : max s t ≡ s = omega arith in subst (λ (n : ℕ). pos n ≤ℤ r.value x) (sym e) p)
  told_max s t (Some x) (inr p) (inr q) = inr (grind (arith, ints))

  -- What the joined place told is at most its value.
  pub told_merged : (v w u : View) (x old new : Option (List Bool)) → u ≡ joined v w → IsFeasibleBest r x → IsFeasibleBest r old → MergesBest r x old new
      → IsBacked r v.told old → IsBacked r w.told x → IsBacked r u.told new
  told_merged v w u x old new is f g m p q = subst (λ (n : ℕ). IsBacked r n new) (sym (ap (λ (z : View). z.told) is))
      (told_max v.told w.told new (told_kept r v.told old new (merged_old x old new m) p) (told_kept r w.told x new (merged_new x old new f g m) q))

  does_old : (s t : ℕ) (old new : Option (List Bool)) (y : List Bool) → s ≤ t → Grows old new → Settles r s old y → Settles r t new y
  does_old s t old new y l g (inl c) = inl (g y c)
  does_old s t old new y l g (inr m) = inr (omega (arith, ints))

  module _ {T : Type 0} where
    -- After a worker has joined.
    pub settles_more : (v u : View) (old new : Option (List Bool)) (ws : List (Worker T)) (x : Worker T) → u ≡ joined v x.place.view
        → IsFeasibleBest r x.walker.best → IsFeasibleBest r old → MergesBest r x.walker.best old new → AreSettled r v old (ws ++ x ∷ []) → AreSettled r u new ws
    settles_more v u old new ws x is f g m h y a k l i c = by_does (h y a k l (by_claim i) c)
      where
        by_claim : IsIn k u.claims ⊎ AnyOf (HasClaim k) ws → IsIn k v.claims ⊎ AnyOf (HasClaim k) (ws ++ x ∷ [])
        by_claim (inl j) = ⊎_elim inl (λ e. inr (any_back (HasClaim k) ws (x ∷ []) (inl e)))
            (IsIn-append k v.claims x.place.view.claims (subst (λ (z : View). IsIn k z.claims) is j))
        by_claim (inr j) = inr (any_front (HasClaim k) ws (x ∷ []) j)

        seen : u.seen ≡ max v.seen x.place.view.seen
        seen = ap (λ (z : View). z.seen) is

        by_does : Settles r v.seen old y ⊎ AnyOf (WorkerSettles r y) (ws ++ x ∷ []) → Settles r u.seen new y ⊎ AnyOf (WorkerSettles r y) ws
        by_does (inl d) = inl (does_old v.seen u.seen old new y (let e = seen in omega arith) (merged_old x.walker.best old new m) d)
        by_does (inr d) = ⊎_elim inr
            (λ e. inl (⊎_elim
            (λ b. does_old x.place.view.seen u.seen x.walker.best new y (let q = seen in omega arith) (merged_new x.walker.best old new f g m) b)
            (λ n. absurd n) e))
            (any_parts (WorkerSettles r y) ws (x ∷ []) d)

    -- Once no worker is left, the best settles all claims.
    pub settles_all : (v : View) (best : Option (List Bool)) (ws : List (Worker T)) → ws ≡ [] → AreSettled r v best ws → SettlesClaims r v best
    settles_all v best ws e h y a k l i c = ⊎_elim (λ d. d) (λ n. absurd (subst (AnyOf (WorkerSettles r y)) e n)) (h y a k l (inl i) c)

    -- What a crew at rest has, it has settled.
    at_rest_settles : (y : List Bool) (ws : List (Worker T)) → Each IsWorkerAtRest ws → AnyOf (WorkerHas r y) ws → AnyOf (WorkerSettles r y) ws
    at_rest_settles y [] e a = absurd a
    at_rest_settles y (w ∷ ws) e (inr a) = inr (at_rest_settles y ws e.1 a)
    at_rest_settles y (w ∷ ws) e (inl (inr d)) = inl d
    at_rest_settles y (w ∷ ws) e (inl (inl c)) = absurd (subst (λ (l : List (List Mark)). CompletesSome l y) e.0.0 c)

    -- What a crew at rest has, it has settled.
    pub crew_settles : (v : View) (ws : List (Worker T)) → v.claims ≡ [] → CoversClaims r ws → Each IsWorkerAtRest ws → AreSettled r v None ws
    crew_settles v ws none h e y a k l i c = inr (at_rest_settles y ws e (h y a k l (⊎_elim (λ j. absurd (subst (IsIn k) none j)) (λ j. j) i) c))

or_true : (a : Bool) → (a || true) ≡ true
or_true true = refl
or_true false = refl

-- A place that was joined with one that is done is done.
pub done_both : (v w u : View) → u ≡ joined v w → w.tasks ≡ v.tasks → is_done w ≡ true → is_done u ≡ true
done_both v w u is same done =
    ap is_done is ∙ any_past-append v.tasks v.claims w.claims
    ∙ ap (λ (n : ℕ). any_past v.tasks v.claims || any_past n w.claims) (sym same)
    ∙ ap (λ (b : Bool). any_past v.tasks v.claims || b) done ∙ or_true (any_past v.tasks v.claims)

is_below : (x c : ℕ) → x < c → 0 < cond (nat_lt x c) 1 0
is_below x c l = grind (arith, nat_tests)

IsIn-some : (x : ℕ) (xs : List ℕ) → 0 < sum_by (one_if_is x) xs → IsIn x xs
IsIn-some x [] l = absurd (omega arith)
IsIn-some x (y ∷ ys) l = let s = sum_by-cons (one_if_is x) y ys in ⊎_elim (λ z. inr (IsIn-some x ys (omega arith))) inl (one_or_none x y)

-- Where the place that closes is done, each task was claimed.
claimed : (v : View) (c task : ℕ) → is_done v ≡ true → ((h : ℕ → ℕ) → sum_by h v.claims ≡ sum_below c h) → task < v.tasks → IsIn task v.claims
claimed v c task done all l =
    let far = past_below v.tasks c v.claims done (all_below v.claims c (λ h. let e = all h in omega arith)) in
    let e = all (one_if_is task) in
    let b = below_once task c in
    let p = is_below task c (omega arith) in
    IsIn-some task v.claims (omega arith)

low_best : (r : Rules) (best : Option (List Bool)) (seen told : ℕ) (y : List Bool) → seen ≤ told → pos 0 ≤ℤ r.value y → IsBacked r told best → r.value y <ℤ pos seen → Covers r best y
low_best r None seen told y l z t m = absurd (omega (arith, ints))
low_best r (Some x) seen told y l z (inl t) m = absurd (omega (arith, ints))
low_best r (Some x) seen told y l z (inr t) m = inr (inl (omega (arith, ints)))

-- The best that settles all claims of a place with the whole share is the top.
pub top : (r : Rules) (v : View) (best : Option (List Bool)) (c b : ℕ) → v.tasks ≡ tasks_of r.products → ((x : List Bool) → length x ≡ r.products → pos 0 ≤ℤ r.value x)
    → is_done v ≡ true → ((h : ℕ → ℕ) → sum_by h v.claims ≡ sum_below c h) → b ≡ v.told → v.seen ≤ b
    → IsFeasibleBest r best → IsBacked r v.told best → SettlesClaims r v best → IsTop r best
top r v best c b same least done all told seen f t h = covers_top r best f each
  where
    each : (y : List Bool) → IsFeasibleFor r y → Covers r best y
    each y a =
        let k = tasks_cover r (depth_of r.products) (open_node r.products) y (Completes-open r.products y a.0) in
        let i = claimed v c k.0 done all (let l = k.1 in omega arith) in
        ⊎_elim (λ d. d) (λ m. low_best r best v.seen v.told y (omega arith) (least y a.0) t m) (h y a k.0 k.1 i k.2)

whole : {A : Type 0} (n : ℕ) (xs ys : List A) → n ≡ length xs → take n (xs ++ ys) ≡ xs
whole n xs ys e = ap (λ (k : ℕ). take k (xs ++ ys)) e ∙ take-append_seam xs ys

-- The crew after the rounds, as the vector that lent its slice is seen.
pub lent : {A : Type 0} (P : List A → Type 0) (n : ℕ) (olds slice news rest : List A) → n ≡ length olds → slice ≡ olds → length news ≡ length slice → P news → P (take n (news ++ rest))
lent {A = A} P n olds slice news rest e f l p = subst P (sym (whole n news rest (let g = ap (λ (l : List A). length l) f in omega arith))) p

-- The same of what is answered.
pub top_of : (r : Rules) (v : View) (best : Option (List Bool)) (found : Option (List Bool)) (c b : ℕ) → found ≡ best
    → v.tasks ≡ tasks_of r.products → ((x : List Bool) → length x ≡ r.products → pos 0 ≤ℤ r.value x)
    → is_done v ≡ true → ((h : ℕ → ℕ) → sum_by h v.claims ≡ sum_below c h) → b ≡ v.told → v.seen ≤ b
    → IsFeasibleBest r best → IsBacked r v.told best → SettlesClaims r v best → IsTop r found
top_of r v best found c b is same least done all told seen f t h = subst (IsTop r) (sym is) (top r v best c b same least done all told seen f t h)

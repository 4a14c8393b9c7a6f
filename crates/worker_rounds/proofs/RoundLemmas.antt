-- A round, step by step: what was done so far in it, and what holds at its end.
use Rattle.std.proofs.Common.{◌≡◌, ◌≢◌, ◌⊎◌, ℕ, ◌<◌, ◌≤◌, Bool, true, false, Option, Some, None, List, [], ◌∷◌, ◌++◌, refl, sym, ap, ◌∙◌, subst, inl, inr, ⊎_elim, arith, append-nil, append_assoc}
use Rattle.std.specs.Prelude.{pos}
use Rattle.std.proofs.lemmas.Int.{ints}
use Rattle.offer_model.specs.declared.node.Mark.{Mark}
use Rattle.offer_model.specs.Nodes.{Completes}
use Rattle.tree_search.specs.Goals.{Rules, IsLawful, IsFeasibleFor}
use Rattle.tree_search.specs.Tasks.{tasks_of, task_of}
use Rattle.tree_search.specs.Turns.{Walk, IsSound}
use Rattle.tree_search.specs.Sizes.{size_of}
use Rattle.tree_search.specs.Progress.{CompletesSome, Covers, Reaches, IsFeasibleBest}
use Rattle.tree_search.proofs.CoverLemmas.{covers_trans, covers_value, turn_reaches, turn_feasible, turn_grown}
use Rattle.tree_search.proofs.RunLemmas.{turn_products}
use Rattle.tree_search.proofs.SizeLemmas.{turn_less}
use Rattle.shared_best.specs.declared.view.View.{View}
use Rattle.shared_best.specs.Views.{any_past, AllBelow, is_done}
use Rattle.shared_best.specs.Places.{DeskData, PlaceData, BelongsTo}
use Rattle.worker_rounds.specs.Rounds.{IsBacked, KeepsBest, IsIn, CompletesTask, HasAbove, Follows, IsBusy, IsAtRest, Round, Claim, ClaimsIfIdle, TakesNode}

-- ---- Claims.

-- A number of two lists put together is in one of them.
pub IsIn-append : (x : ℕ) (xs ys : List ℕ) → IsIn x (xs ++ ys) → IsIn x xs ⊎ IsIn x ys
IsIn-append x [] ys i = inr i
IsIn-append x (z ∷ zs) ys (inl e) = inl (inl e)
IsIn-append x (z ∷ zs) ys (inr e) = ⊎_elim (λ i. inl (inr i)) inr (IsIn-append x zs ys e)

follows_more : (tasks : ℕ) (before claims : List ℕ) (n : ℕ) (all : List ℕ) → all ≡ before ++ claims → Follows tasks before claims → AllBelow n all → any_past tasks all ≡ false
    → Follows tasks before (claims ++ n ∷ [])
follows_more tasks before [] n all is f above free =
    let e : all ≡ before = is ∙ append-nil before in
    (subst (AllBelow n) e above, ap (any_past tasks) (sym e) ∙ free, tt)
follows_more tasks before (c ∷ cs) n all is f above free =
    (f.0, f.1, follows_more tasks (before ++ c ∷ []) cs n all (is ∙ sym (append_assoc before (c ∷ []) cs)) f.2 above free)

pushed_some : (xs : List ℕ) (x : ℕ) → xs ++ x ∷ [] ≢ []
pushed_some [] x e = cc
pushed_some (y ∷ ys) x e = cc

-- ---- Bests.

module _ (r : Rules) where
  -- A best that covers all that the old one did stands in its place.
  pub kept_of : (old new : Option (List Bool)) → ((y : List Bool) → Covers r old y → Covers r new y) → KeepsBest r old new
  kept_of None new h = tt
  kept_of (Some x) new h = h x (inl refl)

  -- It covers all that the old one did.
  pub kept_covers : (old new : Option (List Bool)) (y : List Bool) → KeepsBest r old new → Covers r old y → Covers r new y
  kept_covers None new y k c = absurd c
  kept_covers (Some x) new y k c = covers_trans r x y new k c

  -- What was told is at most a better best's value.
  pub told_kept : (told : ℕ) (old new : Option (List Bool)) → ((y : List Bool) → Covers r old y → Covers r new y) → IsBacked r told old → IsBacked r told new
  told_kept told None None h t = t
  told_kept told None (Some y) h t = inl t
  told_kept told (Some x) None h t = absurd (h x (inl refl))
  told_kept told (Some x) (Some y) h (inl z) = inl z
  told_kept told (Some x) (Some y) h (inr l) = let v = covers_value r y x (h x (inl refl)) in inr (omega (arith, ints))

  -- With a greater number seen nothing more is lost.
  pub holds_more : (s t : ℕ) (w : Walk) (y : List Bool) → s ≤ t → HasAbove r s w y → HasAbove r t w y
  holds_more s t w y l (inl c) = inl c
  holds_more s t w y l (inr (inl c)) = inr (inl c)
  holds_more s t w y l (inr (inr m)) = inr (inr (omega (arith, ints)))

  -- ---- So far in the round.

  pub record IsUnderWay (tasks : ℕ) (p q : View) (v w : Walk) : Type 0 where
    pub claims : List ℕ
    pub covered : (y : List Bool) → IsFeasibleFor r y → CompletesSome v.stack y ⊎ CompletesTask r claims y → HasAbove r q.seen w y
    pub grown : (y : List Bool) → Covers r v.best y → Covers r w.best y
    pub feasible : IsFeasibleBest r w.best
    pub told : IsBacked r q.told w.best
    pub seen : p.seen ≤ q.seen
    pub products : w.products ≡ v.products
    pub share : q.share ≡ p.share
    pub all : q.claims ≡ p.claims ++ claims
    pub follows : Follows tasks p.claims claims
    pub going : ((q ≡ p) × (w ≡ v)) ⊎ ((claims ≢ []) ⊎ (size_of w.stack < size_of v.stack))

  -- At the round's start.
  pub under_way : (tasks : ℕ) (p : View) (v : Walk) → IsFeasibleBest r v.best → IsBacked r p.told v.best → IsUnderWay tasks p p v v
  under_way tasks p v f t = record {
    claims = [];
    covered = λ y g h. ⊎_elim inl (λ i. absurd i.1) h;
    grown = λ y c. c;
    feasible = f;
    told = t;
    seen = omega arith;
    products = refl;
    share = refl;
    all = sym (append-nil p.claims);
    follows = tt;
    going = inl (refl, refl);
  }

  emptied : (s : ℕ) (w : Walk) (stack : List (List Mark)) (y : List Bool) → w.stack ≡ [] → HasAbove r s w y → CompletesSome stack y ⊎ Reaches r (pos s) w.best y
  emptied s w stack y e (inl c) = absurd (subst (λ (l : List (List Mark)). CompletesSome l y) e c)
  emptied s w stack y e (inr d) = inr d

  module _ (tasks : ℕ) (p q : View) (v w : Walk) (u : IsUnderWay tasks p q v w) (same : q.tasks ≡ tasks) where
    -- After a claim.
    module _ (few : tasks ≡ tasks_of r.products) (x : View) (z : Walk) (c : Claim r q x w z) where
      claim_best : z.best ≡ w.best
      claim_best = ⊎_elim (λ t. ap (λ (a : Walk). a.best) t.1) (λ t. ap (λ (a : Walk). a.best) t.1) c.started

      claim_products : z.products ≡ w.products
      claim_products = ⊎_elim (λ t. ap (λ (a : Walk). a.products) t.1) (λ t. ap (λ (a : Walk). a.products) t.1) c.started

      -- What was held is still held.
      claim_held : (y : List Bool) → HasAbove r q.seen w y → HasAbove r x.seen z y
      claim_held y h = let s : x.seen ≡ q.seen = ap (λ (a : View). a.seen) c.view in
          let d = emptied q.seen w z.stack y c.empty h in
          subst (λ (t : ℕ × Option (List Bool)). CompletesSome z.stack y ⊎ Reaches r (pos t.0) t.1 y) (λ i. (sym s i, sym claim_best i)) d

      claim_new : (y : List Bool) → Completes (task_of r c.claim) y → c.claim < tasks_of r.products → HasAbove r x.seen z y
      claim_new y d l = ⊎_elim
          (λ t. inl (subst (λ (a : Walk). CompletesSome a.stack y) (sym t.1) (inl d)))
          (λ t. (let m = t.0 in absurd (omega arith)))
          c.started

      claim_covered : (y : List Bool) → IsFeasibleFor r y → CompletesSome v.stack y ⊎ CompletesTask r (u.claims ++ c.claim ∷ []) y → HasAbove r x.seen z y
      claim_covered y f (inl h) = claim_held y (u.covered y f (inl h))
      claim_covered y f (inr t) = ⊎_elim
          (λ i. claim_held y (u.covered y f (inr (t.0, i, t.2, t.3))))
          (λ e. claim_new y (subst (λ (k : ℕ). Completes (task_of r k) y) e t.3) (subst (λ (k : ℕ). k < tasks_of r.products) e t.2))
          (⊎_elim inl (λ i. ⊎_elim inr absurd i) (IsIn-append t.0 u.claims (c.claim ∷ []) t.1))

      claimed_more : IsUnderWay tasks p x v z
      claimed_more =
          let told : x.told ≡ q.told = ap (λ (a : View). a.told) c.view in
          let seen : x.seen ≡ q.seen = ap (λ (a : View). a.seen) c.view in
          let free : any_past tasks q.claims ≡ false = ap (λ (n : ℕ). any_past n q.claims) (sym same) ∙ c.free in
          let s = u.seen in
          record {
            claims = u.claims ++ c.claim ∷ [];
            covered = claim_covered;
            grown = λ y h. subst (λ (o : Option (List Bool)). Covers r o y) (sym claim_best) (u.grown y h);
            feasible = subst (IsFeasibleBest r) (sym claim_best) u.feasible;
            told = subst (λ (t : ℕ × Option (List Bool)). IsBacked r t.0 t.1) (λ i. (sym told i, sym claim_best i)) u.told;
            seen = omega arith;
            products = claim_products ∙ u.products;
            share = ap (λ (a : View). a.share) c.view ∙ u.share;
            all = ap (λ (a : View). a.claims) c.view ∙ (ap (λ (l : List ℕ). l ++ c.claim ∷ []) u.all ∙ append_assoc p.claims u.claims (c.claim ∷ []));
            follows = follows_more tasks p.claims u.claims c.claim q.claims u.all u.follows c.above free;
            going = inr (inl (pushed_some u.claims c.claim));
          }

    -- After a claim was tried.
    pub claim_more : (x : View) (z : Walk) → tasks ≡ tasks_of r.products → ClaimsIfIdle r q x w z → IsUnderWay tasks p x v z
    claim_more x z few (inl t) = subst (λ (a : View × Walk). IsUnderWay tasks p a.0 v a.1) (λ i. (sym t.0 i, sym t.1 i)) u
    claim_more x z few (inr c) = claimed_more few x z c

    -- After a node.
    module _ (law : IsLawful r) (long : v.products ≡ r.products) (x : View) (z : Walk) (t : TakesNode r q x w z) where
      node_less : size_of z.stack < size_of w.stack
      node_less = turn_less r law (pos x.seen) w z t.turn (u.products ∙ long) t.was_sound

      node_covered : (y : List Bool) → IsFeasibleFor r y → CompletesSome v.stack y ⊎ CompletesTask r u.claims y → HasAbove r x.seen z y
      node_covered y f h = turn_reaches r law (pos x.seen) w z t.turn (u.products ∙ long) t.was_sound u.feasible y f.1
          (holds_more q.seen x.seen w y t.seen (u.covered y f h))

      -- Taking a node makes the stack smaller.
      pub node_moved : (u.claims ≢ []) ⊎ (size_of z.stack < size_of v.stack)
      node_moved = by_case u.going
        where
          by_case : ((q ≡ p) × (w ≡ v)) ⊎ ((u.claims ≢ []) ⊎ (size_of w.stack < size_of v.stack)) → (u.claims ≢ []) ⊎ (size_of z.stack < size_of v.stack)
          by_case (inl s) = inr (subst (λ (a : Walk). size_of z.stack < size_of a.stack) s.1 node_less)
          by_case (inr (inl n)) = inl n
          by_case (inr (inr l)) = inr (let m = node_less in omega arith)

      -- After a node was taken.
      pub node_more : IsUnderWay tasks p x v z
      node_more =
          let s = u.seen in
          let m = t.seen in
          record {
            claims = u.claims;
            covered = node_covered;
            grown = λ y h. turn_grown r (pos x.seen) w z t.turn y (u.grown y h);
            feasible = turn_feasible r law (pos x.seen) w z t.turn (u.products ∙ long) t.was_sound u.feasible;
            told = t.told;
            seen = omega arith;
            products = turn_products r (pos x.seen) w z t.turn ∙ u.products;
            share = t.share ∙ u.share;
            all = t.claims ∙ u.all;
            follows = u.follows;
            going = inr node_moved;
          }

  -- ---- At the round's end.

  begun_done : (tasks : ℕ) (before claims : List ℕ) → Follows tasks before claims → any_past tasks before ≡ true → claims ≡ []
  begun_done tasks before [] f d = refl
  begun_done tasks before (c ∷ cs) f d = absurd (let e = f.1 in cc)

  module _ (desk : DeskData) (p q : PlaceData) (v w : Walk) (u : IsUnderWay desk.tasks p.view q.view v w) (of_old : BelongsTo p desk) (of_new : BelongsTo q desk) where
    rested_by : (u.claims ≢ []) ⊎ (size_of w.stack < size_of v.stack) → IsAtRest p v → (w.stack ≡ v.stack) × (q.view.claims ≡ p.view.claims)
    rested_by (inl n) h = absurd (n (begun_done desk.tasks p.view.claims u.claims u.follows (ap (λ (k : ℕ). any_past k p.view.claims) (sym of_old.1) ∙ h.1)))
    rested_by (inr l) h = let e : size_of v.stack ≡ 0 = ap size_of h.0 in absurd (omega arith)

    ended : (IsBusy p v → (u.claims ≢ []) ⊎ (size_of w.stack < size_of v.stack)) → (IsAtRest p v → (w.stack ≡ v.stack) × (q.view.claims ≡ p.view.claims))
        → Round r desk p q v w
    ended moved rested = record {
      claims = u.claims;
      covered = u.covered;
      kept = kept_of v.best w.best u.grown;
      feasible = u.feasible;
      told = u.told;
      seen = u.seen;
      products = u.products;
      place = of_new;
      share = u.share;
      all = u.all;
      follows = u.follows;
      moved = moved;
      rested = rested;
    }

    -- Something was done.
    pub ended_moved : (u.claims ≢ []) ⊎ (size_of w.stack < size_of v.stack) → Round r desk p q v w
    ended_moved m = ended (λ b. m) (rested_by m)

    -- Nothing was there to do.
    pub ended_same : q.view ≡ p.view → w ≡ v → IsAtRest p v → Round r desk p q v w
    ended_same e f h = ended
        (λ b. ⊎_elim (λ n. absurd (n h.0)) (λ k. (let d = h.1 in absurd cc)) b)
        (λ _. (ap (λ (a : Walk). a.stack) f, ap (λ (a : View). a.claims) e))

  -- No node is left after a claim was tried.
  pub ended_idle : (desk : DeskData) (p q x : PlaceData) (v w z : Walk) (u : IsUnderWay desk.tasks p.view q.view v w) → BelongsTo p desk → BelongsTo q desk → BelongsTo x desk
      → desk.tasks ≡ tasks_of r.products → ClaimsIfIdle r q.view x.view w z → z.stack ≡ [] → Round r desk p x v z
  unfolding claimed_more
  ended_idle desk p q x v w z u a b c few (inr d) e =
      let n = claimed_more desk.tasks p.view q.view v w u b.1 few x.view z d in
      ended_moved desk p x v z n a c (inl (pushed_some u.claims d.claim))
  ended_idle desk p q x v w z u a b c few (inl t) e =
      subst (λ (s : PlaceData × Walk). Round r desk p s.0 v s.1) (λ i. (same i, sym t.1 i)) (by_case u.going)
    where
      same : q ≡ x
      same = λ i. record { table = (b.0 ∙ sym c.0) i; view = sym t.0 i }

      empty : w.stack ≡ []
      empty = ap (λ (y : Walk). y.stack) (sym t.1) ∙ e

      by_case : ((q.view ≡ p.view) × (w ≡ v)) ⊎ ((u.claims ≢ []) ⊎ (size_of w.stack < size_of v.stack)) → Round r desk p q v w
      by_case (inr m) = ended_moved desk p q v w u a b m
      by_case (inl s) = ended_same desk p q v w u a b s.0 s.1 (
        ap (λ (y : Walk). y.stack) (sym s.1) ∙ empty,
        ⊎_elim (λ k. absurd (k empty)) (λ d. ap is_done (sym s.0) ∙ d) t.2,
      )

  -- ---- The loop of the round.

  -- So many nodes were taken.
  pub record IsAfter (taken : ℕ) (tasks : ℕ) (p q : View) (v w : Walk) : Type 0 where
    pub under : IsUnderWay tasks p q v w
    pub begun : (taken ≡ 0) ⊎ (((under.claims ≢ []) ⊎ (size_of w.stack < size_of v.stack)) × IsSound w)

  -- Before the first node.
  pub after_none : (taken tasks : ℕ) (p : View) (v : Walk) → taken ≡ 0 → IsFeasibleBest r v.best → IsBacked r p.told v.best → IsAfter taken tasks p p v v
  after_none taken tasks p v z f t = record { under = under_way tasks p v f t; begun = inl z }

  -- After one more.
  pub after_node : (taken tasks : ℕ) (p q x : View) (v w z : Walk) → IsLawful r → v.products ≡ r.products → q.tasks ≡ tasks → IsUnderWay tasks p q v w → TakesNode r q x w z
      → IsAfter taken tasks p x v z
  unfolding node_more
  after_node taken tasks p q x v w z law long same u t = record {
    under = node_more tasks p q v w u same law long x z t;
    begun = inr (node_moved tasks p q v w u same law long x z t, t.sound);
  }

  -- After the last.
  pub after_all : (taken : ℕ) (desk : DeskData) (p q : PlaceData) (v w : Walk) → BelongsTo p desk → BelongsTo q desk → 0 < taken → IsAfter taken desk.tasks p.view q.view v w
      → Round r desk p q v w × IsSound w
  after_all taken desk p q v w a b some h = ⊎_elim
      (λ z. absurd (omega arith))
      (λ m. (ended_moved desk p q v w h.under a b m.0, m.1))
      h.begun

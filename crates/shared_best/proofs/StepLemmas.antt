-- Each step of a desk keeps what holds between the steps.
use Rattle.std.proofs.Common.{◌≡◌, ℕ, zero, suc, ◌+◌, ◌%◌, ◌^◌, ◌<◌, ◌≤◌, ◌⊎◌, Bool, false, not, ◌||◌, nat_lt, List, [], ◌∷◌, ◌++◌, length, max, set, slice_index, sum_by, sym, refl, ap, ◌∙◌, subst, inl, inr, ⊎_elim, arith, lt_of_not-le}
use mathlib.Core.Option.{some, none, some-injective, some-ne-none}
use lib.Dec.{leb}
use mathlib.Core.Logic.{dite}
use native.Mathlib.Decide.{ℕ_discrete, dec_le}
use lib.ListN.{get_elem?}
use Rattle.std.proofs.lemmas.Bool.Decides.{nat_tests}
use Rattle.std.proofs.lemmas.List.Sums.{sum_by-append, sum_by_push}
use Rattle.atomic_table.specs.Table.{step, keeps, stepped, Allows, Splits, Joins}
use Rattle.atomic_table.proofs.Lists.{at_set, set_here, set_else, at_snoc, at_longer}
use Rattle.shared_best.specs.declared.view.View.{View}
use Rattle.shared_best.specs.Views.{spent_view, one_if_past, any_past, AllBelow, is_done, with_claim, with_seen, with_told, after_split, split_off, joined}
use Rattle.shared_best.specs.DeskStates.{EachView, IsToldBy, IsDeskState, IsDesk, Carried, Takes, Looks, Tells}
use Rattle.shared_best.proofs.TotalLemmas.{sum_by-set, sum_by-at, sum_by-le_each}
use Rattle.shared_best.proofs.ClaimLemmas.{below_past, none_past, past_le, all_below, any_past-push, any_past-append}

within : (views : List View) (k : ℕ) (v : View) → get_elem? views k ≡ some v → k < length views
within [] k v e = absurd (some-ne-none v (sym e))
within (x ∷ xs) zero v e = omega arith
within (x ∷ xs) (suc k) v e = let r = within xs k v e in omega arith

each_set : (P : View → Type 0) (views : List View) (id : ℕ) (w : View) → P w → EachView P views → EachView P (set views id w)
each_set P views id w h each k v e = ⊎_elim (λ t. subst P t.1 h) (λ t. each k v t.1) (at_set views id k w v e)

told_set : (best : ℕ) (views : List View) (id : ℕ) (v w : View) → get_elem? views id ≡ some v → (v.told ≡ best → w.told ≡ best) → IsToldBy best views → IsToldBy best (set views id w)
told_set best views id v w at keep (inl z) = inl z
told_set best views id v w at keep (inr t) = dite (ℕ_discrete t.0 id)
    (λ is. let same : t.1 ≡ v = some-injective t.1 v (sym t.2 ∙ ap (get_elem? views) is ∙ at) in
    inr (id, w, set_here views id w (within views id v at), keep (ap (λ (u : View). u.told) (sym same) ∙ t.3)))
    (λ other. inr (t.0, t.1, set_else views id t.0 w other ∙ t.2, t.3))

-- few numbers are claimed, so that the count of them can't wrap
pub room : (tasks c b : ℕ) (views : List View) → IsDeskState tasks c b views → c ≤ 256 + 2 ^ 32
room tasks c b views d = let l = sum_by-le_each (λ v. sum_by (one_if_past tasks) v.claims) (λ v. v.share) views d.past in let s = d.shares in let is = d.claims (one_if_past tasks) in let few = d.few in
    let n = below_past tasks c in omega arith

-- the claims of one view are below the number of claims
pub claims_below : (tasks c b : ℕ) (views : List View) (id : ℕ) (v : View) → get_elem? views id ≡ some v → IsDeskState tasks c b views → AllBelow c v.claims
claims_below tasks c b views id v at d = all_below v.claims c (λ h. let t = sum_by-at (λ u. sum_by h u.claims) views id v at in let is = d.claims h in omega arith)

own_tasks : (tasks : ℕ) (v : View) → 0 < v.share → (v ≡ spent_view) ⊎ ((0 < v.share) × (v.tasks ≡ tasks)) → v.tasks ≡ tasks
own_tasks tasks v live (inl e) = absurd (let z : v.share ≡ 0 = ap (λ (u : View). u.share) e in omega arith)
own_tasks tasks v live (inr t) = t.1

takes : (tasks c b : ℕ) (views : List View) (id : ℕ) (v : View) → get_elem? views id ≡ some v → is_done v ≡ false → 0 < v.share
    → IsDeskState tasks c b views → IsDeskState tasks (suc c) b (set views id (with_claim v c))
takes tasks c b views id v at free live d =
    let w : View = with_claim v c in
    let same : v.tasks ≡ tasks = own_tasks tasks v live (d.live id v at) in
    let early : sum_by (one_if_past tasks) v.claims ≡ 0 = none_past tasks v.claims (subst (λ n. any_past n v.claims ≡ false) same free) in
    record {
      claims = λ h. let s = sum_by-set (λ u. sum_by h u.claims) views id v w at in let a = sum_by-append h v.claims (c ∷ []) in let is = d.claims h in omega arith;
      reached = each_set (λ u. (u.seen ≤ b) × (u.told ≤ b)) views id w (d.reached id v at) d.reached;
      told = told_set b views id v w at (λ e. e) d.told;
      shares = let s = sum_by-set (λ u. u.share) views id v w at in let is = d.shares in omega arith;
      past = each_set (λ u. sum_by (one_if_past tasks) u.claims ≤ u.share) views id w
          (let a = sum_by-append (one_if_past tasks) v.claims (c ∷ []) in let l = past_le tasks c in omega arith) d.past;
      few = d.few;
      live = each_set (λ u. (u ≡ spent_view) ⊎ ((0 < u.share) × (u.tasks ≡ tasks))) views id w (inr (live, same)) d.live;
    }

-- the first or the second of two words is changed
first_set : (words : List ℕ) (n : ℕ) → length words ≡ 2 → (length (set words 0 n) ≡ 2) × (slice_index (set words 0 n) 0 ≡ n) × (slice_index (set words 0 n) 1 ≡ slice_index words 1)
first_set [] n e = absurd (omega arith)
first_set (x ∷ []) n e = absurd (omega arith)
first_set (x ∷ y ∷ []) n e = (refl, refl, refl)
first_set (x ∷ y ∷ z ∷ zs) n e = absurd (omega arith)

second_set : (words : List ℕ) (n : ℕ) → length words ≡ 2 → (length (set words 1 n) ≡ 2) × (slice_index (set words 1 n) 0 ≡ slice_index words 0) × (slice_index (set words 1 n) 1 ≡ n)
second_set [] n e = absurd (omega arith)
second_set (x ∷ []) n e = absurd (omega arith)
second_set (x ∷ y ∷ []) n e = (refl, refl, refl)
second_set (x ∷ y ∷ z ∷ zs) n e = absurd (omega arith)

-- A take adds one to the first word, which doesn't wrap, and keeps what holds.
pub take_allowed : (tasks slots id : ℕ) (me : Carried) → is_done me.0 ≡ false → 0 < me.0.share
    → Allows (IsDesk tasks) slots id me 0 (λ n. (n + 1) % 2 ^ 64) (Takes (step slots 0 1 0 none) me)
take_allowed tasks slots id me free live s r _ at _ =
    let c : ℕ = slice_index s.words 0 in
    let b : ℕ = slice_index s.words 1 in
    let low = room tasks c b s.views r.1 in
    let fits : (c + 1) % 2 ^ 64 ≡ suc c = omega arith in
    let w = first_set s.words (suc c) r.0 in
    let kept = takes tasks c b s.views id me.0 at free live r.1 in
    let D : ℕ × ℕ → Type 0 = λ z. IsDeskState tasks z.0 z.1 (set s.views id (with_claim me.0 c)) in (
      with_claim me.0 c,
      keeps,
      tt,
      subst (λ (n : ℕ). IsDesk tasks (stepped s 0 n id me.1 (with_claim me.0 c) keeps)) (sym fits) (w.0, subst D (λ i. (sym w.1 i, sym w.2 i)) kept),
      (refl, claims_below tasks c b s.views id me.0 at r.1),
    )

-- a change of what a place has seen or told
changes : (tasks c b b' : ℕ) (views : List View) (id : ℕ) (v w : View) → get_elem? views id ≡ some v → w.claims ≡ v.claims → w.share ≡ v.share → w.tasks ≡ v.tasks → 0 < v.share
    → b ≤ b' → w.seen ≤ b' → w.told ≤ b' → IsToldBy b' (set views id w) → IsDeskState tasks c b views → IsDeskState tasks c b' (set views id w)
changes tasks c b b' views id v w at cl sh ta live more seen told from d =
    let same : v.tasks ≡ tasks = own_tasks tasks v live (d.live id v at) in
    record {
      claims = λ h. let s = sum_by-set (λ u. sum_by h u.claims) views id v w at in let a = ap (sum_by h) cl in let is = d.claims h in omega arith;
      reached = each_set (λ u. (u.seen ≤ b') × (u.told ≤ b')) views id w (seen, told) (λ k u e. let r = d.reached k u e in (omega arith, omega arith));
      told = from;
      shares = let s = sum_by-set (λ u. u.share) views id v w at in let is = d.shares in omega arith;
      past = each_set (λ u. sum_by (one_if_past tasks) u.claims ≤ u.share) views id w
          (let a = ap (sum_by (one_if_past tasks)) cl in let o = d.past id v at in omega arith) d.past;
      few = d.few;
      live = each_set (λ u. (u ≡ spent_view) ⊎ ((0 < u.share) × (u.tasks ≡ tasks))) views id w (inr (omega arith, ta ∙ same)) d.live;
    }

-- A look changes no word.
pub look_allowed : (tasks slots id : ℕ) (me : Carried) → 0 < me.0.share → Allows (IsDesk tasks) slots id me 1 (λ n. n) (Looks (step slots 1 0 0 none) me)
look_allowed tasks slots id me live s r _ at _ =
    let c : ℕ = slice_index s.words 0 in
    let b : ℕ = slice_index s.words 1 in
    let w = second_set s.words b r.0 in
    let old = r.1.reached id me.0 at in
    let from = told_set b s.views id me.0 (with_seen me.0 b) at (λ e. e) r.1.told in
    let kept = changes tasks c b b s.views id me.0 (with_seen me.0 b) at refl refl refl live (omega arith) (omega arith) old.1 from r.1 in
    let D : ℕ × ℕ → Type 0 = λ z. IsDeskState tasks z.0 z.1 (set s.views id (with_seen me.0 b)) in
    (with_seen me.0 b, keeps, tt, (w.0, subst D (λ i. (sym w.1 i, sym w.2 i)) kept), (refl, old.0, old.1))

tell_from : (b k : ℕ) (views : List View) (id : ℕ) (v : View) → get_elem? views id ≡ some v → v.told ≤ b → IsToldBy b views → Dec (k ≤ b) → IsToldBy (max b k) (set views id (with_told v k))
tell_from b k views id v at low from (yes d) = let is : max b k ≡ b = omega arith in
    subst (λ (n : ℕ). IsToldBy n (set views id (with_told v k))) (sym is) (told_set b views id v (with_told v k) at (λ e. omega arith) from)
tell_from b k views id v at low from (no n) = let l : b < k = lt_of_not-le n in inr (id, with_told v k, set_here views id (with_told v k) (within views id v at), omega arith)

-- A tell raises the second word to the value, if that is greater.
pub tell_allowed : (tasks slots id k : ℕ) (me : Carried) → 0 < me.0.share → Allows (IsDesk tasks) slots id me 1 (λ n. max n k) (Tells (step slots 1 k 0 none) me)
tell_allowed tasks slots id k me live s r _ at _ =
    let c : ℕ = slice_index s.words 0 in
    let b : ℕ = slice_index s.words 1 in
    let v : View = with_told me.0 k in
    let w = second_set s.words (max b k) r.0 in
    let old = r.1.reached id me.0 at in
    let from = tell_from b k s.views id me.0 at old.1 r.1.told (dec_le k b) in
    let o0 = old.0 in let o1 = old.1 in
    let kept = changes tasks c b (max b k) s.views id me.0 v at refl refl refl live (omega arith) (omega arith) (omega arith) from r.1 in
    let D : ℕ × ℕ → Type 0 = λ z. IsDeskState tasks z.0 z.1 (set s.views id v) in
    (v, keeps, tt, (w.0, subst D (λ i. (sym w.1 i, sym w.2 i)) kept), (refl, old.0, old.1))

each_snoc : (P : View → Type 0) (views : List View) (w : View) → P w → EachView P views → EachView P (views ++ w ∷ [])
each_snoc P views w h each k v e = ⊎_elim (λ t. each k v t) (λ is. subst P is h) (at_snoc views w v k e)

told_snoc : (best : ℕ) (views : List View) (w : View) → IsToldBy best views → IsToldBy best (views ++ w ∷ [])
told_snoc best views w (inl z) = inl z
told_snoc best views w (inr t) = inr (t.0, t.1, at_longer views (w ∷ []) t.0 t.1 t.2, t.3)

-- A split changes no word.
pub split_allowed : (tasks id : ℕ) (v : View) → is_done v ≡ false → 2 ≤ v.share → Splits (IsDesk tasks) id v (after_split v) (split_off v)
split_allowed tasks id v free many s r at =
    let d = r.1 in
    let b : ℕ = slice_index s.words 1 in
    let same : v.tasks ≡ tasks = own_tasks tasks v (omega arith) (d.live id v at) in
    let early : sum_by (one_if_past tasks) v.claims ≡ 0 = none_past tasks v.claims (subst (λ n. any_past n v.claims ≡ false) same free) in
    let x : View = after_split v in
    let y : View = split_off v in
    let old : List View = set s.views id x in (
      r.0,
      record {
        claims = λ h. let s1 = sum_by-set (λ u. sum_by h u.claims) s.views id v x at in let s2 = sum_by_push (λ u. sum_by h u.claims) old y in let is = d.claims h in omega arith;
        reached = each_snoc (λ u. (u.seen ≤ b) × (u.told ≤ b)) old y (omega arith, omega arith) (each_set (λ u. (u.seen ≤ b) × (u.told ≤ b)) s.views id x (d.reached id v at) d.reached);
        told = told_snoc b old y (told_set b s.views id v x at (λ e. e) d.told);
        shares = let s1 = sum_by-set (λ u. u.share) s.views id v x at in let s2 = sum_by_push (λ u. u.share) old y in let is = d.shares in omega arith;
        past = each_snoc (λ u. sum_by (one_if_past tasks) u.claims ≤ u.share) old y (omega arith) (each_set (λ u. sum_by (one_if_past tasks) u.claims ≤ u.share) s.views id x (omega arith) d.past);
        few = d.few;
        live = let P : View → Type 0 = λ u. (u ≡ spent_view) ⊎ ((0 < u.share) × (u.tasks ≡ tasks)) in each_snoc P old y (inr (omega arith, same)) (each_set P s.views id x (inr (omega arith, same)) d.live);
      },
    )

told_join : (best : ℕ) (views : List View) (id other : ℕ) (both w : View) → get_elem? views id ≡ some both → get_elem? views other ≡ some w → ¬ (other ≡ id) → (w.told ≡ best → both.told ≡ best)
    → IsToldBy best views → IsToldBy best (set views other spent_view)
told_join best views id other both w at at' apart keep (inl z) = inl z
told_join best views id other both w at at' apart keep (inr t) = dite (ℕ_discrete t.0 other)
    (λ is. let same : t.1 ≡ w = some-injective t.1 w (sym t.2 ∙ ap (get_elem? views) is ∙ at') in
    inr (id, both, set_else views other id spent_view (λ e. apart (sym e)) ∙ at, keep (ap (λ (u : View). u.told) (sym same) ∙ t.3)))
    (λ ne. inr (t.0, t.1, set_else views other t.0 spent_view ne ∙ t.2, t.3))

-- A join changes no word.
pub join_allowed : (tasks id : ℕ) (v : View) (other : ℕ) (w : View) → 0 < v.share → Joins (IsDesk tasks) id v other w (joined v w) spent_view
join_allowed tasks id v other w live s r at apart at' =
    let d = r.1 in
    let b : ℕ = slice_index s.words 1 in
    let x : View = joined v w in
    let mid : List View = set s.views id x in
    let here = set_here s.views id x (within s.views id v at) in
    let there : get_elem? s.views other ≡ some w = sym (set_else s.views id other x apart) ∙ at' in
    let same : v.tasks ≡ tasks = own_tasks tasks v live (d.live id v at) in
    let r1 = d.reached id v at in
    let r2 = d.reached other w there in
    let a0 = r1.0 in let a1 = r1.1 in let a2 = r2.0 in let a3 = r2.1 in (
      r.0,
      record {
        claims = λ h. let s1 = sum_by-set (λ u. sum_by h u.claims) s.views id v x at in let s2 = sum_by-set (λ u. sum_by h u.claims) mid other w spent_view at' in
            let a = sum_by-append h v.claims w.claims in let is = d.claims h in omega arith;
        reached = let P : View → Type 0 = λ u. (u.seen ≤ b) × (u.told ≤ b) in each_set P mid other spent_view (omega arith, omega arith) (each_set P s.views id x (omega arith, omega arith) d.reached);
        told = told_join b mid id other x w here at' apart (λ e. omega arith) (told_set b s.views id v x at (λ e. omega arith) d.told);
        shares = let s1 = sum_by-set (λ u. u.share) s.views id v x at in let s2 = sum_by-set (λ u. u.share) mid other w spent_view at' in let is = d.shares in omega arith;
        past = let P : View → Type 0 = λ u. sum_by (one_if_past tasks) u.claims ≤ u.share in each_set P mid other spent_view (omega arith)
            (each_set P s.views id x (let a = sum_by-append (one_if_past tasks) v.claims w.claims in let l1 = d.past id v at in let l2 = d.past other w there in omega arith) d.past);
        few = d.few;
        live = let P : View → Type 0 = λ u. (u ≡ spent_view) ⊎ ((0 < u.share) × (u.tasks ≡ tasks)) in each_set P mid other spent_view (inl refl) (each_set P s.views id x (inr (omega arith, same)) d.live);
      },
    )

-- ---- Whether a place is done after a step.

leb_not : (a b : ℕ) → leb a b ≡ not (nat_lt b a)
leb_not a b = grind (arith, nat_tests)

-- After a take the place is done where the number is no task's.
pub done_take : (m m' : Carried) (tasks n : ℕ) → tasks ≡ m.0.tasks → is_done m.0 ≡ false → m' ≡ (with_claim m.0 n, m.1) → leb tasks n ≡ is_done m'.0
done_take m m' tasks n same free is = leb_not tasks n ∙ ap (λ (k : ℕ). not (nat_lt n k)) same ∙ sym (any_past-push m.0.tasks m.0.claims n free) ∙ ap (λ (x : Carried). is_done x.0) (sym is)

-- After a join the place is done where one of the two was.
pub done_join : (m o m' : Carried) (a b : Bool) → a ≡ is_done m.0 → b ≡ is_done o.0 → o.0.tasks ≡ m.0.tasks → m' ≡ (joined m.0 o.0, m.1) → (a || b) ≡ is_done m'.0
done_join m o m' a b ea eb same is =
    (λ i. ea i || eb i) ∙ ap (λ (k : ℕ). any_past m.0.tasks m.0.claims || any_past k o.0.claims) same
    ∙ sym (any_past-append m.0.tasks m.0.claims o.0.claims) ∙ ap (λ (x : Carried). is_done x.0) (sym is)

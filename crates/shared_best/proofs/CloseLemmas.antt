-- What holds once one place has the whole share.
use Rattle.std.proofs.Common.{◌≡◌, ◌≢◌, ℕ, zero, suc, ◌+◌, ◌^◌, ◌<◌, ◌≤◌, ◌==◌, true, nat_lt, cond, List, [], ◌∷◌, set, slice_index, sum_by, count_by, sym, refl, ap, ◌∙◌, ⊎_elim, arith}
use mathlib.Core.Option.{some, some-injective, some-ne-none}
use mathlib.Core.Logic.{dite}
use native.Mathlib.Decide.{ℕ_discrete}
use lib.ListN.{get_elem?}
use Rattle.atomic_table.specs.Table.{Final, Seen}
use Rattle.atomic_table.proofs.Lists.{set_else}
use Rattle.offer_model.specs.Assortments.{sum_below}
use Rattle.shared_best.specs.declared.view.View.{View}
use Rattle.shared_best.specs.Views.{spent_view, any_past, is_done}
use Rattle.shared_best.specs.DeskStates.{EachView, IsDeskState, IsDesk}
use Rattle.shared_best.proofs.TotalLemmas.{sum_by-set, sum_by-at, sum_by-alone}
use Rattle.shared_best.proofs.ClaimLemmas.{one_if_is, below_once, past_below}
use Rattle.shared_best.proofs.StepLemmas.{claims_below}

-- Each number below the number of claims was claimed once, by one place.
pub claimed_once : (tasks c b : ℕ) (views : List View) → IsDeskState tasks c b views → (x : ℕ) → sum_by (λ v. count_by (λ y. y == x) v.claims) views ≡ cond (nat_lt x c) 1 0
claimed_once tasks c b views d x = d.claims (one_if_is x) ∙ below_once x c

-- Where a place is done, more numbers were claimed than there are tasks.
pub done_past : (tasks c b : ℕ) (views : List View) → IsDeskState tasks c b views → (k : ℕ) (v : View) → get_elem? views k ≡ some v → is_done v ≡ true → tasks < c
done_past tasks c b views d k v at done = past_below tasks c v.claims
    (⊎_elim (λ e. absurd (spent_done v e done)) (λ t. ap (λ (n : ℕ). any_past n v.claims) (sym t.1) ∙ done) (d.live k v at))
    (claims_below tasks c b views k v at d)
  where
    spent_done : (u : View) → u ≡ spent_view → is_done u ≡ true → ⊥
    spent_done u e t = let f = ap is_done (sym e) ∙ t in cc

two_sums : (f : View → ℕ) (views : List View) (i j : ℕ) (v w : View) → get_elem? views i ≡ some v → get_elem? views j ≡ some w → j ≢ i → f spent_view ≡ 0 → f v + f w ≤ sum_by f views
two_sums f views i j v w ati atj ne z = let s = sum_by-set f views i v spent_view ati in let l = sum_by-at f (set views i spent_view) j w (set_else views i j spent_view ne ∙ atj) in omega arith

-- A place with the whole share is the only one.
pub whole_alone : (tasks c b : ℕ) (views : List View) → IsDeskState tasks c b views → (k : ℕ) (v : View) → get_elem? views k ≡ some v → v.share ≡ 2 ^ 32
    → (j : ℕ) (w : View) → get_elem? views j ≡ some w → j ≢ k → w ≡ spent_view
whole_alone tasks c b views d k v at all j w there ne = ⊎_elim (λ e. e)
    (λ t. let p = t.0 in let two = two_sums (λ u. u.share) views k j v w at there ne refl in let s = d.shares in absurd (omega arith))
    (d.live j w there)

spent_told : (u : View) → u ≡ spent_view → u.told ≡ 0
spent_told u e = ap (λ (x : View). x.told) e

-- The last place has all claims, and told the greatest number.
pub ended : (tasks c b : ℕ) (views : List View) (id : ℕ) (v : View) → get_elem? views id ≡ some v → v.share ≡ 2 ^ 32
    → IsDeskState tasks c b views → ((h : ℕ → ℕ) → sum_by h v.claims ≡ sum_below c h) × (v.told ≡ b) × (v.seen ≤ b)
ended tasks c b views id v at all d =
    let whole : sum_by (λ u. u.share) views ≡ v.share = d.shares ∙ sym all in
    let empty : (h : ℕ → ℕ) → EachView (λ u. u.share ≡ 0 → sum_by h u.claims ≡ 0) views =
    λ h k u e z. ⊎_elim (λ (n : u ≡ spent_view). ap (λ (x : View). sum_by h x.claims) n) (λ t. let p = t.0 in absurd (omega arith)) (d.live k u e) in
    let low = d.reached id v at in
    let low1 = low.1 in (
      (λ h. sym (sum_by-alone (λ u. sum_by h u.claims) (λ u. u.share) views id v at whole (empty h)) ∙ d.claims h),
      ⊎_elim (λ z. omega arith)
          (λ t. dite (ℕ_discrete t.0 id) (λ is. ap (λ (u : View). u.told) (sym (some-injective t.1 v (sym t.2 ∙ ap (get_elem? views) is ∙ at))) ∙ t.3)
          (λ ne. let two = two_sums (λ u. u.share) views id t.0 v t.1 at t.2 ne refl in let z : t.1.told ≡ 0 = ⊎_elim (λ n. spent_told t.1 n) (λ p. let q = p.0 in absurd (omega arith)) (d.live t.0 t.1 t.2) in
          let e = t.3 in omega arith))
          d.told,
      low.0,
    )

at_value : (xs : List ℕ) (i x : ℕ) → get_elem? xs i ≡ some x → slice_index xs i ≡ x
at_value [] i x e = absurd (some-ne-none x (sym e))
at_value (y ∷ ys) zero x e = some-injective y x e
at_value (y ∷ ys) (suc i) x e = at_value ys i x e

-- What the two words say at the close.
pub closed_claims : (tasks : ℕ) (words : List ℕ) (id : ℕ) (v : View) (x y : ℕ) (ws : List (Unit {0}))
    → Final (Seen (IsDesk tasks) id v) words ws → v.share ≡ 2 ^ 32 → get_elem? words 0 ≡ some x → get_elem? words 1 ≡ some y
    → ((h : ℕ → ℕ) → sum_by h v.claims ≡ sum_below x h) × (y ≡ v.told) × (v.seen ≤ y)
closed_claims tasks words id v x y ws f all ex ey =
    let s = f.0 in
    let c : slice_index s.words 0 ≡ x = ap (λ (l : List ℕ). slice_index l 0) f.2 ∙ at_value words 0 x ex in
    let b : slice_index s.words 1 ≡ y = ap (λ (l : List ℕ). slice_index l 1) f.2 ∙ at_value words 1 y ey in
    let e = ended tasks (slice_index s.words 0) (slice_index s.words 1) s.views id v f.1.1 all f.1.0.1 in
    let seen = e.2 in ((λ h. e.0 h ∙ ap (λ (n : ℕ). sum_below n h) c), sym (e.1 ∙ b), omega arith)

-- The multipliers of a filling: their bound is what the filling is worth.
use Rattle.std.specs.Prelude.{◌⊎◌, Option, Some, None, pos, ◌≤ℤ◌, ◌+ℤ◌, ◌-ℤ◌}
use Rattle.std.proofs.Common.{◌≡◌, ◌≢◌, ℕ, zero, suc, ◌+◌, ◌-◌, ◌*◌, ◌^◌, ◌<◌, ◌≤◌, Bool, true, false, cond, List, [], ◌∷◌, length, refl, sym, ap, arith, subst, inl, inr, get_or, ◌∙◌}
use Rattle.std.specs.List.{filter, All}
use Rattle.std.proofs.Math.Nat.{mul-add}
use Rattle.std.proofs.lemmas.Int.{ints}
use Rattle.std.proofs.lemmas.Bool.{cases_eq, false_from_ne_true}
use Rattle.std.proofs.lemmas.Bool.Decides.{nat_tests}
use Rattle.std.proofs.lemmas.List.{get_or_default}
use lib.IntN.{ℤ}
use Rattle.offer_model.specs.Roomy.{Roomy}
use Rattle.offer_model.specs.declared.node.Mark.{Mark}
use Rattle.offer_model.specs.declared.products.Limit.{Limit}
use Rattle.offer_model.specs.declared.products.Limit.TheVariants.{Total, Category, Requires, Shelf, Ladder}
use Rattle.offer_model.specs.Assortments.{offers, sum_below}
use Rattle.offer_model.specs.Problems.{ProblemData, product_count}
use Rattle.offer_model.specs.Revenue.{sum_offered}
use Rattle.offer_model.specs.Validity.{is_cap}
use Rattle.offer_model.specs.Limits.{Meets, IsFeasible}
use Rattle.offer_model.specs.Nodes.{Completes}
use Rattle.offer_model.specs.Prices.{Prices, worth_of}
use Rattle.offer_model.specs.LeafBounds.{relaxed, taken_off, added_to, taken_by, added_by, allowed_by, priced_limits, priced_limit_at, is_priced, IsMultiplier, MultipliersFit, multipliers_bound}
use Rattle.offer_model.proofs.SumLemmas.{over_times, over_same, sum_below-same, sum_below-zeros}
use Rattle.offer_model.proofs.CompletionLemmas.{Completes-from_marks}
use Rattle.offer_model.proofs.MultiplierLemmas.{sum_split, over_none}
use Rattle.limit_rules.specs.Kinds.{kind_of}
use Rattle.limit_rules.specs.declared.kind.Kind.TheVariants.{Caps}
use Rattle.linear_step.specs.Weights.{price_bound}
use Rattle.linear_step.specs.Answers.{IsGreatest}
use Rattle.linear_step.specs.Closings.{number_bound, Closes}
use Rattle.linear_step.specs.declared.closing.Closing.TheVariants.{Multipliers}
use Rattle.linear_step.proofs.CallerLemmas.{clash_has_none, Closes-from_bound, HasShape-at}
use Rattle.rank_step.specs.Caps.{limit_at, cap_of, count_of, PlacesData, category_place, is_place, IsBelow, AreCapPlaces}
use Rattle.rank_step.specs.Rooms.{RoomsData, cutoff_at, cutoff_of}
use Rattle.rank_step.specs.Greedy.{IsFilling, IsFilled}
use Rattle.rank_step.specs.Multipliers.{multiplier_at, AreMultipliers}
use Rattle.rank_step.proofs.PlaceLemmas.{caps_at}
use Rattle.rank_step.proofs.DualityLemmas.{FollowsPrices, UsesUp, tight}
use Rattle.rank_step.proofs.RoomLemmas.{one_at, one_place, counts_at, places_apart}

-- ---- Caps as limits with multipliers.

all_priced : (limits : List Limit) → ((k : ℕ) → k < length limits → is_cap (get_or limits k (Ladder 0)) ≡ true) → filter is_priced limits ≡ limits
all_priced [] h = refl
all_priced (Total cap ∷ limits) h = ap (λ t. Total cap ∷ t) (all_priced limits (λ k l. h (suc k) (omega arith)))
all_priced (Category c cap ∷ limits) h = ap (λ t. Category c cap ∷ t) (all_priced limits (λ k l. h (suc k) (omega arith)))
all_priced (Requires a b ∷ limits) h = let e = h 0 (omega arith) in cc
all_priced (Shelf cap ∷ limits) h = let e = h 0 (omega arith) in cc
all_priced (Ladder l ∷ limits) h = let e = h 0 (omega arith) in cc

takes_counts : (p : ProblemData) (limit : Limit) (u i : ℕ) → is_cap limit ≡ true → taken_by p limit u i ≡ u * count_of p limit i
takes_counts p (Total cap) u i h = refl
takes_counts p (Category c cap) u i h = refl
takes_counts p (Requires a b) u i h = cc
takes_counts p (Shelf cap) u i h = cc
takes_counts p (Ladder l) u i h = cc

adds_none : (limit : Limit) (u i : ℕ) → is_cap limit ≡ true → added_by limit u i ≡ 0
adds_none (Total cap) u i h = refl
adds_none (Category c cap) u i h = refl
adds_none (Requires a b) u i h = cc
adds_none (Shelf cap) u i h = cc
adds_none (Ladder l) u i h = cc

allows_cap : (limit : Limit) (u : ℕ) → is_cap limit ≡ true → allowed_by limit u ≡ u * cap_of limit
allows_cap (Total cap) u h = refl
allows_cap (Category c cap) u h = refl
allows_cap (Requires a b) u h = cc
allows_cap (Shelf cap) u h = cc
allows_cap (Ladder l) u h = cc

meets_cap : (p : ProblemData) (x : List Bool) (limit : Limit) → is_cap limit ≡ true → sum_offered p x (count_of p limit) ≤ cap_of limit → Meets p x limit
meets_cap p x (Total cap) h l = l
meets_cap p x (Category c cap) h l = l
meets_cap p x (Requires a b) h l = cc
meets_cap p x (Shelf cap) h l = cc
meets_cap p x (Ladder k) h l = cc

fits_cap : (limit : Limit) (u : ℕ) → is_cap limit ≡ true → u ≤ 2 ^ 100 → IsMultiplier limit u
fits_cap (Total cap) u h l = l
fits_cap (Category c cap) u h l = l
fits_cap (Requires a b) u h l = cc
fits_cap (Shelf cap) u h l = cc
fits_cap (Ladder k) u h l = cc

-- ---- A sum with one term.

one_none : (n a : ℕ) (f : ℕ → ℕ) → n ≤ a → sum_below n (λ k. f k * one_at (Some a) k) ≡ 0
one_none zero a f l = refl
one_none (suc n) a f l =
    let before = one_none n a f (omega arith) in
    let other : one_at (Some a) n ≡ 0 = grind (arith, nat_tests) in
    rw (before, other) (omega arith)

one_term : (n a : ℕ) (f : ℕ → ℕ) → a < n → sum_below n (λ k. f k * one_at (Some a) k) ≡ f a
one_term zero a f l = absurd (omega arith)
one_term (suc n) a f l = by_place (λ h. one_term n a f h) (cases_eq n a)
  where
    by_place : (a < n → sum_below n (λ k. f k * one_at (Some a) k) ≡ f a) → ((n ≡ a) ⊎ (n ≢ a)) → sum_below (suc n) (λ k. f k * one_at (Some a) k) ≡ f a
    by_place before (inl e) =
        let none = one_none n a f (omega arith) in
        let one : one_at (Some a) n ≡ 1 = grind (arith, nat_tests) in
        rw (none, one, e) (omega arith)
    by_place before (inr ne) =
        let b = before (omega arith) in
        let other : one_at (Some a) n ≡ 0 = grind (arith, nat_tests) in
        rw (b, other) (omega arith)

-- The multiplier of a cap, and 0 where there is none.
paid : List ℕ → Option ℕ → ℕ
paid us None = 0
paid us (Some k) = get_or us k 0

term_at : (us : List ℕ) (place : Option ℕ) → IsBelow (length us) place → sum_below (length us) (λ k. get_or us k 0 * one_at place k) ≡ paid us place
unfolding paid
term_at us None l = sum_below-zeros (length us) (λ k. get_or us k 0 * 0) (λ k h. omega arith)
term_at us (Some a) l = one_term (length us) a (λ k. get_or us k 0) l

-- ---- A filling as an assortment.

-- A filling keeps all caps.
pub filling_feasible : (p : ProblemData) (node : List Mark) (price : ℕ → ℤ) (at : PlacesData) (x : List Bool) (rooms : RoomsData) → AreCapPlaces p at
    → IsFilling p node price at x rooms → IsFeasible p x
filling_feasible p node price at x rooms places f = (
  f.each,
  λ k d l.
      let left = f.taken k l in
      subst (Meets p x) (get_or_default p.limits k (Ladder 0) d l) (meets_cap p x (limit_at p k) (caps_at p places.kind k l) (omega arith)),
)

-- A filling completes its node.
pub filling_completes : (p : ProblemData) (node : List Mark) (price : ℕ → ℤ) (at : PlacesData) (x : List Bool) (rooms : RoomsData)
    → length node ≡ product_count p → IsFilling p node price at x rooms → Completes node x
filling_completes p node price at x rooms long f =
    Completes-from_marks node x (let l = f.each in omega arith) (λ i l. f.agrees i (omega arith))

-- ---- What a product pays.

pays_total : (at : PlacesData) (rooms : RoomsData) (us : List ℕ) → AreMultipliers at rooms us → (total : Option ℕ) → at.total ≡ total
    → IsBelow (length rooms.cutoffs) total → paid us total ≡ cutoff_of rooms total
unfolding paid
pays_total at rooms us are None e l = refl
pays_total at rooms us are (Some t) e l = are.is t l ∙ rw (e, one_place t) refl

pays_own : (at : PlacesData) (rooms : RoomsData) (us : List ℕ) → AreMultipliers at rooms us → (own : Option ℕ)
    → IsBelow (length rooms.cutoffs) own → ((k : ℕ) → own ≡ Some k → is_place at.total k ≡ false)
    → paid us own ≡ cutoff_of rooms own - cutoff_of rooms at.total
unfolding paid
pays_own at rooms us are None l apart = omega arith
pays_own at rooms us are (Some k) l apart = are.is k l ∙ rw (apart k refl) refl

-- A product's category's cap isn't the total cap.
apart : (p : ProblemData) (at : PlacesData) (i k : ℕ) → AreCapPlaces p at → i < product_count p → category_place at i ≡ Some k → is_place at.total k ≡ false
apart p at i k places inside e = false_from_ne_true (is_place at.total k) (λ t.
    let in_all : IsBelow (length p.limits) (Some k) = subst (IsBelow (length p.limits)) e (places.below.category_in i inside) in
    let most = places_apart p at i k places inside in_all in
    let one : one_at at.total k ≡ 1 = rw t refl in
    let other : one_at (category_place at i) k ≡ 1 = rw (e, one_place k) refl in
    absurd (omega arith))

-- ---- The bound.

-- A node that is filled is answered by its filling, and the multipliers bring the bound down to its weight.
pub filled_tight : (p : ProblemData) (node : List Mark) (prices : Prices) (at : PlacesData) (x : List Bool) (rooms : RoomsData) (us : List ℕ)
    → length node ≡ product_count p → AreCapPlaces p at → IsFilled p node prices.price at x rooms → AreMultipliers at rooms us
    → MultipliersFit p us × IsGreatest p prices node x × (worth_of p prices x ≡ multipliers_bound p node us prices)
filled_tight p node prices at x rooms us long places filled are = (fit, best.0, best.1)
  where
    f : IsFilling p node prices.price at x rooms
    f = filled.filling

    limits_priced : priced_limits p ≡ p.limits
    limits_priced = all_priced p.limits (caps_at p places.kind)

    us_long : length us ≡ length p.limits
    us_long = are.each ∙ f.kept.cutoffs

    limit_is : (k : ℕ) → priced_limit_at p k ≡ limit_at p k
    limit_is k = ap (λ (t : List Limit). get_or t k (Ladder 0)) limits_priced

    cap_at : (k : ℕ) → k < length us → is_cap (priced_limit_at p k) ≡ true
    cap_at k l = subst (λ t. is_cap t ≡ true) (sym (limit_is k)) (caps_at p places.kind k (let e = us_long in omega arith))

    below_cutoff : (k : ℕ) → k < length us → get_or us k 0 ≤ cutoff_at rooms k
    below_cutoff k l =
        let e = are.is k (let h = are.each in omega arith) in
        rw e (elim (is_place at.total k) as (λ v. cond v (cutoff_at rooms k) (cutoff_at rooms k - cutoff_of rooms at.total) ≤ cutoff_at rooms k) [ true ↦ omega arith | false ↦ omega arith ])

    fit : MultipliersFit p us
    fit = record {
      each = us_long ∙ sym (ap (λ (t : List Limit). length t) limits_priced);
      small = λ k l.
          let low = below_cutoff k l in
          let small = f.small k in
          fits_cap (priced_limit_at p k) (get_or us k 0) (cap_at k l) (omega arith);
    }

    added_is : (i : ℕ) → added_to p us i ≡ 0
    added_is i = sum_below-zeros (length us) (λ k. added_by (priced_limit_at p k) (get_or us k 0) i) (λ k l. adds_none (priced_limit_at p k) (get_or us k 0) i (cap_at k l))

    among : (place : Option ℕ) → IsBelow (length p.limits) place → IsBelow (length rooms.cutoffs) place
    among place = subst (λ n. IsBelow n place) (sym f.kept.cutoffs)

    with_us : (place : Option ℕ) → IsBelow (length p.limits) place → IsBelow (length us) place
    with_us place = subst (λ n. IsBelow n place) (sym us_long)

    taken_is : (i : ℕ) → i < product_count p → taken_off p us i ≡ paid us at.total + paid us (category_place at i)
    taken_is i inside =
        sum_below-same (length us) (λ k. taken_by p (priced_limit_at p k) (get_or us k 0) i)
        (λ k. get_or us k 0 * one_at at.total k + get_or us k 0 * one_at (category_place at i) k)
        (λ k l.
        let count = counts_at p at i k places inside (let e = us_long in omega arith) in
        takes_counts p (priced_limit_at p k) (get_or us k 0) i (cap_at k l) ∙ rw (limit_is k, count, mul-add) refl)
        ∙ sum_split (length us) (λ k. get_or us k 0 * one_at at.total k) (λ k. get_or us k 0 * one_at (category_place at i) k)
        ∙ rw (
          term_at us at.total (with_us at.total places.below.total_in),
          term_at us (category_place at i) (with_us (category_place at i) (places.below.category_in i inside)),
        ) refl

    -- The greater of its two cutoffs.
    taken_cutoffs : (i : ℕ) → i < product_count p
        → taken_off p us i ≡ cutoff_of rooms at.total + (cutoff_of rooms (category_place at i) - cutoff_of rooms at.total)
    taken_cutoffs i inside =
        let a = pays_total at rooms us are at.total refl (among at.total places.below.total_in) in
        let b = pays_own at rooms us are (category_place at i) (among (category_place at i) (places.below.category_in i inside))
        (λ k e. apart p at i k places inside e) in
        taken_is i inside ∙ rw (a, b) refl

    left_low : (i : ℕ) → i < product_count p
        → ((prices.price i ≤ℤ pos (cutoff_of rooms at.total)) ⊎ (prices.price i ≤ℤ pos (cutoff_of rooms (category_place at i))))
        → ((prices.price i +ℤ pos (added_to p us i)) -ℤ pos (taken_off p us i)) ≤ℤ pos 0
    left_low i inside (inl l) = let e = added_is i in let t = taken_cutoffs i inside in omega (arith, ints)
    left_low i inside (inr l) = let e = added_is i in let t = taken_cutoffs i inside in omega (arith, ints)

    follows : FollowsPrices p node (relaxed p us prices).price x
    follows = record {
      chosen = λ i inside m o.
          let earned = f.earned i inside m o in
          let a = earned.0 in
          let b = earned.1 in
          let e = added_is i in
          let t = taken_cutoffs i inside in
          omega (arith, ints);
      left = λ i inside m o. left_low i inside (filled.refused i inside m o);
    }

    used : (k : ℕ) → k < length us → (u : ℕ) → get_or us k 0 ≡ u → u * sum_offered p x (count_of p (limit_at p k)) ≡ u * cap_of (limit_at p k)
    used k l zero e = omega arith
    used k l (suc u) e =
        let low = below_cutoff k l in
        let none = f.spent k (omega arith) in
        let left = f.taken k (let h = us_long in omega arith) in
        ap (λ t. suc u * t) (omega arith)

    uses : UsesUp p us x
    uses k l =
        let limit = priced_limit_at p k in
        let u = get_or us k 0 in
        let takes = over_same (product_count p) (offers x) (taken_by p limit u) (λ i. u * count_of p limit i) (λ i. takes_counts p limit u i (cap_at k l)) in
        let times = over_times (product_count p) (offers x) u (count_of p limit) in
        let adds = over_same (product_count p) (offers x) (added_by limit u) (λ i. 0) (λ i. adds_none limit u i (cap_at k l)) in
        let none = over_none (product_count p) (offers x) in
        let allows = allows_cap limit u (cap_at k l) in
        let use_up : u * sum_offered p x (count_of p limit) ≡ u * cap_of limit
        = subst (λ t. u * sum_offered p x (count_of p t) ≡ u * cap_of t) (sym (limit_is k)) (used k l u refl) in
        takes ∙ times ∙ use_up ∙ sym (rw (allows, adds, none) (omega arith))

    best : IsGreatest p prices node x × (worth_of p prices x ≡ multipliers_bound p node us prices)
    best = tight p node us prices x (filling_feasible p node prices.price at x rooms places f) (filling_completes p node prices.price at x rooms long f) fit follows uses

-- A list of the values of a function.
made : (n : ℕ) (f : ℕ → ℕ) → (us : List ℕ) × (length us ≡ n) × ((k : ℕ) → k < n → get_or us k 0 ≡ f k)
made zero f = ([], refl, λ k l. absurd (omega arith))
made (suc n) f =
    let rest = made n (λ k. f (suc k)) in
    (f 0 ∷ rest.0, (let l = rest.1 in omega arith), λ k l. first rest.0 k (λ j h. rest.2 j h) l)
  where
    first : (us : List ℕ) (k : ℕ) → ((j : ℕ) → j < n → get_or us j 0 ≡ f (suc j)) → k < suc n → get_or (f 0 ∷ us) k 0 ≡ f k
    first us zero h l = refl
    first us (suc k) h l = h k (omega arith)

-- What is filled by rank is greatest.
pub filled_greatest : (p : ProblemData) (node : List Mark) (prices : Prices) (at : PlacesData) (x : List Bool) (rooms : RoomsData)
    → length node ≡ product_count p → AreCapPlaces p at → IsFilled p node prices.price at x rooms → IsGreatest p prices node x
filled_greatest p node prices at x rooms long places filled =
    let us = made (length rooms.cutoffs) (multiplier_at at rooms) in
    (filled_tight p node prices at x rooms us.0 long places filled (record { each = us.1; is = us.2 })).1

-- The multipliers are as small as the cutoffs.
multipliers_small : (at : PlacesData) (rooms : RoomsData) (us : List ℕ) → AreMultipliers at rooms us → ((k : ℕ) → cutoff_at rooms k ≤ price_bound)
    → All (λ u. u ≤ number_bound) us
multipliers_small at rooms us are small k d l =
    let e = are.is k (let h = are.each in omega arith) in
    let low : multiplier_at at rooms k ≤ cutoff_at rooms k = elim (is_place at.total k) as (λ v. cond v (cutoff_at rooms k) (cutoff_at rooms k - cutoff_of rooms at.total) ≤ cutoff_at rooms k) [ true ↦ omega arith | false ↦ omega arith ] in
    let s = small k in
    rw (get_or_default us k d 0 l) (omega arith)

-- The multipliers of what is filled by rank close the node.
pub filled_closes : (p : ProblemData) (node : List Mark) (prices : Prices) (at : PlacesData) (x : List Bool) (rooms : RoomsData) (us : Roomy ℕ)
    → length node ≡ product_count p → AreCapPlaces p at → IsFilled p node prices.price at x rooms → AreMultipliers at rooms us.items
    → Closes p prices node (Multipliers us)
filled_closes p node prices at x rooms us long places filled are =
    let all = filled_tight p node prices at x rooms us.items long places filled are in
    Closes-from_bound p prices node (Multipliers us) (multipliers_bound p node us.items prices) (λ c. cc)
    (HasShape-at (kind_of p.limits) Caps (Multipliers us) places.kind tt)
    (multipliers_small at rooms us.items are filled.filling.small)
    (λ clash. clash_has_none p node clash x all.1.feasible all.1.completes)
    (all.0, refl) (inl (x, all.1, all.2))

-- Small numbers are multipliers that fit.
use Rattle.std.proofs.Common.{◌≡◌, ℕ, ◌^◌, ◌<◌, ◌≤◌, true, List, length, ap, ◌∙◌, subst, arith}
use Rattle.std.specs.Prelude.{slice_index, slice_get, Some}
use Rattle.std.proofs.lemmas.List.Elements.{All-get_or, All-weaker, All-filter, recursion_from_All, filter_passes}
use Rattle.std.proofs.lemmas.Option.{slice_get_within}
use Rattle.offer_model.specs.declared.products.Limit.{Limit}
use Rattle.offer_model.specs.declared.products.Limit.TheVariants.{Total, Category, Requires, Shelf, Ladder}
use Rattle.offer_model.specs.Problems.{ProblemData}
use Rattle.offer_model.specs.Validity.{IsProblem, IsInRange, NamesExisting}
use Rattle.offer_model.specs.LeafBounds.{is_priced, priced_limits, priced_limit_at, IsMultiplier}
use Rattle.offer_model.specs.Ranges.{number_bound}
use Rattle.multiplier_bound.specs.Fits.{MultipliersData, HasLists, AreFit, AreSmall}
use Rattle.multiplier_bound.proofs.RelaxLemmas.{limit_is}

small_is_multiplier : (limit : Limit) (u : ℕ) → is_priced limit ≡ true → u ≤ 2 ^ 100 → IsMultiplier limit u
small_is_multiplier (Total cap) u e h = h
small_is_multiplier (Category c cap) u e h = h
small_is_multiplier (Shelf space) u e h = h
small_is_multiplier (Requires a b) u e h = tt
small_is_multiplier (Ladder l) u e h = cc

small_at : (us : List ℕ) (k : ℕ) → AreSmall us → k < length us → slice_index us k ≤ 2 ^ 100
small_at us k s l = All-get_or (λ u. u ≤ 2 ^ 100) us k 0 l s

-- Small numbers, one for each limit, are multipliers that fit.
pub small_fit : (p : ProblemData) (us : List ℕ) → IsProblem p → length us ≡ length (priced_limits p) → AreSmall us → AreFit p us
small_fit p us v e s = record {
  valid = v;
  fit = record {
    each = e;
    small = λ k l. small_is_multiplier (priced_limit_at p k) (slice_index us k)
        (All-get_or (λ x. is_priced x ≡ true) (priced_limits p) k (Ladder 0) (omega arith) (filter_passes is_priced p.limits)) (small_at us k s l);
  };
  numbers = recursion_from_All (λ u. u ≤ number_bound) us (All-weaker (λ u. u ≤ 2 ^ 100) (λ u. u ≤ number_bound) (λ u h. omega arith) us s);
}

-- So are those of a list that is as long as one that fits the limits.
pub held_fit : (p : ProblemData) (held now : MultipliersData) (own us : List ℕ) → IsProblem p → length own ≡ length held.priced → held ≡ now → HasLists p now
    → length us ≡ length own → AreSmall us → AreFit p us
held_fit p held now own us v long e lists same s =
    small_fit p us v (same ∙ long ∙ ap (λ (d : MultipliersData). length d.priced) e ∙ ap length lists.priced) s

-- ---- The limit at a place is in range, and what it names is there.

-- Its number is in range.
pub priced_in_range : (p : ProblemData) (limits : List Limit) (k : ℕ) (limit : Limit) → IsProblem p → limits ≡ priced_limits p → slice_get limits k ≡ Some limit
    → IsInRange limit
priced_in_range p limits k limit v e got =
    let inside = slice_get_within limits k limit got in
    let l : k < length (priced_limits p) = subst (λ (z : List Limit). k < length z) e inside in
    subst IsInRange (limit_is p limits k limit e got)
    (All-get_or IsInRange (priced_limits p) k (Ladder 0) l (All-filter is_priced IsInRange p.limits v.limits.in_range))

-- What it names is there.
pub priced_named : (p : ProblemData) (limits : List Limit) (k : ℕ) (limit : Limit) → IsProblem p → limits ≡ priced_limits p → slice_get limits k ≡ Some limit
    → NamesExisting p limit
priced_named p limits k limit v e got =
    let inside = slice_get_within limits k limit got in
    let l : k < length (priced_limits p) = subst (λ (z : List Limit). k < length z) e inside in
    subst (NamesExisting p) (limit_is p limits k limit e got)
    (All-get_or (NamesExisting p) (priced_limits p) k (Ladder 0) l (All-filter is_priced (NamesExisting p) p.limits v.limits.named))

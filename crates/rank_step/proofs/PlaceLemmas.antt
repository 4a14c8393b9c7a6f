-- The places of the caps among the limits.
use Rattle.std.specs.Prelude.{◌==◌, Option, Some, None}
use Rattle.std.proofs.Common.{◌≡◌, ◌≢◌, ℕ, zero, suc, ◌+◌, ◌<◌, Bool, true, false, cond, List, [], ◌∷◌, length, refl, sym, ap, arith, subst, get_or, ◌∙◌, below_more}
use Rattle.std.specs.List.{list_all}
use Rattle.std.proofs.lemmas.Bool.{and_parts, false_from_ne_true}
use Rattle.std.proofs.lemmas.Bool.Decides.{nat_tests}
use Rattle.offer_model.specs.declared.products.Limit.{Limit}
use Rattle.offer_model.specs.declared.products.Limit.TheVariants.{Total, Category, Requires, Shelf, Ladder}
use Rattle.offer_model.specs.Problems.{ProblemData, product_count, product_at}
use Rattle.offer_model.specs.Validity.{is_cap, Repeats, IsProblem}
use Rattle.limit_rules.specs.Kinds.{kind_of}
use Rattle.limit_rules.specs.declared.kind.Kind.TheVariants.{Caps}
use Rattle.limit_rules.proofs.CallerLemmas.{Caps-all}
use Rattle.rank_step.specs.Caps.{limit_at, is_total, is_of_category, PlacesData, category_place, is_place, IsBelow, ArePlacesBelow, AreCapPlaces}

two_totals : (a b : Limit) → is_total a ≡ true → is_total b ≡ true → Repeats a b
two_totals (Total a) (Total b) e f = tt
two_totals (Total a) (Category c b) e f = cc
two_totals (Total a) (Requires c b) e f = cc
two_totals (Total a) (Shelf b) e f = cc
two_totals (Total a) (Ladder b) e f = cc
two_totals (Category c a) l e f = cc
two_totals (Requires c a) l e f = cc
two_totals (Shelf a) l e f = cc
two_totals (Ladder a) l e f = cc

same_number : (a c d : ℕ) → (a == c) ≡ true → (a == d) ≡ true → c ≡ d
same_number a c d e f = grind (arith, nat_tests)

two_of_category : (p : ProblemData) (i : ℕ) (a b : Limit) → is_of_category p a i ≡ true → is_of_category p b i ≡ true → Repeats a b
two_of_category p i (Category c a) (Category d b) e f = same_number (product_at p i).category c d e f
two_of_category p i (Category c a) (Total b) e f = cc
two_of_category p i (Category c a) (Requires d b) e f = cc
two_of_category p i (Category c a) (Shelf b) e f = cc
two_of_category p i (Category c a) (Ladder b) e f = cc
two_of_category p i (Total a) l e f = cc
two_of_category p i (Requires c a) l e f = cc
two_of_category p i (Shelf a) l e f = cc
two_of_category p i (Ladder a) l e f = cc

other : (j k : ℕ) → j ≢ k → (j == k) ≡ false
other j k h = grind (arith, nat_tests)

same : (j : ℕ) → (j == j) ≡ true
same j = grind (arith, nat_tests)

-- A place below k isn't k.
elsewhere : (place : Option ℕ) (k : ℕ) → IsBelow k place → is_place place k ≡ false
elsewhere None k h = refl
elsewhere (Some a) k h = other k a (omega arith)

further : (place : Option ℕ) (k : ℕ) → IsBelow k place → IsBelow (k + 1) place
further None k h = tt
further (Some a) k h = omega arith

never_twice : (p : ProblemData) (test : Limit → Bool) → IsProblem p → ((a b : Limit) → test a ≡ true → test b ≡ true → Repeats a b)
    → (j k : ℕ) → j < k → k < length p.limits → test (limit_at p k) ≡ true → test (limit_at p j) ≡ false
never_twice p test v two j k l inside e = false_from_ne_true (test (limit_at p j))
    (λ h. v.limits.once j k (Ladder 0) l inside (two (limit_at p j) (limit_at p k) h e))

-- The total cap stands at place k.
pub places_with_total : (p : ProblemData) (at : PlacesData) (k cap : ℕ) → IsProblem p → k < length p.limits → limit_at p k ≡ Total cap
    → ArePlacesBelow p k at → ArePlacesBelow p (k + 1) (record { total = Some k; category = at.category })
places_with_total p at k cap v inside is n = record {
  each = n.each;
  total_is = below_more (λ j. is_total (limit_at p j) ≡ (j == k)) k
      (λ j l. never_twice p is_total v two_totals j k l inside (ap is_total is) ∙ sym (other j k (omega arith)))
      (ap is_total is ∙ sym (same k));
  category_is = λ i j li l. below_more (λ j. is_of_category p (limit_at p j) i ≡ is_place (category_place at i) j) k (λ j l. n.category_is i j li l)
      (ap (λ t. is_of_category p t i) is ∙ sym (elsewhere (category_place at i) k (n.category_in i li))) j l;
  total_in = omega arith;
  category_in = λ i l. further (category_place at i) k (n.category_in i l);
}

-- A category's cap stands at place k.
pub places_with_category : (p : ProblemData) (at next : PlacesData) (k c cap : ℕ) → IsProblem p → k < length p.limits → limit_at p k ≡ Category c cap
    → next.total ≡ at.total → length next.category ≡ product_count p
    → ((i : ℕ) → i < product_count p → category_place next i ≡ cond ((product_at p i).category == c) (Some k) (category_place at i))
    → ArePlacesBelow p k at → ArePlacesBelow p (k + 1) next
places_with_category p at next k c cap v inside is total long put n = record {
  each = long;
  total_is = rw total (below_more (λ j. is_total (limit_at p j) ≡ is_place at.total j) k n.total_is
      (ap is_total is ∙ sym (elsewhere at.total k n.total_in)));
  category_is = λ i j li l. rw (put i li) (by_category i li ((product_at p i).category == c) refl j l);
  total_in = rw total (further at.total k n.total_in);
  category_in = λ i l. rw (put i l) (inside_by i l ((product_at p i).category == c));
}
  where
    by_category : (i : ℕ) → i < product_count p → (v : Bool) → ((product_at p i).category == c) ≡ v → (j : ℕ) → j < k + 1
        → is_of_category p (limit_at p j) i ≡ is_place (cond v (Some k) (category_place at i)) j
    by_category i li true e = below_more (λ j. is_of_category p (limit_at p j) i ≡ (j == k)) k
        (λ j l. never_twice p (λ t. is_of_category p t i) v (two_of_category p i) j k l inside (ap (λ t. is_of_category p t i) is ∙ e) ∙ sym (other j k (omega arith)))
        (ap (λ t. is_of_category p t i) is ∙ e ∙ sym (same k))
    by_category i li false e = below_more (λ j. is_of_category p (limit_at p j) i ≡ is_place (category_place at i) j) k (λ j l. n.category_is i j li l)
        (ap (λ t. is_of_category p t i) is ∙ e ∙ sym (elsewhere (category_place at i) k (n.category_in i li)))

    inside_by : (i : ℕ) → i < product_count p → (v : Bool) → IsBelow (k + 1) (cond v (Some k) (category_place at i))
    inside_by i l true = omega arith
    inside_by i l false = further (category_place at i) k (n.category_in i l)

is_cap_at : (limits : List Limit) → list_all is_cap limits ≡ true → (k : ℕ) → k < length limits → is_cap (get_or limits k (Ladder 0)) ≡ true
is_cap_at [] h k l = absurd (omega arith)
is_cap_at (limit ∷ limits) h zero l = (and_parts (is_cap limit) (list_all is_cap limits) h).0
is_cap_at (limit ∷ limits) h (suc k) l = is_cap_at limits (and_parts (is_cap limit) (list_all is_cap limits) h).1 k (omega arith)

-- Where caps are the kind of limits, each limit is a cap.
pub caps_at : (p : ProblemData) → kind_of p.limits ≡ Caps → (k : ℕ) → k < length p.limits → is_cap (limit_at p k) ≡ true
caps_at p h = is_cap_at p.limits (Caps-all p.limits h)

-- The places of all limits, where these are caps.
pub places_all : (p : ProblemData) (at : PlacesData) (k : ℕ) → k ≡ length p.limits → kind_of p.limits ≡ Caps → ArePlacesBelow p k at → AreCapPlaces p at
places_all p at k e h n = record { kind = h; below = subst (λ t. ArePlacesBelow p t at) e n }

neither_cap : (limit : Limit) → is_cap limit ≡ true → ((cap : ℕ) → limit ≡ Total cap → ⊥) → ((c cap : ℕ) → limit ≡ Category c cap → ⊥) → ⊥
neither_cap (Total cap) h t c = t cap refl
neither_cap (Category d cap) h t c = c d cap refl
neither_cap (Requires a b) h t c = cc
neither_cap (Shelf cap) h t c = cc
neither_cap (Ladder l) h t c = cc

-- Under caps each limit is the total cap or a category's.
pub no_other : (p : ProblemData) (k : ℕ) (limit : Limit) → kind_of p.limits ≡ Caps → k < length p.limits → limit_at p k ≡ limit
    → ((cap : ℕ) → limit ≡ Total cap → ⊥) → ((c cap : ℕ) → limit ≡ Category c cap → ⊥) → ⊥
no_other p k limit h l e = neither_cap limit (subst (λ t. is_cap t ≡ true) e (caps_at p h k l))

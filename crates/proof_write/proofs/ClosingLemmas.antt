-- What closes a node at the best assortment's own prices closes it in the certificate.
use Rattle.std.proofs.Common.{◌≡◌, ℕ, zero, suc, ◌<◌, ◌≤◌, Bool, true, false, List, [], ◌∷◌, length, refl, sym, arith, subst, inl, inr, ◌⊎◌, Some, None, ◌∙◌}
use Rattle.std.specs.Prelude.{◌≢◌, ◌==◌, ◌||◌, ◌&&◌, if◌then◌else◌, pos, negsuc, ◌≤ℤ◌, ◌<ℤ◌}
use Rattle.std.specs.List.{list_all}
use Rattle.std.proofs.lemmas.Int.{ints}
use Rattle.std.proofs.lemmas.Bool.Decides.{nat_tests}
use Rattle.std.proofs.lemmas.List.Elements.{recursion_from_All}
use Rattle.std.proofs.lemmas.List.Sums.{length-filter, count_by-le-length}
use lib.IntN.{ℤ}
use Rattle.offer_model.specs.declared.node.Mark.{Mark}
use Rattle.offer_model.specs.declared.products.Limit.{Limit}
use Rattle.offer_model.specs.declared.products.ModelName.{ModelName}
use Rattle.offer_model.specs.declared.products.ModelName.TheVariants.{Logit, Attract, Mixed, Chain}
use Rattle.offer_model.specs.Assortments.{IsBefore}
use Rattle.offer_model.specs.Problems.{ProblemData, first_segment}
use Rattle.offer_model.specs.Revenue.{gain_of, weight_of, EarnsMoreUnder, EarnsMoreByRatio}
use Rattle.offer_model.specs.Validity.{IsProblem, IsRatioModel, is_cap, is_requires, is_shelf, is_ladder}
use Rattle.offer_model.specs.Nodes.{Completes}
use Rattle.offer_model.specs.Prices.{Prices, worth_of}
use Rattle.offer_model.specs.LeafBounds.{is_priced}
use Rattle.offer_model.specs.Best.{IsBest}
use Rattle.offer_model.proofs.WorthLemmas.{worth_is}
use Rattle.offer_model.proofs.TieLemmas.{IsBefore-asym}
use Rattle.limit_rules.specs.declared.kind.Kind.{Kind}
use Rattle.limit_rules.specs.declared.kind.Kind.TheVariants as K
use Rattle.limit_rules.specs.Kinds.{kind_of}
use Rattle.linear_step.specs.Answers.{IsGreatest}
use Rattle.linear_step.specs.declared.closing.Closing.{Closing}
use Rattle.linear_step.specs.declared.closing.Closing.TheVariants as C
use Rattle.linear_step.specs.Closings.{IsTop, HasShape, Closes as StepCloses}
use Rattle.proof_lines.specs.declared.line.Shape.{Shape}
use Rattle.proof_lines.specs.declared.line.Shape.TheVariants as S
use Rattle.proof_lines.specs.Closing.{ComesAfter, BoundCloses, own_prices, PricesClose, ClosesUnder, Closes}
use Rattle.proof_lines.specs.Trees.{Tree}
use Rattle.proof_lines.specs.Trees.Tree.{leaf}
use Rattle.proof_lines.specs.Writing.{exact_leaf, IsPathLeaf}
use Rattle.proof_lines.specs.Lines.{LineData}
use Rattle.proof_write.specs.Leaves.{leaf_line, IsPrintable, Says}

-- ---- Revenue is one ratio.

pub earns_by_ratio : (m : ModelName) (p : ProblemData) (x y : List Bool) → IsRatioModel m → EarnsMoreUnder m p x y → EarnsMoreByRatio p x y
earns_by_ratio Logit p x y r h = h
earns_by_ratio Attract p x y r h = h
earns_by_ratio Mixed p x y r h = absurd r
earns_by_ratio Chain p x y r h = absurd r

pub by_ratio_earns : (m : ModelName) (p : ProblemData) (x y : List Bool) → IsRatioModel m → EarnsMoreByRatio p x y → EarnsMoreUnder m p x y
by_ratio_earns Logit p x y r h = h
by_ratio_earns Attract p x y r h = h
by_ratio_earns Mixed p x y r h = absurd r
by_ratio_earns Chain p x y r h = absurd r

-- At the revenue of x nothing that doesn't earn more is worth more than 0.
pub low : (p : ProblemData) (x y : List Bool) → (EarnsMoreByRatio p y x → ⊥) → worth_of p (own_prices p x) y ≤ℤ pos 0
low p x y no_more =
    let e = worth_is p (gain_of p (first_segment p) x) (weight_of p (first_segment p) x) y in
    let le = at_most _ _ no_more in
    omega (arith, ints)
  where
    at_most : (a b : ℕ) → (a < b → ⊥) → b ≤ a
    at_most a b h = omega arith

-- What is worth 0 earns as much.
pub tied : (p : ProblemData) (x y : List Bool) → worth_of p (own_prices p x) y ≡ pos 0 → EarnsMoreByRatio p x y → ⊥
tied p x y zero_worth more =
    let e = worth_is p (gain_of p (first_segment p) x) (weight_of p (first_segment p) x) y in
    omega (arith, ints)

-- ---- The greatest worth.

pub sign : (z : ℤ) → z ≤ℤ pos 0 → (z <ℤ pos 0) ⊎ (z ≡ pos 0)
sign (pos zero) h = inr refl
sign (pos (suc n)) h = absurd (omega (arith, ints))
sign (negsuc n) h = inl (omega (arith, ints))

-- The node's first completion comes after x, or is x itself, or each completion is before x.
abbrev pub IsBeside : List Bool → List Mark → Type 0
IsBeside x node = ComesAfter node x ⊎ ((y : List Bool) → Completes node y → IsBefore y x)

-- A completion of greatest worth is worth 0 at most, and where it is worth 0 it isn't before x.
top_closes : (p : ProblemData) (x : List Bool) (node : List Mark) (z : ℤ) → IsRatioModel p.model → IsBest p x
    → IsTop p (own_prices p x) node z → IsBeside x node → BoundCloses x node (Some z)
top_closes p x node z ratio best (inr none) side = inl none.1
top_closes p x node z ratio best (inl top) side =
    by_sign side (sign z (subst (λ t. t ≤ℤ pos 0) is (low p x y (λ more. best.most y greatest.feasible (by_ratio_earns p.model p y x ratio more)))))
  where
    y : List Bool
    y = top.0

    greatest : IsGreatest p (own_prices p x) node y
    greatest = top.1

    is : worth_of p (own_prices p x) y ≡ z
    is = top.2

    by_sign : IsBeside x node → ((z <ℤ pos 0) ⊎ (z ≡ pos 0)) → BoundCloses x node (Some z)
    by_sign side (inl below) = inl below
    by_sign (inl first) (inr e) = inr (e, first)
    by_sign (inr all) (inr e) =
        let before = all y greatest.completes in
        let after = best.first y greatest.feasible (λ same. IsBefore-asym x x (subst (λ t. IsBefore t x) same before) (subst (λ t. IsBefore t x) same before))
        (λ more. tied p x y (is ∙ e) (earns_by_ratio p.model p x y ratio more)) in
        absurd (IsBefore-asym x y after before)

-- ---- The leaf closes.

by_model : (m : ModelName) (p : ProblemData) (x : List Bool) (node : List Mark) (shape : Shape) (us : List ℕ) → IsRatioModel m
    → PricesClose p x node shape us (own_prices p x) → ClosesUnder m p x node shape us
by_model Logit p x node shape us r h = h
by_model Attract p x node shape us r h = h
by_model Mixed p x node shape us r h = absurd r
by_model Chain p x node shape us r h = absurd r

leaf_closes : (p : ProblemData) (x : List Bool) (node : List Mark) (closing : Closing) → IsRatioModel p.model → IsBest p x → IsBeside x node
    → StepCloses p (own_prices p x) node closing → Closes p x node (leaf_line closing).shape (leaf_line closing).numbers
leaf_closes p x node C.Clash ratio best side h = (refl, h.clash.0 refl)
leaf_closes p x node (C.Multipliers us) ratio best side h =
    let b = h.bound (λ e. cc) in
    by_model p.model p x node S.Multipliers us.items ratio
    (b.1.0, subst (λ z. BoundCloses x node (Some z)) (sym b.1.1) (top_closes p x node b.0 ratio best b.2 side))
leaf_closes p x node C.Shelf ratio best side h =
    let b = h.bound (λ e. cc) in
    by_model p.model p x node S.Shelf [] ratio
    (refl, (λ c. let e = h.clash.1 c in cc), subst (λ z. BoundCloses x node z) (sym b.1) (top_closes p x node b.0 ratio best b.2 side))
leaf_closes p x node (C.Potentials us) ratio best side h =
    let b = h.bound (λ e. cc) in
    by_model p.model p x node S.Potentials us.items ratio
    ((λ c. let e = h.clash.1 c in cc), b.1.0, subst (λ z. BoundCloses x node (Some z)) (sym b.1.1) (top_closes p x node b.0 ratio best b.2 side))

-- ---- The leaf's shape.

-- The shape of the leaves for limits of one kind.
abbrev pub shape_for : Kind → Shape
shape_for K.Shelf = S.Shelf
shape_for K.Ladder = S.Potentials
shape_for _ = S.Multipliers

exact_by : (none caps requires shelf ladders : Bool) → (none ≡ true → caps ≡ true)
    → (if none then K.Free else (if caps then K.Caps else (if requires then K.Closure else (if shelf then K.Shelf else (if ladders then K.Ladder else K.General))))) ≢ K.General
    → (if caps || requires then Some S.Multipliers else (if shelf then Some S.Shelf else (if ladders then Some S.Potentials else None)))
    ≡ Some (shape_for (if none then K.Free else (if caps then K.Caps else (if requires then K.Closure else (if shelf then K.Shelf else (if ladders then K.Ladder else K.General))))))
exact_by true true c d e h k = refl
exact_by true false c d e h k = let never = h refl in cc
exact_by false true c d e h k = refl
exact_by false false true d e h k = refl
exact_by false false false true e h k = refl
exact_by false false false false true h k = refl
exact_by false false false false false h k = absurd (k refl)

none_all : (limits : List Limit) → (length limits == 0) ≡ true → list_all is_cap limits ≡ true
none_all [] h = refl
none_all (l ∷ limits) h = absurd (not_empty (length limits) h)
  where
    not_empty : (n : ℕ) → (suc n == 0) ≡ true → ⊥
    not_empty n h = grind (arith, nat_tests)

pub exact_is : (limits : List Limit) → kind_of limits ≢ K.General → exact_leaf limits ≡ Some (shape_for (kind_of limits))
exact_is limits h = exact_by (length limits == 0) (list_all is_cap limits) (list_all is_requires limits)
    (list_all is_shelf limits && (length limits == 1)) (list_all is_ladder limits) (none_all limits) h

shape_is : (k : Kind) (closing : Closing) → HasShape k closing → closing ≢ C.Clash → (leaf_line closing).shape ≡ shape_for k
shape_is k C.Clash h other = absurd (other refl)
shape_is K.Free (C.Multipliers us) h other = refl
shape_is K.Caps (C.Multipliers us) h other = refl
shape_is K.Closure (C.Multipliers us) h other = refl
shape_is K.Shelf C.Shelf h other = refl
shape_is K.Ladder (C.Potentials us) h other = refl
shape_is _ _ h other = absurd h

-- The leaf of a line.
abbrev pub leaf_of : LineData → Tree
leaf_of l = leaf l.shape l.numbers

-- The leaf is a clash exactly where the node clashes, else of the kind's shape.
leaf_fits : (p : ProblemData) (at : Prices) (node : List Mark) (closing : Closing) → StepCloses p at node closing
    → IsPathLeaf p (shape_for (kind_of p.limits)) node (leaf_of (leaf_line closing))
leaf_fits p at node C.Clash h = inl (h.clash.0 refl, refl)
leaf_fits p at node (C.Multipliers us) h = inr ((λ c. let e = h.clash.1 c in cc), shape_is (kind_of p.limits) (C.Multipliers us) h.shape (λ e. cc))
leaf_fits p at node C.Shelf h = inr ((λ c. let e = h.clash.1 c in cc), shape_is (kind_of p.limits) C.Shelf h.shape (λ e. cc))
leaf_fits p at node (C.Potentials us) h = inr ((λ c. let e = h.clash.1 c in cc), shape_is (kind_of p.limits) (C.Potentials us) h.shape (λ e. cc))

-- ---- The leaf can be printed.

Closes-printable : (p : ProblemData) (at : Prices) (node : List Mark) (closing : Closing) → IsProblem p → StepCloses p at node closing → IsPrintable (leaf_line closing)
Closes-printable p at node C.Clash valid h = record { grammar = refl; few = omega arith }
Closes-printable p at node (C.Multipliers us) valid h = record {
  grammar = recursion_from_All _ us.items h.small;
  few = let b = h.bound (λ e. cc) in
      let same = b.1.0.each in
      let priced = length-filter is_priced p.limits in
      let most = count_by-le-length is_priced p.limits in
      let all = valid.limits.few in
      omega arith;
}
Closes-printable p at node C.Shelf valid h = record { grammar = refl; few = omega arith }
Closes-printable p at node (C.Potentials us) valid h = record {
  grammar = recursion_from_All _ us.items h.small;
  few = let b = h.bound (λ e. cc) in
      let same = b.1.0.each in
      let all = valid.few in
      omega arith;
}

-- ---- The same of a line that says it.

-- The line's leaf closes the node.
pub says_closes : (p : ProblemData) (x : List Bool) (node : List Mark) (l : LineData) → IsRatioModel p.model → IsBest p x → IsBeside x node
    → Says p (own_prices p x) node l → Closes p x node l.shape l.numbers
says_closes p x node l ratio best side h = subst (λ z. Closes p x node z.shape z.numbers) h.2 (leaf_closes p x node h.0 ratio best side h.1)

-- It has the form.
pub says_fits : (p : ProblemData) (at : Prices) (node : List Mark) (l : LineData) → Says p at node l → IsPathLeaf p (shape_for (kind_of p.limits)) node (leaf_of l)
says_fits p at node l h = subst (λ z. IsPathLeaf p (shape_for (kind_of p.limits)) node (leaf_of z)) h.2 (leaf_fits p at node h.0 h.1)

-- It can be printed.
pub says_printable : (p : ProblemData) (at : Prices) (node : List Mark) (l : LineData) → IsProblem p → Says p at node l → IsPrintable l
says_printable p at node l valid h = subst IsPrintable h.2 (Closes-printable p at node h.0 valid h.1)

-- Which ladders have a limit.
use Rattle.std.proofs.Common.{◌≡◌, ◌≢◌, ℕ, zero, suc, Bool, true, false, cond, List, [], ◌∷◌, ◌++◌, length, Some, refl, sym, ap, ◌∙◌, arith, ◌<◌, ◌+◌, eqb, eq-eqb, inl, inr}
use Rattle.std.specs.Prelude.{◌⊎◌, slice_get, slice_index_or}
use Rattle.std.proofs.lemmas.Bool.{cases_eq, eqb-true}
use Rattle.std.proofs.lemmas.List.{get_or_default, length_push}
use Rattle.std.proofs.lemmas.Option.{get_or_from_slice_get}
use Rattle.std.specs.List.{list_all}
use Rattle.std.proofs.lemmas.Bool.{false_from_ne_true}
use Rattle.offer_model.specs.declared.products.Limit.{Limit}
use Rattle.offer_model.specs.declared.products.Limit.TheVariants.{Total, Category, Requires, Shelf, Ladder}
use Rattle.offer_model.specs.Problems.{ProblemData}
use Rattle.offer_model.specs.LeafBounds.{is_limited}
use Rattle.offer_model.specs.Validity.{is_ladder}
use Rattle.limit_rules.specs.Broken.{limit_at}
use Rattle.limit_rules.specs.Kinds.{kind_of}
use Rattle.limit_rules.specs.declared.kind.Kind.TheVariants as K
use Rattle.limit_rules.proofs.CallerLemmas.{Ladder-all}
use Rattle.offer_model.proofs.ListLemmas.{pushed_more}
use Rattle.table_steps.specs.LadderRungs.{RungsData, AreRungs, rungs_at}
use Rattle.table_steps.specs.LadderFits.{named_ladder, AreLaddersBelow, AreLadders}

or_true : (b c : Bool) → c ≡ true → cond b true c ≡ true
or_true true c e = refl
or_true false c e = e

-- A ladder that a limit names is limited.
pub limited_by : (limits : List Limit) (l k : ℕ) → k < length limits → slice_index_or limits k (Total 0) ≡ Ladder l → is_limited limits l ≡ true
limited_by [] l k lt e = absurd (omega arith)
limited_by (Ladder m ∷ limits) l zero lt e = rw (eq-eqb m l (ap named_ladder e)) refl
limited_by (Ladder m ∷ limits) l (suc k) lt e = or_true (eqb m l) (is_limited limits l) (limited_by limits l k (omega arith) e)
limited_by (Total cap ∷ limits) l zero lt e = cc
limited_by (Total cap ∷ limits) l (suc k) lt e = limited_by limits l k (omega arith) e
limited_by (Category c cap ∷ limits) l zero lt e = cc
limited_by (Category c cap ∷ limits) l (suc k) lt e = limited_by limits l k (omega arith) e
limited_by (Shelf space ∷ limits) l zero lt e = cc
limited_by (Shelf space ∷ limits) l (suc k) lt e = limited_by limits l k (omega arith) e
limited_by (Requires a b ∷ limits) l zero lt e = cc
limited_by (Requires a b ∷ limits) l (suc k) lt e = limited_by limits l k (omega arith) e

later : (b c : Bool) → (b ≡ true → ⊥) → cond b true c ≡ true → c ≡ true
later true c n t = absurd (n refl)
later false c n t = t

abbrev Named : List Limit → ℕ → Type 0
Named limits l = (k : ℕ) × (k < length limits) × (slice_index_or limits k (Total 0) ≡ Ladder l)

next : (limit : Limit) (limits : List Limit) (l : ℕ) → Named limits l → Named (limit ∷ limits) l
next limit limits l h = (suc h.0, omega (arith, h.1), h.2)

-- A limited ladder is named by a limit.
pub limited_where : (limits : List Limit) (l : ℕ) → is_limited limits l ≡ true
    → (k : ℕ) × (k < length limits) × (slice_index_or limits k (Total 0) ≡ Ladder l)
limited_where [] l h = cc
limited_where (Ladder m ∷ limits) l h = by_number (limited_where limits l) (cases_eq m l)
  where
    by_number : (is_limited limits l ≡ true → Named limits l) → ((m ≡ l) ⊎ (m ≢ l)) → Named (Ladder m ∷ limits) l
    by_number rest (inl e) = (0, omega arith, ap Ladder e)
    by_number rest (inr ne) = next (Ladder m) limits l (rest (later (eqb m l) (is_limited limits l) (λ e. ne (eqb-true m l e)) h))
limited_where (Total cap ∷ limits) l h = next (Total cap) limits l (limited_where limits l h)
limited_where (Category c cap ∷ limits) l h = next (Category c cap) limits l (limited_where limits l h)
limited_where (Shelf space ∷ limits) l h = next (Shelf space) limits l (limited_where limits l h)
limited_where (Requires a b ∷ limits) l h = next (Requires a b) limits l (limited_where limits l h)

-- A ladder that no limit names isn't limited.
pub limited_none : (limits : List Limit) (l : ℕ) → ((k : ℕ) → k < length limits → slice_index_or limits k (Total 0) ≡ Ladder l → ⊥) → is_limited limits l ≡ false
limited_none limits l h = false_from_ne_true (is_limited limits l) (λ t. let w = limited_where limits l t in h w.0 w.1 w.2)

-- Where all limits are ladders, each is that of the ladder that it names.
all_named : (limits : List Limit) (k : ℕ) → k < length limits → list_all is_ladder limits ≡ true
    → slice_index_or limits k (Total 0) ≡ Ladder (named_ladder (slice_index_or limits k (Total 0)))
all_named [] k l h = absurd (omega arith)
all_named (Ladder m ∷ limits) zero l h = refl
all_named (Ladder m ∷ limits) (suc k) l h = all_named limits k (omega arith) h
all_named (Total cap ∷ limits) k l h = cc
all_named (Category c cap ∷ limits) k l h = cc
all_named (Shelf space ∷ limits) k l h = cc
all_named (Requires a b ∷ limits) k l h = cc

-- ---- Of ladders with their products.

-- One more ladder.
pub ladders_more : (p : ProblemData) (k : ℕ) (ladders : List RungsData) (r : RungsData) (limit : Limit) → kind_of p.limits ≡ K.Ladder → k < length p.limits
    → slice_get p.limits k ≡ Some limit → r.ladder ≡ named_ladder limit → AreRungs p r → AreLaddersBelow p k ladders
    → AreLaddersBelow p (k + 1) (ladders ++ r ∷ [])
ladders_more p k ladders r limit kind l read name are below = record {
  each = length_push ladders r ∙ ap (λ t. t + 1) below.each;
  named = pushed_more (λ j t. limit_at p j ≡ Ladder t.ladder) ladders (ladders ++ r ∷ []) r (record { ladder = 0; products = [] }) k refl below.each below.named
      (all_named p.limits k l (Ladder-all p.limits kind)
      ∙ ap Ladder (sym (name ∙ ap named_ladder (sym (get_or_from_slice_get p.limits k limit (Total 0) read)))));
  rungs = pushed_more (λ j t. AreRungs p t) ladders (ladders ++ r ∷ []) r (record { ladder = 0; products = [] }) k refl below.each below.rungs are;
}

-- The ladder that is read is the one at its position.
pub rungs_read : (ladders : List RungsData) (k : ℕ) (r : RungsData) → k < length ladders → r ≡ slice_index_or ladders k r → r ≡ rungs_at ladders k
rungs_read ladders k r l e = e ∙ get_or_default ladders k r (record { ladder = 0; products = [] }) l

-- The ladder at each position is limited.
pub ladder_limited : (p : ProblemData) (ladders : List RungsData) (k : ℕ) → AreLadders p ladders → k < length ladders
    → is_limited p.limits (rungs_at ladders k).ladder ≡ true
ladder_limited p ladders k are l =
    let e = are.below.each in
    limited_by p.limits (rungs_at ladders k).ladder k (omega arith) (are.below.named k (omega arith))

-- A limited ladder is one of them.
pub ladder_where : (p : ProblemData) (ladders : List RungsData) (l : ℕ) → AreLadders p ladders → is_limited p.limits l ≡ true
    → (k : ℕ) × (k < length p.limits) × (l ≡ (rungs_at ladders k).ladder)
ladder_where p ladders l are h =
    let w = limited_where p.limits l h in
    let e : Ladder l ≡ Ladder (rungs_at ladders w.0).ladder = sym w.2 ∙ are.below.named w.0 w.1 in
    (w.0, w.1, ap named_ladder e)

-- No two positions have one ladder.
pub ladders_differ : (p : ProblemData) (ladders : List RungsData) (j k : ℕ) → AreLadders p ladders → j < k → k < length p.limits
    → (rungs_at ladders j).ladder ≢ (rungs_at ladders k).ladder
ladders_differ p ladders j k are lt l e = are.valid.limits.once j k (Total 0) lt l
    (rw (are.below.named j (omega arith), are.below.named k l) e)

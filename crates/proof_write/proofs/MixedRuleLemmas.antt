-- The rule of mixed logit is definite.
use Rattle.std.proofs.Common.{◌≡◌, ℕ, suc, ◌^◌, ◌<◌, ◌≤◌, ◌↔◌, ◌⊎◌, Bool, true, false, IsTrue, List, [], ◌∷◌, length, refl, sym, arith, subst, inl, inr}
use Rattle.std.specs.Prelude.{slice_index, None}
use Rattle.std.proofs.lemmas.Bool.{cases_lt, cases_eq}
use Rattle.std.specs.List.{AllByRecursion}
use Rattle.offer_model.specs.declared.node.Mark.{Mark}
use Rattle.offer_model.specs.declared.products.ModelName.{ModelName}
use Rattle.offer_model.specs.declared.products.ModelName.TheVariants.{Logit, Attract, Mixed, Chain}
use Rattle.offer_model.specs.Assortments.{IsBefore}
use Rattle.offer_model.specs.Problems.{ProblemData, product_count}
use Rattle.offer_model.specs.Revenue.{value_of, EarnsMore, EarnsMoreUnder}
use Rattle.offer_model.specs.Validity.{IsProblem}
use Rattle.offer_model.specs.Limits.{IsFeasible}
use Rattle.offer_model.specs.Best.{IsBest}
use Rattle.offer_model.specs.Nodes.{fill_of, Clashes}
use Rattle.offer_model.specs.Branching.{IsDearestOpen}
use Rattle.offer_model.specs.NodeValues.{AreGreatestValues}
use Rattle.offer_model.specs.LeafBounds.{segments_bound}
use Rattle.offer_model.proofs.BranchingLemmas.{dearest_one, dearest_or_none}
use Rattle.offer_model.proofs.FullNodeLemmas.{full_feasible}
use Rattle.offer_model.proofs.GreatestValueLemmas.{greatest_values, greatest_small, greatest_fit, settled_values}
use Rattle.offer_model.proofs.TieLemmas.{IsBefore-asym}
use Rattle.proof_lines.specs.declared.line.Shape.TheVariants as S
use Rattle.proof_lines.specs.Lines.{LineData, line, line_text, IsLine, most_number}
use Rattle.proof_lines.specs.Closing.{SegmentsClose, ClosesUnder, Closes}
use Rattle.proof_lines.specs.Writing.{mixed_rule}
use Rattle.proof_lines.proofs.WrittenOnce.{mixed_fixes}
use Rattle.segment_bound.specs.Orders.{IsDearest}
use Rattle.proof_write.specs.Searches.{SumCloses}
use Rattle.proof_write.proofs.DecideLemmas.{Decided, before}
use Rattle.proof_tree.specs.Rules.{SaysLeaf}
use Rattle.proof_tree.specs.SearchRules.{SearchLeaf}
use Rattle.proof_write.proofs.SearchLemmas.{IsDefinite, IsSettled, settled_past, printed, says_none, says_numbers, numbers_short}

-- ---- What a leaf of segments closes.

closes_by_segments : (m : ModelName) (p : ProblemData) (x : List Bool) (node : List Mark) (us : List ℕ) → m ≡ Mixed
    → ClosesUnder m p x node S.Segments us ↔ SegmentsClose p x node S.Segments us
closes_by_segments Mixed p x node us e = (λ h. h, λ h. h)
closes_by_segments Logit p x node us e = cc
closes_by_segments Attract p x node us e = cc
closes_by_segments Chain p x node us e = cc

-- The greatest values close what their sum does.
pub values_close : (p : ProblemData) (x : List Bool) (node : List Mark) (us : List ℕ) → IsProblem p → p.model ≡ Mixed → length node ≡ product_count p
    → AreGreatestValues p node us → Closes p x node S.Segments us ↔ SumCloses (segments_bound us) (value_of p x) x node
values_close p x node us valid mixed each h =
    let under = closes_by_segments p.model p x node us mixed in
    (λ k. (under.0 k).1, λ k. under.1 (greatest_fit p node us valid mixed each h, k))

sum_decided : (sum value : ℕ) (x : List Bool) (node : List Mark) → Decided (SumCloses sum value x node)
sum_decided sum value x node = by_order (cases_lt sum value)
  where
    by_tie : value ≤ sum → (sum ≡ value) ⊎ (sum ≡ value → ⊥) → Decided (IsBefore (fill_of node) x) → Decided (SumCloses sum value x node)
    by_tie most (inr other) first = inr (λ h. elim h [ inl l ↦ omega arith | inr t ↦ other t.0 ])
    by_tie most (inl e) (inl first) = inr (λ h. elim h [ inl l ↦ omega arith | inr t ↦ t.1 first ])
    by_tie most (inl e) (inr after) = inl (inr (e, after))

    by_order : (sum < value) ⊎ (value ≤ sum) → Decided (SumCloses sum value x node)
    by_order (inl l) = inl (inl l)
    by_order (inr m) = by_tie m (cases_eq sum value) (before (fill_of node) x)

-- ---- Where all is settled.

more_brings : (m : ModelName) (p : ProblemData) (x y : List Bool) → m ≡ Mixed → EarnsMoreUnder m p x y ↔ (value_of p y < value_of p x)
more_brings Mixed p x y e = (λ h. h, λ h. h)
more_brings Logit p x y e = cc
more_brings Attract p x y e = cc
more_brings Chain p x y e = cc

-- What is no better than the best assortment closes a node by what it brings.
fill_closes : (p : ProblemData) (x : List Bool) (node : List Mark) → p.model ≡ Mixed → IsBest p x → IsFeasible p (fill_of node)
    → SumCloses (value_of p (fill_of node)) (value_of p x) x node
fill_closes p x node mixed best feasible = by_order (cases_lt (value_of p y) (value_of p x))
  where
    y : List Bool
    y = fill_of node

    none : value_of p x < value_of p y → ⊥
    none l = best.most y feasible ((more_brings p.model p y x mixed).1 l)

    not_itself : y ≡ x → IsBefore y x → ⊥
    not_itself e h = let same = subst (λ t. IsBefore t x) e h in IsBefore-asym x x same same

    tied : value_of p x ≤ value_of p y → (EarnsMore p x y → ⊥)
    tied most more = let less = (more_brings p.model p x y mixed).0 more in omega arith

    by_order : (value_of p y < value_of p x) ⊎ (value_of p x ≤ value_of p y) → SumCloses (value_of p y) (value_of p x) x node
    by_order (inl l) = inl l
    by_order (inr m) = inr (equal m, λ before. IsBefore-asym x y (best.first y feasible (λ same. not_itself same before) (tied m)) before)
      where
        equal : value_of p x ≤ value_of p y → value_of p y ≡ value_of p x
        equal m = elim (cases_lt (value_of p x) (value_of p y)) [ inl l ↦ absurd (none l) | inr n ↦ omega arith ]

-- ---- The rule.

numbers_are : (us : List ℕ) → ((k : ℕ) → k < length us → slice_index us k ≤ 10 ^ 18) → AllByRecursion (λ n. n ≤ most_number) us
numbers_are [] small = tt
numbers_are (u ∷ us) small = (let own = small 0 (omega arith) in omega arith, numbers_are us (λ k l. small (suc k) (omega arith)))

-- Its numbers are one list, and what isn't closed by them has an Open product.
pub mixed_rule_definite : (p : ProblemData) (x : List Bool) → IsProblem p → p.model ≡ Mixed → IsBest p x → IsDefinite p x (mixed_rule p)
mixed_rule_definite p x valid mixed best = record {
  some = λ node each. greatest_values p node;
  one = λ node us vs h k. (mixed_fixes p).numbers node us vs h k;
  line = λ node us each h. (numbers_are us (λ k l. greatest_small p node k (slice_index us k) valid (inside us h k l) (h.greatest k l)), few us h);
  decided = λ node us each h. by_sum node us each h (sum_decided (segments_bound us) (value_of p x) x node);
  settled = λ node us each full free h. (values_close p x node us valid mixed each h).1
      (subst (λ z. SumCloses z (value_of p x) x node) (sym (settled_values p node us full h))
      (fill_closes p x node mixed best (full_feasible p node each (settled_past node full) free)));
  branch = λ node. dearest_or_none p node;
  open_mark = λ node i h. h.open_mark;
}
  where
    inside : {node : List Mark} (us : List ℕ) → AreGreatestValues p node us → (k : ℕ) → k < length us → k < length p.segments
    inside us h k l = let each = h.each in omega arith

    few : {node : List Mark} (us : List ℕ) → AreGreatestValues p node us → length us ≤ 1024
    few us h = let each = h.each in let most = valid.few_segments in omega arith

    by_sum : (node : List Mark) (us : List ℕ) → length node ≡ product_count p → AreGreatestValues p node us
        → Decided (SumCloses (segments_bound us) (value_of p x) x node) → Decided (Closes p x node S.Segments us)
    by_sum node us each h (inl k) = inl ((values_close p x node us valid mixed each h).1 k)
    by_sum node us each h (inr n) = inr (λ k. n ((values_close p x node us valid mixed each h).0 k))

-- The dearest Open product is the one that is branched on.
pub dearest_once : (p : ProblemData) (node : List Mark) (k : ℕ) → IsDearestOpen p node k → (i : ℕ) → IsDearestOpen p node i ↔ (i ≡ k)
dearest_once p node k own i = (λ h. dearest_one p node i k h own, λ e. subst (λ z. IsDearestOpen p node z) (sym e) own)

-- Where no Open product is the dearest, each is settled.
pub none_dearest : (p : ProblemData) (node : List Mark) → IsDearest p node None → IsSettled node
none_dearest p node full i l o = full i o

-- ---- What the rule says at a node, as it is computed.

-- At a node that doesn't clash: each segment's greatest value, their sum, what the best assortment brings, and whether that closes.
pub record IsMet (p : ProblemData) (x : List Bool) (node : List Mark) (us : List ℕ) (closes : Bool) : Type 0 where
  pub valid : IsProblem p
  pub mixed : p.model ≡ Mixed
  pub best : IsBest p x
  pub each : length node ≡ product_count p
  pub values : AreGreatestValues p node us
  pub free : Clashes p node → ⊥
  pub told : IsTrue closes ↔ SumCloses (segments_bound us) (value_of p x) x node

-- Where it doesn't close, there is no leaf.
pub open_says : (p : ProblemData) (x : List Bool) (node : List Mark) (us text : List ℕ) → IsMet p x node us false → text ≡ []
    → SaysLeaf (SearchLeaf p x (mixed_rule p) node) text false
open_says p x node us text m empty =
    says_none p x (mixed_rule p) node us text (mixed_rule_definite p x m.valid m.mixed m.best) empty m.free m.values
    (λ k. never (m.told.1 ((values_close p x node us m.valid m.mixed m.each m.values).0 k)))
  where
    never : IsTrue false → ⊥
    never e = cc

-- Where it does, the greatest values are the leaf.
pub closed_says : (p : ProblemData) (x : List Bool) (node : List Mark) (us text : List ℕ) (l : LineData) → IsMet p x node us true → l ≡ line S.Segments us
    → text ≡ printed l → SaysLeaf (SearchLeaf p x (mixed_rule p) node) text true
closed_says p x node us text l m is own =
    says_numbers p x (mixed_rule p) node us l text (mixed_rule_definite p x m.valid m.mixed m.best) is own m.free m.values
    ((values_close p x node us m.valid m.mixed m.each m.values).1 (m.told.0 refl))

-- They are a line, which fits a line's room.
pub closed_line : (p : ProblemData) (x : List Bool) (node : List Mark) (us : List ℕ) (l : LineData) → IsMet p x node us true → l ≡ line S.Segments us
    → IsLine l.shape l.numbers × (length (line_text l.shape l.numbers) < 40000)
closed_line p x node us l m is =
    let d = mixed_rule_definite p x m.valid m.mixed m.best in (
      subst (λ (z : LineData). IsLine z.shape z.numbers) (sym is) (d.line node us m.each m.values).0,
      numbers_short p x (mixed_rule p) node us l d m.each m.values is,
    )

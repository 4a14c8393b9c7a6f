-- The goal of mixed logit: its values and bounds are in their range, and its top is the best assortment.
use Rattle.std.proofs.Common.{◌≡◌, ℕ, ◌<◌, ◌≤◌, ◌^◌, min, Bool, Some, None, List, ap, arith, inl, inr}
use Rattle.std.specs.Prelude.{pos}
use Rattle.std.proofs.lemmas.Int.{ints}
use Rattle.offer_model.specs.declared.products.ModelName.{ModelName}
use Rattle.offer_model.specs.declared.products.ModelName.TheVariants.{Logit, Attract, Mixed, Chain}
use Rattle.offer_model.specs.Assortments.{IsBefore}
use Rattle.offer_model.specs.Problems.{ProblemData}
use Rattle.offer_model.specs.Validity.{IsProblem}
use Rattle.offer_model.specs.Revenue.{value_of, EarnsMoreUnder, EarnsMore}
use Rattle.offer_model.specs.Best.{IsBest}
use Rattle.offer_model.proofs.EarningLemmas.{value_of-most}
use Rattle.offer_model.proofs.NothingLemmas.{nothing, IsFeasible-nothing}
use Rattle.tree_search.specs.AnswerRanges.{IsSmall, AnswersInRange}
use Rattle.tree_search.specs.Goals.{IsBetter, IsTop}
use Rattle.segment_bound.specs.MixedGoals.{greatest_sum, mixed_rules}
use Rattle.segment_bound.specs.Tangents.{tangent_bound, tangent_rules}
use Rattle.segment_bound.proofs.GreatestLemmas.{greatest_sum-most}

-- ---- Ranges.

between : (n : ℕ) → n ≤ 10 ^ 18 → IsSmall (pos n)
between n l = (omega (arith, ints), omega (arith, ints))

-- Values and bounds are from 0 to 2 ^ 60.
pub mixed_in_range : (p : ProblemData) → IsProblem p → AnswersInRange (mixed_rules p)
mixed_in_range p valid = record {
  values = λ x e. between (value_of p x) (value_of-most p x valid);
  bounds = λ node e. between (greatest_sum p node) (greatest_sum-most p node valid);
}

lesser_between : (a b : ℕ) → a ≤ 10 ^ 18 → IsSmall (pos (min a b))
lesser_between a b l = between (min a b) (omega arith)

-- So are they with the lesser of both bounds, in whatever order nodes are divided.
pub tangent_in_range : (p : ProblemData) (order : List ℕ) → IsProblem p → AnswersInRange (tangent_rules p order)
tangent_in_range p order valid = record {
  values = λ x e. between (value_of p x) (value_of-most p x valid);
  bounds = λ node e. lesser_between (greatest_sum p node) (tangent_bound p node) (greatest_sum-most p node valid);
}

-- ---- The best one.

value_from_earns : (m : ModelName) (p : ProblemData) (x y : List Bool) → m ≡ Mixed → EarnsMoreUnder m p x y → value_of p y < value_of p x
value_from_earns Mixed p x y e h = h
value_from_earns Logit p x y e h = cc
value_from_earns Attract p x y e h = cc
value_from_earns Chain p x y e h = cc

earns_from_value : (m : ModelName) (p : ProblemData) (x y : List Bool) → m ≡ Mixed → value_of p y < value_of p x → EarnsMoreUnder m p x y
earns_from_value Mixed p x y e h = h
earns_from_value Logit p x y e h = cc
earns_from_value Attract p x y e h = cc
earns_from_value Chain p x y e h = cc

not_better : (p : ProblemData) (x y : List Bool) → IsBetter (mixed_rules p) x y → value_of p x < value_of p y → ⊥
not_better p x y (inl l) h = omega (arith, ints, l, h)
not_better p x y (inr l) h = let e = l.0 in omega (arith, ints, e, h)

before_of : (p : ProblemData) (x y : List Bool) → p.model ≡ Mixed → IsBetter (mixed_rules p) x y → (EarnsMore p x y → ⊥) → IsBefore x y
before_of p x y e (inl l) less = absurd (less (earns_from_value p.model p x y e (omega (arith, ints, l))))
before_of p x y e (inr l) less = l.1

-- The top of the goal is the best assortment.
pub best_from_top : (p : ProblemData) (x : List Bool) → p.model ≡ Mixed → IsTop (mixed_rules p) (Some x) → IsBest p x
best_from_top p x e top = record {
  feasible = top.0.1;
  most = λ y f m. (let more = value_from_earns p.model p y x e m in not_better p x y (top.1 y (f.0, f) (λ same. apart x y same more)) more);
  first = λ y f ne less. before_of p x y e (top.1 y (f.0, f) ne) less;
}
  where
    apart : (x y : List Bool) → y ≡ x → value_of p x < value_of p y → ⊥
    apart x y same more = let e = ap (value_of p) same in omega (arith, e, more)

-- There is one, since offering nothing is feasible.
pub some_top : (p : ProblemData) → IsTop (mixed_rules p) None → ⊥
some_top p none = none (nothing p) (let f = IsFeasible-nothing p in (f.0, f))

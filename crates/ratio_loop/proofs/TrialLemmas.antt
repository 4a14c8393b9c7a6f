-- From one trial to the next.
use Rattle.std.proofs.Common.{◌≡◌, ℕ, zero, suc, ◌+◌, ◌-◌, ◌*◌, ◌^◌, ◌<◌, ◌≤◌, ◌↔◌, Bool, Option, Some, None, List, sym, ap, arith, add-one, subst}
use Rattle.std.specs.Prelude.{pos, ◌≤ℤ◌, ◌<ℤ◌, Result, Ok, Err, IfOk}
use Rattle.std.proofs.lemmas.Int.{ints}
use Rattle.std.proofs.Math.Nat.{mul-le-mul, mul-le-mul_left}
use Rattle.offer_model.specs.declared.node.Mark.{Mark}
use Rattle.offer_model.specs.declared.products.Fraction.{Fraction}
use Rattle.offer_model.specs.Problems.{ProblemData, product_count}
use Rattle.offer_model.specs.Ranges.{gain_bound, weight_bound}
use Rattle.offer_model.specs.Validity.{IsProblem, IsRatioModel}
use Rattle.offer_model.specs.Revenue.{own_gain, own_weight, revenue_of}
use Rattle.offer_model.specs.Limits.{IsFeasible}
use Rattle.offer_model.specs.Nodes.{Completes, open_node}
use Rattle.offer_model.specs.Prices.{worth_of}
use Rattle.offer_model.proofs.WorthLemmas.{worth_is}
use Rattle.offer_model.proofs.CompletionLemmas.{Completes-open}
use Rattle.linear_step.specs.Weights.{WeightsData, prices_of, AreAt}
use Rattle.linear_step.specs.Answers.{IsGreatest, HasNone, AnswersFrom}
use Rattle.ratio_loop.specs.Earnings.{IsSame, Earns, IsGreatestRevenue}
use Rattle.ratio_loop.specs.Trials.{EarnsMost}
use Rattle.ratio_loop.specs.Ties.{AnswersAt}
use Rattle.ratio_loop.proofs.LoopFacts.{IsReached}
use Rattle.ratio_loop.proofs.NumberLemmas.{next_weighs, to_a_fourth, falls, few}
use Rattle.offer_model.proofs.EarningLemmas.{own_gain-small, own_weight-small, own_weight-positive, ratio_from_earns, earns_from_ratio}
use Rattle.offer_model.proofs.NothingLemmas.{nothing, own_gain-nothing, IsFeasible-nothing}

-- At this revenue y weighs no more than x.
abbrev pub WeighsNoMore : ProblemData → Fraction → List Bool → List Bool → Type 0
WeighsNoMore p at y x = at.den * own_gain p y + at.num * own_weight p x ≤ at.den * own_gain p x + at.num * own_weight p y

-- A greatest completion weighs no less than any other.
greatest_weighs : (p : ProblemData) (at : Fraction) (w : WeightsData) (node : List Mark) (x y : List Bool) → AreAt p at.num at.den w
    → IsGreatest p (prices_of w) node x → IsFeasible p y → Completes node y → WeighsNoMore p at y x
greatest_weighs p at w node x y same greatest feasible completes =
    let most = greatest.most y feasible completes in
    let ex = ap (λ b. worth_of p b x) same in
    let ey = ap (λ b. worth_of p b y) same in
    let wx = worth_is p at.num at.den x in
    let wy = worth_is p at.num at.den y in
    omega (arith, ints)

-- At the root, no less than any feasible assortment.
greatest_at_root : (p : ProblemData) (at : Fraction) (w : WeightsData) (root : List Mark) (x : List Bool) → AreAt p at.num at.den w
    → root ≡ open_node (product_count p) → IsGreatest p (prices_of w) root x → (y : List Bool) → IsFeasible p y → WeighsNoMore p at y x
greatest_at_root p at w root x same is greatest y feasible =
    greatest_weighs p at w root x y same greatest feasible
    (subst (λ node. Completes node y) (sym is) (Completes-open (product_count p) y feasible.0))

-- Where no feasible assortment completes the root, none is feasible.
pub never_none : (p : ProblemData) (root : List Mark) (x : List Bool) → root ≡ open_node (product_count p) → HasNone p root → IsFeasible p x → ⊥
never_none p root x is none feasible = none x feasible (subst (λ node. Completes node x) (sym is) (Completes-open (product_count p) x feasible.0))

-- Before the first trial.
IsReached-nothing : (p : ProblemData) → IsProblem p → IsRatioModel p.model → IsReached p (nothing p) 0
IsReached-nothing p valid model = record {
  feasible = IsFeasible-nothing p;
  few = omega arith;
  room = λ y u feasible own.
      below (own_weight p (nothing p)) (own_gain p y) (own_gain p (nothing p)) (own_weight p y) u
      (own_gain-small p y valid model) (own_weight-small p y valid model) (own_gain-nothing p) own;
}
  where
    below : (a g n c u : ℕ) → g < gain_bound → c < weight_bound → n ≡ 0 → a * g ≡ n * c + u → 4 ^ 0 * (u * c) ≤ a * (gain_bound * weight_bound)
    below a g n c u hg hc none own =
        let hg' : g ≤ gain_bound = omega arith in
        let hc' : c ≤ weight_bound = omega arith in
        let m : g * c ≤ gain_bound * weight_bound = mul-le-mul hg' hc' in
        let l : a * (g * c) ≤ a * (gain_bound * weight_bound) = mul-le-mul_left a m in
        let own' = rw none at own in
        let e : u ≡ a * g = omega arith in
        rw e (omega arith)

-- What a trial finds earns at least as much.
earns_no_less : (p : ProblemData) (x z : List Bool) → IsFeasible p x
    → ((y : List Bool) → IsFeasible p y → WeighsNoMore p (revenue_of p x) y z) → own_gain p x * own_weight p z ≤ own_weight p x * own_gain p z
earns_no_less p x z feasible most = let own = most x feasible in omega arith

-- A trial that finds another revenue.
IsReached-next : (p : ProblemData) (x z : List Bool) (k : ℕ) → IsProblem p → IsRatioModel p.model → IsReached p x k → IsFeasible p z
    → ((y : List Bool) → IsFeasible p y → WeighsNoMore p (revenue_of p x) y z) → (Earns p z (revenue_of p x) → ⊥) → IsReached p z (k + 1)
IsReached-next p x z k valid model reached feasible most other = by_weight (own_weight p x * own_gain p z - own_gain p x * own_weight p z)
    (let no_less = earns_no_less p x z reached.feasible most in omega arith)
  where
    by_weight : (v : ℕ) → own_weight p x * own_gain p z ≡ own_gain p x * own_weight p z + v → IsReached p z (k + 1)
    by_weight v own =
        let some : 0 < v = positive v own in
        let before = reached.room z v feasible own in
        record {
          feasible = feasible;
          few = few k (own_weight p x) v (own_weight p z) some (own_weight-positive p z valid model) (own_weight-small p x valid model) before;
          room = λ y u feasible_y next.
              let top = most y feasible_y in
              let one = next_weighs (own_weight p x) (own_gain p x) (own_gain p z) (own_weight p z) v (own_gain p y) (own_weight p y) u own (omega arith) next in
              let four = to_a_fourth (own_weight p x) (own_weight p z) (own_weight p y) u v some one in
              power k (u * own_weight p y) (own_weight p z * (gain_bound * weight_bound))
              (falls (4 ^ k) (own_weight p x) (own_weight p z) (own_weight p y) u v (gain_bound * weight_bound) (own_weight-positive p x valid model) four before);
        }
      where
        positive : (v : ℕ) → own_weight p x * own_gain p z ≡ own_gain p x * own_weight p z + v → 0 < v
        positive zero e = absurd (other (omega arith))
        positive (suc v) e = omega arith

        power : (k a b : ℕ) → (4 * 4 ^ k) * a ≤ b → 4 ^ (k + 1) * a ≤ b
        power k a b h = rw add-one (grind arith)

-- ---- The last trial.

-- A trial that finds the same revenue: nothing earns more.
EarnsMost-end : (p : ProblemData) (x z : List Bool) (k : ℕ) → IsRatioModel p.model → IsReached p x k
    → ((y : List Bool) → IsFeasible p y → WeighsNoMore p (revenue_of p x) y z) → Earns p z (revenue_of p x) → EarnsMost p x
EarnsMost-end p x z k model reached most same = record {
  feasible = reached.feasible;
  most = λ y feasible more. let top = most y feasible in let above = ratio_from_earns p.model p y x model more in omega arith;
}

-- What earns most has the greatest revenue.
pub EarnsMost-greatest : (p : ProblemData) (x : List Bool) → IsRatioModel p.model → EarnsMost p x → IsGreatestRevenue p (revenue_of p x)
EarnsMost-greatest p x model most y feasible = not_above _ _ (λ above. most.most y feasible (earns_from_ratio p.model p y x model above))
  where
    not_above : (a b : ℕ) → (b < a → ⊥) → a ≤ b
    not_above a b h = omega arith

-- What weighs 0 or more at the greatest revenue earns it.
reaching_earns : (p : ProblemData) (at : Fraction) (w : WeightsData) (x : List Bool) → AreAt p at.num at.den w → IsGreatestRevenue p at → IsFeasible p x
    → pos 0 ≤ℤ worth_of p (prices_of w) x → Earns p x at
reaching_earns p at w x same bound feasible reached =
    let under = bound x feasible in
    let e = ap (λ b. worth_of p b x) same in
    let worth = worth_is p at.num at.den x in
    omega (arith, ints)

-- What weighs less doesn't.
below_earns_less : (p : ProblemData) (at : Fraction) (w : WeightsData) (x : List Bool) → AreAt p at.num at.den w
    → worth_of p (prices_of w) x <ℤ pos 0 → Earns p x at → ⊥
below_earns_less p at w x same below earns =
    let e = ap (λ b. worth_of p b x) same in
    let worth = worth_is p at.num at.den x in
    absurd (omega (arith, ints))

earning_answers : (p : ProblemData) (at : Fraction) (w : WeightsData) (node : List Mark) (o : Option (List Bool)) → AreAt p at.num at.den w
    → IsGreatestRevenue p at → AnswersFrom p (prices_of w) node (pos 0) o → AnswersAt p at node o
earning_answers p at w node (Some x) same bound answer = record {
  feasible = answer.0.feasible;
  completes = answer.0.completes;
  earns = reaching_earns p at w x same bound answer.0.feasible answer.1;
}
earning_answers p at w node None same bound none = λ y own. below_earns_less p at w y same (none y own.feasible own.completes) own.earns

-- At the greatest revenue a completion of weight 0 or more is one that earns it, and none is none that does.
pub answers_earn : {E : Type 0} (p : ProblemData) (at : Fraction) (w : WeightsData) (node : List Mark) (r : Result (Option (List Bool)) E)
    → AreAt p at.num at.den w → IsGreatestRevenue p at → IfOk r (AnswersFrom p (prices_of w) node (pos 0)) → IfOk r (AnswersAt p at node)
answers_earn p at w node (Ok o) same bound answer = earning_answers p at w node o same bound answer
answers_earn p at w node (Err e) same bound answer = tt

-- ---- The loop, over what its code holds.

-- The empty assortment begins the trials.
pub trials_begin : (p : ProblemData) (x : List Bool) (s : ℕ) → IsProblem p → IsRatioModel p.model → x ≡ nothing p → IsReached p x (s - s)
trials_begin p x s valid model is =
    let none : 0 ≡ s - s = omega arith in
    subst (λ y. IsReached p y (s - s)) (sym is) (subst (IsReached p (nothing p)) none (IsReached-nothing p valid model))

-- Weights at the revenue of x, and what they make greatest.
abbrev pub IsTrialAt : ProblemData → Fraction → WeightsData → List Mark → List Bool → List Bool → Type 0
IsTrialAt p at w root x z = (at ≡ revenue_of p x) × AreAt p at.num at.den w × (root ≡ open_node (product_count p)) × IsGreatest p (prices_of w) root z

trial_most : (p : ProblemData) (at : Fraction) (w : WeightsData) (root : List Mark) (x z : List Bool) → IsTrialAt p at w root x z
    → (y : List Bool) → IsFeasible p y → WeighsNoMore p (revenue_of p x) y z
trial_most p at w root x z (own, same, is, greatest) =
    greatest_at_root p (revenue_of p x) w root z (subst (λ t. AreAt p t.num t.den w) own same) is greatest

earns_at : (p : ProblemData) (at reached : Fraction) (x z : List Bool) → at ≡ revenue_of p x → reached ≡ revenue_of p z
    → IsSame reached at ↔ Earns p z (revenue_of p x)
earns_at p at reached x z own found = rw (own, found) (λ h. h, λ h. h)

-- What a trial found leads on.
pub trials_go_on : (p : ProblemData) (at reached : Fraction) (w : WeightsData) (root : List Mark) (x z : List Bool) (first s s' : ℕ) → IsProblem p
    → IsRatioModel p.model → first ≤ s → s' ≡ s + 1 → IsReached p x (s - first) → IsTrialAt p at w root x z → reached ≡ revenue_of p z
    → (IsSame reached at → ⊥) → IsReached p z (s' - first)
trials_go_on p at reached w root x z first s s' valid model more one r trial found other =
    let count : s - first + 1 ≡ s' - first = omega arith in
    subst (IsReached p z) count (IsReached-next p x z (s - first) valid model r trial.3.feasible (trial_most p at w root x z trial)
    (λ same. other ((earns_at p at reached x z trial.0 found).1 same)))

-- Where the revenue is the same, the trials end.
pub trials_end : (p : ProblemData) (at reached : Fraction) (w : WeightsData) (root : List Mark) (x z : List Bool) (k : ℕ) → IsRatioModel p.model
    → IsReached p x k → IsTrialAt p at w root x z → reached ≡ revenue_of p z → IsSame reached at → EarnsMost p x
trials_end p at reached w root x z k model r trial found same =
    EarnsMost-end p x z k model r (trial_most p at w root x z trial) ((earns_at p at reached x z trial.0 found).0 same)

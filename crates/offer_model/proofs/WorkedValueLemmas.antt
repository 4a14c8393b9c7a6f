-- The worked values, by computation.
use Rattle.std.proofs.Common.{◌≡◌, ◌≢◌, zero, suc, Bool, true, false, List, [], ◌∷◌, length, refl, arith, lit<, lit≤}
use Rattle.std.specs.List.{All}
use Rattle.offer_model.specs.declared.products.Limit.TheVariants.{Total, Ladder}
use Rattle.offer_model.specs.Problems.{ProblemData}
use Rattle.offer_model.specs.Limits.{Meets, IsFeasible}
use Rattle.offer_model.specs.Assortments.{IsBefore}
use Rattle.offer_model.specs.Revenue.{EarnsMore}
use Rattle.offer_model.specs.Best.{IsBest}
use Rattle.offer_model.specs.WorkedValues.{RevenueIsWorked, OrderIsWorked, LimitsAreWorked, BestIsWorked, two_products, a_tie, one_of_two, three_kinds, both, only_first, only_second, first_and_third}

-- Gains, weights, chances and rounded revenues.
pub revenue_worked : RevenueIsWorked
revenue_worked = record {
  gain = refl;
  weight = refl;
  shadow_stays = refl;
  chance = refl;
  no_chance = refl;
  leave = refl;
  rounded = refl;
  more = lit< tt;
  as_much = λ h. omega arith;
}

-- The order of ties.
pub order_worked : OrderIsWorked
order_worked = record { before = tt; not_after = λ h. h; later_of_equals = tt; not_itself = λ h. h }

-- the three products of the ladder, two by two
ladder_met : Meets three_kinds first_and_third (Ladder 1)
ladder_met zero zero a b differ x y k l = absurd (differ refl)
ladder_met zero (suc zero) a b differ x y k l = absurd (cc)
ladder_met zero (suc (suc zero)) a b differ x y k l = ((λ e. absurd (omega arith)), λ h. lit≤ tt)
ladder_met zero (suc (suc (suc j))) a b differ x y k l = absurd (omega arith)
ladder_met (suc zero) j a b differ x y k l = absurd (cc)
ladder_met (suc (suc zero)) zero a b differ x y k l = ((λ e. absurd (omega arith)), λ h. absurd (omega arith))
ladder_met (suc (suc zero)) (suc zero) a b differ x y k l = absurd (cc)
ladder_met (suc (suc zero)) (suc (suc zero)) a b differ x y k l = absurd (differ refl)
ladder_met (suc (suc zero)) (suc (suc (suc j))) a b differ x y k l = absurd (omega arith)
ladder_met (suc (suc (suc i))) j a b differ x y k l = absurd (omega arith)

-- Limits that are met and broken.
pub limits_worked : LimitsAreWorked
limits_worked = record {
  total = lit≤ tt;
  over_total = λ h. omega arith;
  category = lit≤ tt;
  over_category = λ h. omega arith;
  requires_met = λ h. h;
  requires_broken = λ h. let e = h refl in cc;
  shelf = lit≤ tt;
  over_shelf = λ h. omega arith;
  ladder = ladder_met;
  price_falls = λ h. let k = (h 1 2 (lit< tt) (lit< tt) (λ e. omega arith) refl refl refl refl).1 (lit< tt) in omega arith;
}

-- what holds of the four assortments of two products holds of each
of_two : (P : List Bool → Type 0) → P both → P only_first → P only_second → P (false ∷ false ∷ []) → (y : List Bool) → length y ≡ 2 → P y
of_two P a b c d [] l = absurd (omega arith)
of_two P a b c d (x ∷ []) l = absurd (omega arith)
of_two P a b c d (true ∷ true ∷ []) l = a
of_two P a b c d (true ∷ false ∷ []) l = b
of_two P a b c d (false ∷ true ∷ []) l = c
of_two P a b c d (false ∷ false ∷ []) l = d
of_two P a b c d (x ∷ y ∷ z ∷ xs) l = absurd (omega arith)

no_limits : (p : ProblemData) (x : List Bool) → p.limits ≡ [] → All (Meets p x) p.limits
no_limits p x none = rw none (λ k d inside. absurd (omega arith))

best_of_all : IsBest two_products both
best_of_all = record {
  feasible = (refl, no_limits two_products both refl);
  most = λ y f. of_two (λ y. EarnsMore two_products y both → ⊥) (λ h. omega arith) (λ h. omega arith) (λ h. omega arith) (λ h. omega arith) y f.0;
  first = λ y f. of_two (λ y. y ≢ both → (EarnsMore two_products both y → ⊥) → IsBefore both y)
      (λ other less. absurd (other refl)) (λ other less. absurd (less (lit< tt))) (λ other less. absurd (less (lit< tt))) (λ other less. absurd (less (lit< tt))) y f.0;
}

best_of_a_tie : IsBest a_tie only_first
best_of_a_tie = record {
  feasible = (refl, no_limits a_tie only_first refl);
  most = λ y f. of_two (λ y. EarnsMore a_tie y only_first → ⊥) (λ h. omega arith) (λ h. omega arith) (λ h. omega arith) (λ h. omega arith) y f.0;
  first = λ y f. of_two (λ y. y ≢ only_first → (EarnsMore a_tie only_first y → ⊥) → IsBefore only_first y)
      (λ other less. tt) (λ other less. absurd (other refl)) (λ other less. absurd (less (lit< tt))) (λ other less. absurd (less (lit< tt))) y f.0;
}

-- at most one of the two
one_met : All (Meets one_of_two only_second) one_of_two.limits
one_met zero d inside = lit≤ tt
one_met (suc k) d inside = absurd (omega arith)

not_both : IsFeasible one_of_two both → ⊥
not_both f = let few = f.1 0 (Total 0) (lit< tt) in omega arith

best_of_one : IsBest one_of_two only_second
best_of_one = record {
  feasible = (refl, one_met);
  most = λ y f. of_two (λ y. IsFeasible one_of_two y → EarnsMore one_of_two y only_second → ⊥)
      (λ f h. not_both f) (λ f h. omega arith) (λ f h. omega arith) (λ f h. omega arith) y f.0 f;
  first = λ y f. of_two (λ y. IsFeasible one_of_two y → y ≢ only_second → (EarnsMore one_of_two only_second y → ⊥) → IsBefore only_second y)
      (λ f other less. absurd (not_both f)) (λ f other less. tt) (λ f other less. absurd (other refl)) (λ f other less. absurd (less (lit< tt))) y f.0 f;
}

-- Best assortments, with a tie and with a cap.
pub best_worked : BestIsWorked
best_worked = record { all = best_of_all; tie = best_of_a_tie; capped = best_of_one }

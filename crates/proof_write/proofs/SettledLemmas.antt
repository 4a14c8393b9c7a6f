-- Nodes in which each product is settled.
use Rattle.std.proofs.Common.{◌≡◌, ◌≢◌, ◌∙◌, ℕ, zero, suc, ◌<◌, ◌⊎◌, Bool, List, [], ◌∷◌, length, refl, sym, arith, subst, inl, inr}
use Rattle.std.specs.Prelude.{Some, pos, ◌≤ℤ◌, ◌<ℤ◌}
use lib.IntN.{ℤ}
use Rattle.offer_model.specs.declared.node.Mark.{Mark}
use Rattle.offer_model.specs.declared.node.Mark.TheVariants.{In, Out, Open}
use Rattle.offer_model.specs.Assortments.{IsBefore}
use Rattle.offer_model.specs.Problems.{ProblemData, product_count}
use Rattle.offer_model.specs.Validity.{IsRatioModel}
use Rattle.offer_model.specs.Limits.{IsFeasible}
use Rattle.offer_model.specs.Nodes.{mark_at, fill_of, Clashes}
use Rattle.offer_model.specs.Prices.{worth_of}
use Rattle.offer_model.specs.Best.{IsBest}
use Rattle.offer_model.specs.Branching.{IsFirstOpen}
use Rattle.offer_model.proofs.TieLemmas.{IsBefore-asym}
use Rattle.offer_model.proofs.FullNodeLemmas.{full_feasible}
use Rattle.proof_lines.specs.declared.line.Shape.TheVariants as S
use Rattle.proof_lines.specs.Closing.{own_prices, BoundCloses, Closes}
use Rattle.proof_write.specs.ZeroRules.{zeros_of}
use Rattle.proof_write.proofs.ClosingLemmas.{sign, low, tied, earns_by_ratio, by_ratio_earns}
use Rattle.proof_write.proofs.SearchLemmas.{IsSettled, settled_past}
use Rattle.proof_write.proofs.ZeroLemmas.{settled_bound, zeros_close}

-- ---- It is closed by multipliers that are all 0.

-- What is no better than the best assortment closes a node by its worth.
worth_closes : (p : ProblemData) (x : List Bool) (node : List Mark) (z : ℤ) → IsRatioModel p.model → IsBest p x → IsFeasible p (fill_of node)
    → z ≡ worth_of p (own_prices p x) (fill_of node) → BoundCloses x node (Some z)
worth_closes p x node z ratio best feasible is =
    by_sign (sign z (subst (λ t. t ≤ℤ pos 0) (sym is) (low p x y (λ more. best.most y feasible (by_ratio_earns p.model p y x ratio more)))))
  where
    y : List Bool
    y = fill_of node

    not_itself : y ≡ x → IsBefore y x → ⊥
    not_itself e h = let same = subst (λ t. IsBefore t x) e h in IsBefore-asym x x same same

    by_sign : (z <ℤ pos 0) ⊎ (z ≡ pos 0) → BoundCloses x node (Some z)
    by_sign (inl below) = inl below
    by_sign (inr e) = inr (
      e,
      λ before. IsBefore-asym x y
          (best.first y feasible (λ same. not_itself same before) (λ more. tied p x y (sym is ∙ e) (earns_by_ratio p.model p x y ratio more))) before,
    )

-- A node in which each product is settled and that doesn't clash is closed.
pub settled_closes : (p : ProblemData) (x : List Bool) (node : List Mark) → IsRatioModel p.model → IsBest p x → IsSettled node
    → length node ≡ product_count p → (Clashes p node → ⊥) → Closes p x node S.Multipliers (zeros_of p)
settled_closes p x node ratio best s each free =
    (zeros_close p x node ratio).1 (worth_closes p x node _ ratio best (full_feasible p node each (settled_past node s) free)
    (settled_bound p node (own_prices p x) (λ i l. s i (rw each l))))

-- ---- A node that isn't closed has a product that isn't settled.

further : (m : Mark) (node : List Mark) → m ≢ Open → ((i : ℕ) × IsFirstOpen node i) ⊎ ((i : ℕ) → i < length node → mark_at node i ≢ Open)
    → ((i : ℕ) × IsFirstOpen (m ∷ node) i) ⊎ ((i : ℕ) → i < length (m ∷ node) → mark_at (m ∷ node) i ≢ Open)
further m node d (inl found) = inl (suc found.0, record { open_mark = found.1.open_mark; first = before })
  where
    before : (j : ℕ) → j < suc found.0 → mark_at (m ∷ node) j ≢ Open
    before zero l = d
    before (suc j) l = found.1.first j (omega arith)
further m node d (inr none) = inr all
  where
    all : (i : ℕ) → i < length (m ∷ node) → mark_at (m ∷ node) i ≢ Open
    all zero l = d
    all (suc i) l = none i (omega arith)

-- There is a first Open product, or each is settled.
pub first_or_none : (node : List Mark) → ((i : ℕ) × IsFirstOpen node i) ⊎ ((i : ℕ) → i < length node → mark_at node i ≢ Open)
first_or_none [] = inr (λ i l. absurd (omega arith))
first_or_none (Open ∷ node) = inl (0, record { open_mark = refl; first = λ j l. absurd (omega arith) })
first_or_none (In ∷ node) = further In node (λ e. cc) (first_or_none node)
first_or_none (Out ∷ node) = further Out node (λ e. cc) (first_or_none node)

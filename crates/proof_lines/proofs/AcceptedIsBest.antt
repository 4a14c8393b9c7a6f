-- Whoever wrote an accepted text, its assortment is the best one.
use Rattle.std.proofs.Common.{◌≡◌, ◌≢◌, ℕ, Bool, true, false, List, length, refl, arith, suc, zero, ◌<◌, Some, None, Option, sym, ◌∙◌, inl, inr, ⊎_elim}
use Rattle.std.proofs.Math.ListN.{length-set}
use Rattle.std.specs.Prelude.{slice_set, ◌≤ℤ◌}
use Rattle.std.proofs.lemmas.Int.{ints}
use lib.IntN.{ℤ}
use Rattle.offer_model.specs.declared.products.ModelName.{ModelName}
use Rattle.offer_model.specs.declared.products.ModelName.TheVariants.{Logit, Attract, Mixed, Chain}
use Rattle.offer_model.specs.declared.node.Mark.{Mark}
use Rattle.offer_model.specs.declared.node.Mark.TheVariants.{In, Out}
use Rattle.proof_lines.specs.declared.line.Shape.{Shape}
use Rattle.proof_lines.specs.declared.line.Shape.TheVariants as S
use Rattle.offer_model.specs.Assortments.{offers, IsBefore}
use Rattle.offer_model.specs.Problems.{ProblemData, product_count, first_segment}
use Rattle.offer_model.specs.Revenue.{gain_of, weight_of, value_of, EarnsMoreUnder, EarnsMoreByRatio}
use Rattle.offer_model.specs.Limits.{IsFeasible}
use Rattle.offer_model.specs.Best.{IsBest}
use Rattle.offer_model.specs.Nodes.{Completes, open_node}
use Rattle.offer_model.specs.Prices.{worth_of}
use Rattle.offer_model.specs.LeafBounds.{multipliers_bound, shelf_bound, potentials_bound}
use Rattle.proof_lines.specs.Trees.{Tree}
use Rattle.proof_lines.specs.Trees.Tree.{leaf, branch}
use Rattle.proof_lines.specs.Closing.{BoundCloses, own_prices, PricesClose, SegmentsClose, ClosesUnder, Closes, TreeCloses}
use Rattle.proof_lines.specs.Acceptance.{IsAccepted}
use Rattle.offer_model.proofs.TieLemmas.{tie}
use Rattle.offer_model.proofs.CompletionLemmas.{Completes-set, Completes-open, clash_none}
use Rattle.offer_model.proofs.MultiplierLemmas.{multipliers_hold}
use Rattle.offer_model.proofs.ShelfLemmas.{shelf_holds}
use Rattle.offer_model.proofs.PotentialLemmas.{potentials_hold}
use Rattle.offer_model.proofs.WorthLemmas.{worth_is, segments_below}

-- Of x and y, x is the better one or they are equal.
abbrev pub IsSettledUnder : ModelName → ProblemData → List Bool → List Bool → Type 0
IsSettledUnder k p x y = (EarnsMoreUnder k p y x → ⊥) × (y ≢ x → (EarnsMoreUnder k p x y → ⊥) → IsBefore x y)

-- A bound that closes the node, over what y is worth at the revenue of x.
ratio_settles : (p : ProblemData) (x y : List Bool) (node : List Mark) (bound : Option ℤ)
    → Completes node y → length x ≡ length node
    → ((z : ℤ) → bound ≡ Some z → worth_of p (own_prices p x) y ≤ℤ z)
    → BoundCloses x node bound
    → (EarnsMoreByRatio p y x → ⊥) × (y ≢ x → (EarnsMoreByRatio p x y → ⊥) → IsBefore x y)
ratio_settles p x y node None c l w k = absurd k
ratio_settles p x y node (Some z) c l w (inl k) =
    let e = worth_is p (gain_of p (first_segment p) x) (weight_of p (first_segment p) x) y in
    let le = w z refl in
    (λ m. omega (arith, ints), λ d m. absurd (m (omega (arith, ints))))
ratio_settles p x y node (Some z) c l w (inr k) =
    let e = worth_is p (gain_of p (first_segment p) x) (weight_of p (first_segment p) x) y in
    let le = w z refl in
    (λ m. omega (arith, ints, k.0), λ d m. ⊎_elim (λ s. absurd (d s)) (λ b. b) (tie node x y c l k.1))

prices_settle : (p : ProblemData) (x y : List Bool) (node : List Mark) (shape : Shape) (us : List ℕ) → PricesClose p x node shape us (own_prices p x)
    → IsFeasible p y → Completes node y → length x ≡ length node → IsSettledUnder Logit p x y
prices_settle p x y node S.Multipliers us k f c l =
    ratio_settles p x y node (Some (multipliers_bound p node us (own_prices p x))) c l
    (λ z e. let h = multipliers_hold p node us (own_prices p x) y c f k.0 in let same : multipliers_bound p node us (own_prices p x) ≡ z = cc in omega (arith, ints)) k.1
prices_settle p x y node S.Shelf us k f c l =
    ratio_settles p x y node (shelf_bound p node (own_prices p x)) c l (λ z e. shelf_holds p node (own_prices p x) y c f z e) k.2
prices_settle p x y node S.Potentials us k f c l =
    ratio_settles p x y node (Some (potentials_bound p node us (own_prices p x))) c l
    (λ z e. let h = potentials_hold p node us (own_prices p x) y c f k.1 in let same : potentials_bound p node us (own_prices p x) ≡ z = cc in omega (arith, ints)) k.2
prices_settle p x y node _ us k f c l = absurd k

segments_settle : (p : ProblemData) (x y : List Bool) (node : List Mark) (shape : Shape) (us : List ℕ) → SegmentsClose p x node shape us
    → Completes node y → length x ≡ length node → IsSettledUnder Mixed p x y
segments_settle p x y node S.Segments us k c l =
    let below = segments_below p node y us c k.0 in
    ⊎_elim
    (λ less. let lt : value_of p y < value_of p x = omega arith in
    let r : IsSettledUnder Mixed p x y = (λ m. omega arith, λ d m. absurd (m lt)) in r)
    (λ same. let r : IsSettledUnder Mixed p x y = (λ m. omega (arith, same.0), λ d m. ⊎_elim (λ s. absurd (d s)) (λ b. b) (tie node x y c l same.1)) in r)
    k.1
segments_settle p x y node _ us k c l = absurd k

model_settles : (m : ModelName) (p : ProblemData) (x y : List Bool) (node : List Mark) (shape : Shape) (us : List ℕ) → ClosesUnder m p x node shape us
    → IsFeasible p y → Completes node y → length x ≡ length node → IsSettledUnder m p x y
model_settles Logit p x y node shape us k f c l = prices_settle p x y node shape us k f c l
model_settles Attract p x y node shape us k f c l = prices_settle p x y node shape us k f c l
model_settles Mixed p x y node shape us k f c l = segments_settle p x y node shape us k c l
model_settles Chain p x y node shape us k f c l = absurd k

-- A leaf that closes its node settles each feasible completion.
pub leaf_settles : (p : ProblemData) (x y : List Bool) (node : List Mark) (shape : Shape) (us : List ℕ) → Closes p x node shape us
    → IsFeasible p y → Completes node y → length x ≡ length node → IsSettledUnder p.model p x y
leaf_settles p x y node S.Clash us k f c l = absurd (clash_none p node y k.1 f c)
leaf_settles p x y node shape us k f c l = model_settles p.model p x y node shape us k f c l

-- So does a tree.
pub tree_settles : (p : ProblemData) (x y : List Bool) (node : List Mark) (tree : Tree) → TreeCloses p x node tree
    → IsFeasible p y → Completes node y → length x ≡ length node → IsSettledUnder p.model p x y
tree_settles p x y node (leaf shape us) k f c l = leaf_settles p x y node shape us k f c l
tree_settles p x y node (branch i inside outside) k f c l =
    elim (offers y i) as (λ v. offers y i ≡ v → IsSettledUnder p.model p x y) [
      | true ↦ λ e. tree_settles p x y (slice_set node i In) inside k.1 f (Completes-set node y i In c e) (rw length-set l)
      | false ↦ λ e. tree_settles p x y (slice_set node i Out) outside k.2 f (Completes-set node y i Out c e) (rw length-set l)
    ] refl

length-open : (n : ℕ) → length (open_node n) ≡ n
length-open zero = refl
length-open (suc n) = let e = length-open n in omega arith

-- A tree that closes the node of which nothing is settled settles all.
pub tree_best : (p : ProblemData) (x : List Bool) (tree : Tree) → IsFeasible p x → TreeCloses p x (open_node (product_count p)) tree → IsBest p x
tree_best p x tree f k = record {
  feasible = f;
  most = λ y g m. (settled y g).0 m;
  first = λ y g d m. (settled y g).1 d m;
}
  where
    settled : (y : List Bool) → IsFeasible p y → IsSettledUnder p.model p x y
    settled y g = tree_settles p x y (open_node (product_count p)) tree k g (Completes-open (product_count p) y g.0) (f.0 ∙ sym (length-open (product_count p)))

pub accepted_is_best : (p : ProblemData) (text : List ℕ) (x : List Bool) (tree : Tree) → IsAccepted p text x tree → IsBest p x
accepted_is_best p text x tree k = tree_best p x tree k.feasible k.closed

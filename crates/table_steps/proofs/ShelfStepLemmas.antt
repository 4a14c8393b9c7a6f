-- A choice that is read off to the end is greatest, and its weight is the bound of the table.
use Rattle.std.proofs.Common.{◌≡◌, ℕ, zero, suc, ◌+◌, ◌-◌, ◌<◌, Bool, List, [], ◌∷◌, length, refl, sym, ap, arith, subst, inl, ◌∙◌, All}
use Rattle.std.specs.Prelude.{Some, ◌+ℤ◌}
use Rattle.std.proofs.lemmas.Int.{ints, by_lt_z}
use lib.IntN.{ℤ}
use Rattle.offer_model.specs.declared.node.Mark.{Mark}
use Rattle.offer_model.specs.declared.products.Limit.{Limit}
use Rattle.offer_model.specs.declared.products.Limit.TheVariants.{Shelf}
use Rattle.offer_model.specs.Problems.{ProblemData, product_count}
use Rattle.offer_model.specs.Revenue.{sum_offered}
use Rattle.offer_model.specs.Limits.{Meets}
use Rattle.offer_model.specs.Nodes.{fill_of, Clashes}
use Rattle.offer_model.specs.Prices.{Prices, worth_of}
use Rattle.offer_model.specs.LeafBounds.{shelf_space, shelf_bound}
use Rattle.offer_model.proofs.CompletionLemmas.{Completes-from_marks, clash_none}
use Rattle.offer_model.proofs.ShelfLemmas.{shelf_holds}
use Rattle.offer_model.proofs.NodeLemmas.{length-fill_of}
use Rattle.limit_rules.specs.Kinds.{kind_of}
use Rattle.linear_step.specs.Answers.{IsGreatest, HasNone}
use Rattle.linear_step.specs.Closings.{HasShape, Closes}
use Rattle.linear_step.specs.declared.closing.Closing.TheVariants as C
use Rattle.linear_step.proofs.CallerLemmas.{Closes-from_clash, Closes-from_bound}
use Rattle.shelf_table.specs.Tables.{space_of, best_from, free_prices}
use Rattle.shelf_table.proofs.CallerLemmas.{best_from-none, shelf_bound-fits}
use Rattle.table_steps.specs.ShelfReading.{best_sum, IsRead}
use Rattle.table_steps.proofs.ShelfLemmas.{read_start, read_leave, read_take}

all_of_one : (P : Limit → Type 0) (limit : Limit) → P limit → All P (limit ∷ [])
all_of_one P limit h zero d l = h
all_of_one P limit h (suc k) d l = absurd (omega (arith, l))

one_of_all : (P : Limit → Type 0) (limit : Limit) → All P (limit ∷ []) → P limit
one_of_all P limit h = h 0 limit (omega arith)

-- The bound of the table where what is In leaves this room.
bound_is : (p : ProblemData) (node : List Mark) (at : Prices) (shelf room : ℕ) → p.limits ≡ Shelf shelf ∷ []
    → sum_offered p (fill_of node) (space_of p) + room ≡ shelf
    → shelf_bound p node at ≡ Some (at.constant +ℤ best_sum (space_of p) (product_count p) node at.price room)
bound_is p node at shelf room one fits =
    let space : shelf_space p.limits ≡ Some shelf = rw one refl in
    let left : shelf - sum_offered p (fill_of node) (space_of p) ≡ room = omega arith in
    shelf_bound-fits p node at shelf space (omega arith) ∙ rw left (ap Some (omega (arith, ints)))

-- What was read off to the end.
pub read_greatest : (p : ProblemData) (node : List Mark) (at : Prices) (shelf room : ℕ) (x : List Bool) (left : ℕ) → p.limits ≡ Shelf shelf ∷ []
    → length node ≡ product_count p → sum_offered p (fill_of node) (space_of p) + room ≡ shelf
    → IsRead (space_of p) (product_count p) node at.price shelf (best_sum (space_of p) (product_count p) node at.price room) (product_count p) x left
    → IsGreatest p at node x × (worth_of p at x ≡ (at.constant +ℤ best_sum (space_of p) (product_count p) node at.price room))
read_greatest p node at shelf room x left one long fits r = (greatest, worth)
  where
    worth : worth_of p at x ≡ (at.constant +ℤ best_sum (space_of p) (product_count p) node at.price room)
    worth =
        let none = best_from-none (space_of p) (free_prices node at.price) (product_count p) left in
        let s = r.sum in
        omega (arith, ints)

    greatest : IsGreatest p at node x
    greatest = record {
      feasible = (r.each, subst (All (Meets p x)) (sym one) (all_of_one (Meets p x) (Shelf shelf) (let f = r.fits in omega arith)));
      completes = Completes-from_marks node x (let e = r.each in omega arith) (λ i l. r.agrees i (omega arith));
      most = λ y f c. rw worth (shelf_holds p node at y c f _ (bound_is p node at shelf room one fits));
    }

-- A choice that is read so far can be read to the end.
read_on : (space : ℕ → ℕ) (n : ℕ) (node : List Mark) (price : ℕ → ℤ) (shelf : ℕ) (z : ℤ) (m k : ℕ) → m + k ≡ n → (x : List Bool) (room : ℕ)
    → IsRead space n node price shelf z k x room → (y : List Bool) × ((left : ℕ) × IsRead space n node price shelf z n y left)
read_on space n node price shelf z zero k e x room r =
    let last : k ≡ n = omega (arith, e) in
    (x, (room, subst (λ j. IsRead space n node price shelf z j x room) last r))
read_on space n node price shelf z (suc m) k e x room r =
    by_lt_z (best_from space (free_prices node price) n (suc k) room) (best_from space (free_prices node price) n k room)
    (λ h. read_on space n node price shelf z m (suc k) (omega arith) _ _ (read_take space n node price shelf z k x room (omega arith) h r))
    (λ h. read_on space n node price shelf z m (suc k) (omega arith) _ _ (read_leave space n node price shelf z k x room (omega arith) h r))

clash_is : (p : ProblemData) (node : List Mark) (shelf : ℕ) → p.limits ≡ Shelf shelf ∷ [] → shelf < sum_offered p (fill_of node) (space_of p) → Clashes p node
clash_is p node shelf one over = rw one (0, Shelf shelf, omega arith, refl, λ m. absurd (omega arith))

-- Where what is In doesn't fit, there is no feasible completion, and a clash closes the node.
pub over_has_none : (p : ProblemData) (node : List Mark) (shelf : ℕ) → p.limits ≡ Shelf shelf ∷ [] → shelf < sum_offered p (fill_of node) (space_of p) → HasNone p node
over_has_none p node shelf one over y f c = clash_none p node y (clash_is p node shelf one over) f c

-- Where what is In is too wide for the shelf, the node closes by its clash.
pub over_closes : (p : ProblemData) (node : List Mark) (at : Prices) (shelf : ℕ) → p.limits ≡ Shelf shelf ∷ []
    → shelf < sum_offered p (fill_of node) (space_of p) → Closes p at node C.Clash
over_closes p node at shelf one over = Closes-from_clash p at node (clash_is p node shelf one over)

-- Where it fits, the table closes it.
pub fits_closes : (p : ProblemData) (node : List Mark) (at : Prices) (shelf room : ℕ) → p.limits ≡ Shelf shelf ∷ [] → length node ≡ product_count p
    → sum_offered p (fill_of node) (space_of p) + room ≡ shelf → Closes p at node C.Shelf
fits_closes p node at shelf room one long fits =
    Closes-from_bound p at node C.Shelf (at.constant +ℤ best_sum (space_of p) (product_count p) node at.price room) (λ c. cc)
    (subst (λ t. HasShape (kind_of t) C.Shelf) (sym one) tt) tt no_clash
    (bound_is p node at shelf room one fits) (inl (read.0, best.0, best.1))
  where
    read : (y : List Bool) × ((left : ℕ) × IsRead (space_of p) (product_count p) node at.price shelf (best_sum (space_of p) (product_count p) node at.price room) (product_count p) y left)
    read = read_on (space_of p) (product_count p) node at.price shelf (best_sum (space_of p) (product_count p) node at.price room) (product_count p) 0 (omega arith)
        (fill_of node) room (read_start (space_of p) (product_count p) node at.price shelf room (length-fill_of node ∙ long) fits)

    best : IsGreatest p at node read.0 × (worth_of p at read.0 ≡ (at.constant +ℤ best_sum (space_of p) (product_count p) node at.price room))
    best = read_greatest p node at shelf room read.0 read.1.0 one long fits read.1.1

    no_clash : Clashes p node → ⊥
    no_clash c = clash_none p node read.0 c best.0.feasible best.0.completes

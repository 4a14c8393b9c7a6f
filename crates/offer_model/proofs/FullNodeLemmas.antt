-- Nodes of which everything is settled: what is In is feasible where the node doesn't clash, and completes what it agrees with.
use Rattle.std.proofs.Common.{◌≡◌, ℕ, ◌<◌, true, List, length, get_or, refl, arith}
use Rattle.offer_model.specs.declared.node.Mark.{Mark}
use Rattle.offer_model.specs.declared.node.Mark.TheVariants.{In, Out, Open}
use Rattle.offer_model.specs.declared.products.Limit.{Limit}
use Rattle.offer_model.specs.declared.products.Limit.TheVariants.{Total, Category, Requires, Shelf, Ladder}
use Rattle.offer_model.specs.Assortments.{offers}
use Rattle.offer_model.specs.Problems.{ProblemData, product_count, product_at}
use Rattle.offer_model.specs.Limits.{Meets, IsFeasible}
use Rattle.offer_model.specs.Nodes.{mark_at, Agrees, Completes, fill_of, ClashesAt, Clashes}
use Rattle.offer_model.proofs.CompletionLemmas.{Completes-from_marks}
use Rattle.offer_model.proofs.ListLemmas.{get_or-any}
use Rattle.offer_model.proofs.LimitLemmas.{le_stable, MayStand-stable}
use Rattle.offer_model.proofs.NodeLemmas.{length-fill_of, offers-fill_of_in, offers-fill_of_other, in_from_fill}

-- ---- One limit.

required : (node : List Mark) (b : ℕ) (m : Mark) → mark_at node b ≡ m → (m ≡ Open → ⊥) → (m ≡ Out → ⊥) → offers (fill_of node) b ≡ true
required node b In e full free = offers-fill_of_in node b e
required node b Out e full free = absurd (free refl)
required node b Open e full free = absurd (full refl)

meets_at : (p : ProblemData) (node : List Mark) (limit : Limit) → ((i : ℕ) → mark_at node i ≡ Open → ⊥) → (ClashesAt p node limit → ⊥)
    → Meets p (fill_of node) limit
meets_at p node (Requires a b) full free = λ h. let there = in_from_fill node a h in
    required node b (mark_at node b) refl (full b) (λ out. free (there, out))
meets_at p node (Total cap) full free = le_stable _ _ free
meets_at p node (Category c cap) full free = le_stable _ _ free
meets_at p node (Shelf space) full free = le_stable _ _ free
meets_at p node (Ladder l) full free =
    λ i j li lj d oi oj ki kj. MayStand-stable (product_at p i) (product_at p j) (λ n. free (λ m. n (m i j li lj d oi oj ki kj)))

-- ---- All limits.

-- Where nothing is Open and the node doesn't clash, what is In is feasible.
pub full_feasible : (p : ProblemData) (node : List Mark) → length node ≡ product_count p → ((i : ℕ) → mark_at node i ≡ Open → ⊥)
    → (Clashes p node → ⊥) → IsFeasible p (fill_of node)
full_feasible p node long full free =
    let e = length-fill_of node in (
      omega arith,
      λ k d l. meets_at p node (get_or p.limits k d) full
          (λ c. free (k, get_or p.limits k d, l, get_or-any p.limits k d (get_or p.limits k d) l, c)),
    )

-- ---- Another node.

agrees_full : (node : List Mark) (i : ℕ) (r m : Mark) → mark_at node i ≡ m → (m ≡ Open → ⊥) → (r ≡ In → m ≡ Out → ⊥) → (r ≡ Out → m ≡ In → ⊥)
    → Agrees r (offers (fill_of node) i)
agrees_full node i Open m e full one other = tt
agrees_full node i In In e full one other = offers-fill_of_in node i e
agrees_full node i In Out e full one other = absurd (one refl refl)
agrees_full node i In Open e full one other = absurd (full refl)
agrees_full node i Out In e full one other = absurd (other refl refl)
agrees_full node i Out Out e full one other = offers-fill_of_other node i (λ h. cc)
agrees_full node i Out Open e full one other = absurd (full refl)

-- What is In completes each node that no mark contradicts.
pub full_completes : (root node : List Mark) → length root ≡ length node → ((i : ℕ) → mark_at node i ≡ Open → ⊥)
    → ((i : ℕ) → i < length node → mark_at root i ≡ In → mark_at node i ≡ Out → ⊥)
    → ((i : ℕ) → i < length node → mark_at root i ≡ Out → mark_at node i ≡ In → ⊥) → Completes root (fill_of node)
full_completes root node long full one other =
    let e = length-fill_of node in
    Completes-from_marks root (fill_of node) (omega arith)
    (λ i l. agrees_full node i (mark_at root i) (mark_at node i) refl (full i) (one i (omega arith)) (other i (omega arith)))

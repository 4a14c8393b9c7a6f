-- Which Open product is next. Within the crate.
use Rattle.std.specs.Prelude.{◌≡◌, ℕ, true, false, if◌then◌else◌, Option, Some, None, option_map, List, [], ◌∷◌}
use Rattle.std.specs.Option.{option_or}
use Rattle.std.proofs.Common.{suc, zero, refl}
use Rattle.offer_model.specs.declared.node.Mark.{Mark}
use Rattle.offer_model.specs.declared.node.Mark.TheVariants.{In, Out, Open}
use Rattle.offer_model.specs.declared.products.Limit.{Limit}
use Rattle.offer_model.specs.declared.products.Limit.TheVariants.{Total, Category, Requires, Shelf, Ladder}
use Rattle.offer_model.specs.Nodes.{mark_at, is_open, first_open}
use Rattle.several_step.specs.declared.branch_order.Ranked.{Ranked}
use Rattle.offer_model.proofs.PotentialLemmas.{is_open-true}
use Rattle.tree_search.specs.Goals.{IsOpenOf}

-- The first ranked product that is Open.
abbrev pub first_ranked : List Ranked → List Mark → Option ℕ
first_ranked [] node = None
first_ranked (r ∷ order) node = if is_open (mark_at node r.product) then Some r.product else first_ranked order node

-- Of a product a and one b that it requires, the Open one that the other's mark forces.
abbrev pub forced_of : ℕ → ℕ → Mark → Mark → Option ℕ
forced_of a b In Open = Some b
forced_of a b In In = None
forced_of a b In Out = None
forced_of a b Open Out = Some a
forced_of a b Open In = None
forced_of a b Open Open = None
forced_of a b Out In = None
forced_of a b Out Out = None
forced_of a b Out Open = None

abbrev pub forced_by : List Mark → Limit → Option ℕ
forced_by node (Requires a b) = forced_of a b (mark_at node a) (mark_at node b)
forced_by node (Total cap) = None
forced_by node (Category c cap) = None
forced_by node (Shelf space) = None
forced_by node (Ladder l) = None

-- The Open product that the first limit which forces one does.
abbrev pub first_forced : List Limit → List Mark → Option ℕ
first_forced [] node = None
first_forced (limit ∷ limits) node = option_or (forced_by node limit) (first_forced limits node)

-- The first forced product, else the first ranked one that is Open, else the first Open one.
abbrev pub next_by : List Limit → List Ranked → List Mark → Option ℕ
next_by limits order node = option_or (first_forced limits node) (option_or (first_ranked order node) (first_open node))

-- ---- It is Open. The law of a goal can cite only what stands in specs/.

further_is_open : (m : Mark) (node : List Mark) (o : Option ℕ) → IsOpenOf node o → (m ≡ Open → ⊥) → IsOpenOf (m ∷ node) (option_map suc o)
further_is_open m node (Some i) h n = h
further_is_open m node None h n = full
  where
    full : (i : ℕ) → mark_at (m ∷ node) i ≡ Open → ⊥
    full zero e = n e
    full (suc i) e = h i e

pub first_is_open : (node : List Mark) → IsOpenOf node (first_open node)
first_is_open [] = λ i e. cc
first_is_open (Open ∷ node) = refl
first_is_open (In ∷ node) = further_is_open In node (first_open node) (first_is_open node) (λ e. cc)
first_is_open (Out ∷ node) = further_is_open Out node (first_open node) (first_is_open node) (λ e. cc)

ranked_is_open : (order : List Ranked) (node : List Mark) (i : ℕ) → first_ranked order node ≡ Some i → mark_at node i ≡ Open
ranked_is_open [] node i e = cc
ranked_is_open (r ∷ order) node i e = elim (is_open (mark_at node r.product)) as (λ v. is_open (mark_at node r.product) ≡ v
    → (if v then Some r.product else first_ranked order node) ≡ Some i → mark_at node i ≡ Open) [
      | true ↦ λ t h. let same : r.product ≡ i = cc in rw (← same) (is_open-true (mark_at node r.product) t)
      | false ↦ λ t h. ranked_is_open order node i h
    ] refl e

else_open : (node : List Mark) (a b : Option ℕ) → ((i : ℕ) → a ≡ Some i → mark_at node i ≡ Open) → IsOpenOf node b → IsOpenOf node (option_or a b)
else_open node None b one other = other
else_open node (Some i) b one other = one i refl

forced_of_open : (node : List Mark) (a b i : ℕ) (first second : Mark) → mark_at node a ≡ first → mark_at node b ≡ second
    → forced_of a b first second ≡ Some i → mark_at node i ≡ Open
forced_of_open node a b i In Open at_a at_b e = let same : b ≡ i = cc in rw (← same) at_b
forced_of_open node a b i Open Out at_a at_b e = let same : a ≡ i = cc in rw (← same) at_a
forced_of_open node a b i In In at_a at_b e = cc
forced_of_open node a b i In Out at_a at_b e = cc
forced_of_open node a b i Open In at_a at_b e = cc
forced_of_open node a b i Open Open at_a at_b e = cc
forced_of_open node a b i Out In at_a at_b e = cc
forced_of_open node a b i Out Out at_a at_b e = cc
forced_of_open node a b i Out Open at_a at_b e = cc

forced_by_open : (node : List Mark) (limit : Limit) (i : ℕ) → forced_by node limit ≡ Some i → mark_at node i ≡ Open
forced_by_open node (Requires a b) i e = forced_of_open node a b i (mark_at node a) (mark_at node b) refl refl e
forced_by_open node (Total cap) i e = cc
forced_by_open node (Category c cap) i e = cc
forced_by_open node (Shelf space) i e = cc
forced_by_open node (Ladder l) i e = cc

or_open : (node : List Mark) (a b : Option ℕ) → ((i : ℕ) → a ≡ Some i → mark_at node i ≡ Open) → ((i : ℕ) → b ≡ Some i → mark_at node i ≡ Open)
    → (i : ℕ) → option_or a b ≡ Some i → mark_at node i ≡ Open
or_open node None b one other i e = other i e
or_open node (Some j) b one other i e = one i e

forced_is_open : (limits : List Limit) (node : List Mark) (i : ℕ) → first_forced limits node ≡ Some i → mark_at node i ≡ Open
forced_is_open [] node i e = cc
forced_is_open (limit ∷ limits) node i e =
    or_open node (forced_by node limit) (first_forced limits node) (forced_by_open node limit) (forced_is_open limits node) i e

pub next_is_open : (limits : List Limit) (order : List Ranked) (node : List Mark) → IsOpenOf node (next_by limits order node)
next_is_open limits order node = else_open node (first_forced limits node) (option_or (first_ranked order node) (first_open node)) (forced_is_open limits node)
    (else_open node (first_ranked order node) (first_open node) (ranked_is_open order node) (first_is_open node))

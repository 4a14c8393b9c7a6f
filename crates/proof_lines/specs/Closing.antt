-- Which leaves close their nodes: no feasible completion of the node is then better than the certificate's assortment,
-- written x here. Own.
use Rattle.std.specs.Prelude.{◌≡◌, ℕ, ◌<◌, ◌⊎◌, Bool, List, [], Option, Some, None, pos, ◌<ℤ◌, slice_set}
use lib.IntN.{ℤ}
use Rattle.offer_model.specs.declared.node.Mark.{Mark}
use Rattle.offer_model.specs.declared.node.Mark.TheVariants.{In, Out, Open}
use Rattle.offer_model.specs.declared.products.ModelName.{ModelName}
use Rattle.offer_model.specs.declared.products.ModelName.TheVariants.{Logit, Attract, Mixed, Chain}
use Rattle.offer_model.specs.Problems.{ProblemData, first_segment}
use Rattle.offer_model.specs.Revenue.{gain_of, weight_of, value_of}
use Rattle.offer_model.specs.Nodes.{mark_at, Clashes}
pub use Rattle.offer_model.specs.Nodes.{ComesAfter}
use Rattle.offer_model.specs.Prices.{Prices, prices_at}
use Rattle.offer_model.specs.LeafBounds.{MultipliersFit, multipliers_bound, shelf_bound, PotentialsFit, potentials_bound, SegmentsFit, segments_bound}
use Rattle.proof_lines.specs.declared.line.Shape.{Shape}
use Rattle.proof_lines.specs.declared.line.Shape.TheVariants as S
use Rattle.proof_lines.specs.Trees.{Tree}
use Rattle.proof_lines.specs.Trees.Tree.{leaf, branch}

-- There is a bound. It is below 0, or is 0 where ties go to x.
abbrev pub BoundCloses : List Bool → List Mark → Option ℤ → Type 0
BoundCloses x node None = ⊥
BoundCloses x node (Some z) = (z <ℤ pos 0) ⊎ ((z ≡ pos 0) × ComesAfter node x)

-- The prices at the revenue of x.
abbrev pub own_prices : ProblemData → List Bool → Prices
own_prices p x = prices_at p (gain_of p (first_segment p) x) (weight_of p (first_segment p) x)

-- Under logit and generalised attraction, a leaf that bounds by prices.
abbrev pub PricesClose : ProblemData → List Bool → List Mark → Shape → List ℕ → Prices → Type 0
PricesClose p x node S.Multipliers us at = MultipliersFit p us
    × BoundCloses x node (Some (multipliers_bound p node us at))
PricesClose p x node S.Shelf us at = (us ≡ []) × ¬ Clashes p node × BoundCloses x node (shelf_bound p node at)
PricesClose p x node S.Potentials us at = ¬ Clashes p node × PotentialsFit p node at.price us
    × BoundCloses x node (Some (potentials_bound p node us at))
PricesClose p x node _ us at = ⊥

-- Under mixed logit, a leaf that bounds by segments.
abbrev pub SegmentsClose : ProblemData → List Bool → List Mark → Shape → List ℕ → Type 0
SegmentsClose p x node S.Segments us = SegmentsFit p node us
    × ((segments_bound us < value_of p x) ⊎ ((segments_bound us ≡ value_of p x) × ComesAfter node x))
SegmentsClose p x node _ us = ⊥

abbrev pub ClosesUnder : ModelName → ProblemData → List Bool → List Mark → Shape → List ℕ → Type 0
ClosesUnder Logit p x node shape us = PricesClose p x node shape us (own_prices p x)
ClosesUnder Attract p x node shape us = PricesClose p x node shape us (own_prices p x)
ClosesUnder Mixed p x node shape us = SegmentsClose p x node shape us
ClosesUnder Chain p x node shape us = ⊥

-- The leaf of this shape and these numbers closes the node.
abbrev pub Closes : ProblemData → List Bool → List Mark → Shape → List ℕ → Type 0
Closes p x node S.Clash us = (us ≡ []) × Clashes p node
Closes p x node shape us = ClosesUnder p.model p x node shape us

-- Each branch is on a product that is Open at its node, and each leaf closes its node.
abbrev pub TreeCloses : ProblemData → List Bool → List Mark → Tree → Type 0
TreeCloses p x node (leaf shape us) = Closes p x node shape us
TreeCloses p x node (branch i inside outside) = (mark_at node i ≡ Open)
    × TreeCloses p x (slice_set node i In) inside × TreeCloses p x (slice_set node i Out) outside

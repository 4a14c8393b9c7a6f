-- Which certificates the writers may write: of the best assortment, accepted, and in these forms. Own.
use Rattle.std.specs.Prelude.{◌≡◌, ℕ, ◌+◌, ◌==◌, ◌&&◌, ◌||◌, nat_lt, ◌⊎◌, Bool, cond, if◌then◌else◌, List, [], ◌∷◌, length, replicate, Option, Some, None, slice_set}
use Prim.Native.Nat.{zero, suc}
use Rattle.std.specs.Bool.{MatchBool}
use Rattle.std.specs.List.{list_all}
use Rattle.offer_model.specs.declared.node.Mark.{Mark}
use Rattle.offer_model.specs.declared.node.Mark.TheVariants.{In, Out}
use Rattle.offer_model.specs.declared.products.ModelName.{ModelName}
use Rattle.offer_model.specs.declared.products.ModelName.TheVariants.{Logit, Attract, Mixed, Chain}
use Rattle.offer_model.specs.declared.products.Limit.{Limit}
use Rattle.offer_model.specs.Assortments.{offers}
use Rattle.offer_model.specs.Problems.{ProblemData, product_count}
use Rattle.offer_model.specs.Validity.{is_cap, is_requires, is_shelf, is_ladder}
use Rattle.offer_model.specs.Best.{IsBest}
use Rattle.offer_model.specs.Nodes.{open_node, Clashes}
use Rattle.offer_model.specs.LeafBounds.{priced_limits}
use Rattle.offer_model.specs.Branching.{IsFirstOpen, IsDearestOpen}
use Rattle.offer_model.specs.NodeValues.{AreGreatestValues}
use Rattle.offer_model.specs.Chains.{ChainData}
use Rattle.offer_model.specs.Stopping.{StoppingData, IsStopping}
use Rattle.proof_lines.specs.declared.line.Shape.{Shape}
use Rattle.proof_lines.specs.declared.line.Shape.TheVariants as S
use Rattle.proof_lines.specs.Trees.{Tree}
use Rattle.proof_lines.specs.Trees.Tree.{leaf, branch}
use Rattle.proof_lines.specs.Closing.{Closes}
use Rattle.proof_lines.specs.Acceptance.{IsAccepted, IsAcceptedChain}

-- ---- Limits of one kind, under logit and generalised attraction: a path.

-- The leaf whose bound is exact for such limits: multipliers for caps or for requirements, the table for one shelf,
-- potentials for ladders. None where limits of several kinds stand together.
abbrev pub exact_leaf : List Limit → Option Shape
exact_leaf limits =
    if list_all is_cap limits || list_all is_requires limits then Some S.Multipliers
    else (if list_all is_shelf limits && (length limits == 1) then Some S.Shelf
    else (if list_all is_ladder limits then Some S.Potentials else None))

-- The number of products up to the last that is offered.
abbrev pub offered_end : List Bool → ℕ
offered_end [] = 0
offered_end (b ∷ x) = cond (b || nat_lt 0 (offered_end x)) (suc (offered_end x)) 0

-- A leaf: `x` where the node clashes, else one of the shape.
abbrev pub IsPathLeaf : ProblemData → Shape → List Mark → Tree → Type 0
IsPathLeaf p shape node (leaf s us) = (Clashes p node × (s ≡ S.Clash)) ⊎ (¬ Clashes p node × (s ≡ shape))
IsPathLeaf p shape node (branch i inside outside) = ⊥

-- A tree of so many branches, on products from k on, each in the node that agrees with the assortment x so far.
abbrev pub IsPath : ProblemData → List Bool → Shape → ℕ → ℕ → List Mark → Tree → Type 0
IsPath p x shape zero k node tree = IsPathLeaf p shape node tree
IsPath p x shape (suc more) k node (leaf s us) = ⊥
IsPath p x shape (suc more) k node (branch i inside outside) = (i ≡ k) × MatchBool (offers x k)
    (IsPath p x shape more (k + 1) (slice_set node k In) inside × IsPathLeaf p shape (slice_set node k Out) outside)
    (IsPathLeaf p shape (slice_set node k In) inside × IsPath p x shape more (k + 1) (slice_set node k Out) outside)

-- ---- Otherwise: the tree of a search, which fixes every byte.

-- What a search writes at a node: which leaf it tries, with which numbers, and which product it else branches on.
pub record Rule : Type 1 where
  pub shape : Shape
  pub HasNumbers : List Mark → List ℕ → Type 0
  pub BranchesOn : List Mark → ℕ → Type 0

-- At each node `x` where it clashes; else the rule's leaf where that closes; else the rule's branch.
abbrev pub IsSearchTree : ProblemData → List Bool → Rule → List Mark → Tree → Type 0
IsSearchTree p x rule node (leaf s us) = (Clashes p node × (s ≡ S.Clash) × (us ≡ []))
    ⊎ (¬ Clashes p node × (s ≡ rule.shape) × rule.HasNumbers node us × Closes p x node rule.shape us)
IsSearchTree p x rule node (branch i inside outside) = ¬ Clashes p node
    × ((us : List ℕ) → rule.HasNumbers node us → ¬ Closes p x node rule.shape us)
    × rule.BranchesOn node i
    × IsSearchTree p x rule (slice_set node i In) inside × IsSearchTree p x rule (slice_set node i Out) outside

-- Under logit and generalised attraction: multipliers that are all 0, and the first Open product.
abbrev pub ratio_rule : ProblemData → Rule
ratio_rule p = record {
  shape = S.Multipliers;
  HasNumbers = λ node us. us ≡ replicate (length (priced_limits p)) 0;
  BranchesOn = λ node i. IsFirstOpen node i;
}

-- Under mixed logit: each segment's greatest value, and the first Open product by falling margin.
abbrev pub mixed_rule : ProblemData → Rule
mixed_rule p = record {
  shape = S.Segments;
  HasNumbers = λ node us. AreGreatestValues p node us;
  BranchesOn = λ node i. IsDearestOpen p node i;
}

-- ---- What is written.

abbrev pub RatioForm : ProblemData → List Bool → Option Shape → Tree → Type 0
RatioForm p x (Some shape) tree = IsPath p x shape (offered_end x) 0 (open_node (product_count p)) tree
RatioForm p x None tree = IsSearchTree p x (ratio_rule p) (open_node (product_count p)) tree

abbrev pub FormUnder : ModelName → ProblemData → List Bool → Tree → Type 0
FormUnder Logit p x tree = RatioForm p x (exact_leaf p.limits) tree
FormUnder Attract p x tree = RatioForm p x (exact_leaf p.limits) tree
FormUnder Mixed p x tree = IsSearchTree p x (mixed_rule p) (open_node (product_count p)) tree
FormUnder Chain p x tree = ⊥

-- The text is accepted, its assortment is the best one, and its tree has the form.
pub record IsWrittenBy (p : ProblemData) (text : List ℕ) (x : List Bool) (tree : Tree) : Type 0 where
  pub best : IsBest p x
  pub accepted : IsAccepted p text x tree
  pub form : FormUnder p.model p x tree

abbrev pub IsWritten : ProblemData → List ℕ → Type 0
IsWritten p text = (x : List Bool) × (tree : Tree) × IsWrittenBy p text x tree

-- The one text of mixed logit.
abbrev pub IsMixedText : ProblemData → List ℕ → Type 0
IsMixedText p text = (p.model ≡ Mixed) × IsWritten p text

-- The text is accepted for the chain, and says its stopping vectors.
abbrev pub IsWrittenChain : ChainData → List ℕ → Type 0
IsWrittenChain c text = (s : StoppingData) × IsStopping c s × IsAcceptedChain c text s

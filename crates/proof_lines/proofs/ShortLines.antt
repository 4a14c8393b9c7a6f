-- No line of an accepted text is long.
use Rattle.std.proofs.Common.{ℕ, Bool, List, [], ◌∷◌, length, ap, arith, ◌<◌, ◌≤◌}
use Rattle.std.specs.List.{AllByRecursion}
use Rattle.std.specs.Prelude.{slice_set}
use Rattle.std.proofs.lemmas.List.{length-map}
use Rattle.offer_model.specs.declared.products.ModelName.{ModelName}
use Rattle.offer_model.specs.declared.products.ModelName.TheVariants.{Logit, Attract, Mixed, Chain}
use Rattle.offer_model.specs.declared.node.Mark.{Mark}
use Rattle.offer_model.specs.declared.node.Mark.TheVariants.{In, Out}
use Rattle.offer_model.specs.Problems.{ProblemData, product_count}
use Rattle.offer_model.specs.Nodes.{open_node}
use Rattle.offer_model.specs.LeafBounds.{priced_limits}
use Rattle.offer_model.specs.Chains.{ChainData, place_count}
use Rattle.offer_model.specs.Stopping.{StoppingData}
use Rattle.proof_lines.specs.declared.line.Shape.{Shape}
use Rattle.proof_lines.specs.declared.line.Shape.TheVariants as S
use Rattle.proof_lines.specs.Lines.{LineData, line, line_text, IsLine, AreLines}
use Rattle.proof_lines.specs.Trees.{Tree, tree_lines, lines_of}
use Rattle.proof_lines.specs.Trees.Tree.{leaf, branch}
use Rattle.proof_lines.specs.Closing.{own_prices, PricesClose, SegmentsClose, ClosesUnder, Closes, TreeCloses}
use Rattle.proof_lines.specs.Acceptance.{digit_of, digits_of, value_numbers, value_numbers_under, proof_of, IsAccepted, chain_lines, IsAcceptedChain}
use Rattle.proof_lines.specs.Laws.{IsShort}
use Rattle.proof_lines.proofs.CallerLemmas.{length-line_text-le}

-- A line of at most 1,024 numbers.
pub line_short : (s : Shape) (ns : List ℕ) → IsLine s ns → length ns ≤ 1024 → length (line_text s ns) < 40000
line_short s ns h few = let all = length-line_text-le s ns h in omega arith

-- ---- The numbers of leaves.

-- The problem has no more than a line may have numbers.
pub record IsSmall (p : ProblemData) : Type 0 where
  pub products : product_count p ≤ 512
  pub limits : length (priced_limits p) ≤ 1024
  pub segments : length p.segments ≤ 1024

prices_few : (p : ProblemData) (x : List Bool) (node : List Mark) (shape : Shape) (us : List ℕ) → IsSmall p → PricesClose p x node shape us (own_prices p x) → length us ≤ 1024
prices_few p x node S.Multipliers us h k = let same = k.0.each in let most = h.limits in omega arith
prices_few p x node S.Shelf us h k = let same = ap length k.0 in omega arith
prices_few p x node S.Potentials us h k = let same = k.1.each in let most = h.products in omega arith
prices_few p x node _ us h k = absurd k

segments_few : (p : ProblemData) (x : List Bool) (node : List Mark) (shape : Shape) (us : List ℕ) → IsSmall p → SegmentsClose p x node shape us → length us ≤ 1024
segments_few p x node S.Segments us h k = let same = k.0.each in let most = h.segments in omega arith
segments_few p x node _ us h k = absurd k

model_few : (m : ModelName) (p : ProblemData) (x : List Bool) (node : List Mark) (shape : Shape) (us : List ℕ) → IsSmall p → ClosesUnder m p x node shape us → length us ≤ 1024
model_few Logit p x node shape us h k = prices_few p x node shape us h k
model_few Attract p x node shape us h k = prices_few p x node shape us h k
model_few Mixed p x node shape us h k = segments_few p x node shape us h k
model_few Chain p x node shape us h k = absurd k

-- A leaf that closes its node has at most 1,024 numbers.
pub leaf_few : (p : ProblemData) (x : List Bool) (node : List Mark) (shape : Shape) (us : List ℕ) → IsSmall p → Closes p x node shape us → length us ≤ 1024
leaf_few p x node S.Clash us h k = let same = ap length k.0 in omega arith
leaf_few p x node shape us h k = model_few p.model p x node shape us h k

tree_short : (p : ProblemData) (x : List Bool) (node : List Mark) (tree : Tree) (rest : List LineData) → IsSmall p → TreeCloses p x node tree → AreLines (tree_lines tree rest)
    → (AreLines rest → AllByRecursion IsShort rest) → AllByRecursion IsShort (tree_lines tree rest)
tree_short p x node (leaf shape us) rest h k a r = (line_short shape us a.0 (leaf_few p x node shape us h k), r a.1)
tree_short p x node (branch i inside outside) rest h k a r = (
  line_short S.Branch (i ∷ []) a.0 (omega arith),
  tree_short p x (slice_set node i In) inside (tree_lines outside rest) h k.1 a.1 (λ b. tree_short p x (slice_set node i Out) outside rest h k.2 b r),
)

pub accepted_lines_are_short : (p : ProblemData) (text : List ℕ) (x : List Bool) (tree : Tree) → product_count p ≤ 512 → length (priced_limits p) ≤ 1024 → length p.segments ≤ 1024
    → IsAccepted p text x tree → AllByRecursion IsShort (lines_of (proof_of p x tree))
accepted_lines_are_short p text x tree few limits segments k =
    let a = k.proof.lines in
    let word = length-map x digit_of in
    let each = k.feasible.0 in (
      line_short S.Start [] a.0 (omega arith),
      (
        line_short (S.Model p.model) [] a.1.0 (omega arith),
        (
          line_short S.Set (digits_of x) a.1.1.0 (omega arith),
          (
            line_short S.Value (value_numbers p x) a.1.1.1.0 (value_few p.model),
            tree_short p x (open_node (product_count p)) tree (line S.End [] ∷ []) (record { products = few; limits = limits; segments = segments }) k.closed a.1.1.1.1 (λ b. (line_short S.End [] b.0 (omega arith), tt)),
          ),
        ),
      ),
    )
  where
    value_few : (m : ModelName) → length (value_numbers_under m p x) ≤ 1024
    value_few Logit = omega arith
    value_few Attract = omega arith
    value_few Mixed = omega arith
    value_few Chain = omega arith

pub accepted_chain_lines_are_short : (c : ChainData) (text : List ℕ) (s : StoppingData) → place_count c ≤ 512 → IsAcceptedChain c text s → AllByRecursion IsShort (chain_lines s)
accepted_chain_lines_are_short c text s few k =
    let a = k.lines in
    let word = length-map s.set digit_of in
    let each = k.brackets.each in
    let upper = k.brackets.above.each in
    let lower = k.brackets.below.each in (
      line_short S.Start [] a.0 (omega arith),
      (
        line_short (S.Model Chain) [] a.1.0 (omega arith),
        (
          line_short S.Set (digits_of s.set) a.1.1.0 (omega arith),
          (
            line_short S.Value (2 ∷ s.lo ∷ s.up ∷ []) a.1.1.1.0 (omega arith),
            (
              line_short S.Upper s.upper a.1.1.1.1.0 (omega arith),
              (
                line_short S.Lower s.lower a.1.1.1.1.1.0 (omega arith),
                (line_short S.End [] a.1.1.1.1.1.1.0 (omega arith), tt),
              ),
            ),
          ),
        ),
      ),
    )

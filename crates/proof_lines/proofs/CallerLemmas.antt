-- What writers and checkers of certificates need.
use Rattle.std.proofs.Common.{ℕ, List, [], ◌∷◌, length, arith, ◌≤◌, ◌+◌, ◌*◌, length-append}
use Rattle.std.specs.Fmt.{decimal}
use Rattle.std.specs.Prelude.{Bool, slice_set}
use Rattle.std.proofs.lemmas.List.{length-map}
use Rattle.std.proofs.lemmas.Fmt.{length-decimal-le_wide}
use Rattle.offer_model.specs.declared.products.ModelName.{ModelName}
use Rattle.offer_model.specs.declared.products.ModelName.TheVariants.{Logit, Attract, Mixed, Chain}
use Rattle.offer_model.specs.declared.node.Mark.{Mark}
use Rattle.offer_model.specs.declared.node.Mark.TheVariants.{In, Out}
use Rattle.offer_model.specs.Problems.{ProblemData}
use Rattle.proof_lines.specs.declared.line.Shape.{Shape}
use Rattle.proof_lines.specs.declared.line.Shape.TheVariants as S
use Rattle.proof_lines.specs.Lines.{most_number, spaced, digits_text, value_text, line_text, model_text, AreNumbers, IsValue, IsLine}
use Rattle.proof_lines.specs.Lines.IsValue.{whole, ratio, bounds}
use Rattle.proof_lines.specs.Trees.{Tree, IsLeaf, HasLeaves}
use Rattle.proof_lines.specs.Trees.Tree.{leaf, branch}
use Rattle.proof_lines.specs.Closing.{own_prices, PricesClose, SegmentsClose, ClosesUnder, Closes, TreeCloses}

-- ---- How long lines are.

length-number-le : (n : ℕ) → n ≤ most_number → length (decimal n) ≤ 33
length-number-le n l = length-decimal-le_wide 33 n (omega arith) (omega arith) (omega arith)

length-spaced-le : (ns : List ℕ) → AreNumbers ns → length (spaced ns) ≤ 34 * length ns
length-spaced-le [] a = omega arith
length-spaced-le (n ∷ ns) a =
    let one = length-number-le n a.0 in
    let rest = length-spaced-le ns a.1 in
    omega (arith, length-append (decimal n) (spaced ns))

length-digits_text-le : (ds : List ℕ) → length (digits_text ds) ≤ length ds + 1
length-digits_text-le [] = omega arith
length-digits_text-le (d ∷ ds) = let same = length-map (d ∷ ds) (λ k. 48 + k) in omega arith

length-value_text-le : (ns : List ℕ) → IsValue ns → length (value_text ns) ≤ 33 * length ns
length-value_text-le ns (whole {a = a} h) = let one = length-number-le a h in omega arith
length-value_text-le ns (ratio {a = a} {b = b} h k) =
    let one = length-number-le a h in
    let two = length-number-le b k in
    omega (arith, length-append (decimal a) (47 ∷ decimal b))
length-value_text-le ns (bounds {a = a} {b = b} h k) =
    let one = length-number-le a h in
    let two = length-number-le b k in
    omega (arith, length-append (decimal a) (32 ∷ decimal b))

length-model_text-le : (m : ModelName) → length (model_text m) ≤ 13
length-model_text-le Logit = omega arith
length-model_text-le Attract = omega arith
length-model_text-le Mixed = omega arith
length-model_text-le Chain = omega arith

length-list-le : (c : ℕ) (ns : List ℕ) → AreNumbers ns → length (c ∷ spaced ns) ≤ 34 * length ns + 14
length-list-le c ns a = let all = length-spaced-le ns a in omega arith

-- A line's text takes at most 34 bytes for each number, and 14.
pub length-line_text-le : (s : Shape) (ns : List ℕ) → IsLine s ns → length (line_text s ns) ≤ 34 * length ns + 14
length-line_text-le S.Start ns h = omega arith
length-line_text-le (S.Model m) ns h = let all = length-model_text-le m in omega arith
length-line_text-le S.Set ns h = let all = length-digits_text-le ns in omega arith
length-line_text-le S.Value ns h = let all = length-value_text-le ns h in omega arith
length-line_text-le S.Branch ns h = length-list-le 98 ns h.1
length-line_text-le S.Clash ns h = omega arith
length-line_text-le S.Multipliers ns h = length-list-le 109 ns h
length-line_text-le S.Shelf ns h = omega arith
length-line_text-le S.Potentials ns h = length-list-le 112 ns h
length-line_text-le S.Segments ns h = length-list-le 115 ns h
length-line_text-le S.Upper ns h = length-list-le 117 ns h
length-line_text-le S.Lower ns h = length-list-le 104 ns h
length-line_text-le S.End ns h = omega arith

-- ---- What closes is a leaf.

prices_leaf : (p : ProblemData) (x : List Bool) (node : List Mark) (shape : Shape) (us : List ℕ) → PricesClose p x node shape us (own_prices p x) → IsLeaf shape
prices_leaf p x node S.Multipliers us k = tt
prices_leaf p x node S.Shelf us k = tt
prices_leaf p x node S.Potentials us k = tt
prices_leaf p x node _ us k = absurd k

segments_leaf : (p : ProblemData) (x : List Bool) (node : List Mark) (shape : Shape) (us : List ℕ) → SegmentsClose p x node shape us → IsLeaf shape
segments_leaf p x node S.Segments us k = tt
segments_leaf p x node _ us k = absurd k

model_leaf : (m : ModelName) (p : ProblemData) (x : List Bool) (node : List Mark) (shape : Shape) (us : List ℕ) → ClosesUnder m p x node shape us → IsLeaf shape
model_leaf Logit p x node shape us k = prices_leaf p x node shape us k
model_leaf Attract p x node shape us k = prices_leaf p x node shape us k
model_leaf Mixed p x node shape us k = segments_leaf p x node shape us k
model_leaf Chain p x node shape us k = absurd k

pub Closes-leaf : (p : ProblemData) (x : List Bool) (node : List Mark) (shape : Shape) (us : List ℕ) → Closes p x node shape us → IsLeaf shape
Closes-leaf p x node S.Clash us k = tt
Closes-leaf p x node shape us k = model_leaf p.model p x node shape us k

-- A tree that closes its node has leaves of the shapes that leaves have.
pub TreeCloses-leaves : (p : ProblemData) (x : List Bool) (node : List Mark) (tree : Tree) → TreeCloses p x node tree → HasLeaves tree
TreeCloses-leaves p x node (leaf shape us) k = Closes-leaf p x node shape us k
TreeCloses-leaves p x node (branch i inside outside) k =
    (TreeCloses-leaves p x (slice_set node i In) inside k.1, TreeCloses-leaves p x (slice_set node i Out) outside k.2)

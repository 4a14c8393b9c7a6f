-- What is proved of certificates, as statements.
use Rattle.std.specs.Prelude.{◌≡◌, ℕ, ◌+◌, ◌<◌, ◌≤◌, ⊤, Bool, List, length, Some, None}
use Rattle.offer_model.specs.declared.products.ModelName.{ModelName}
use Rattle.offer_model.specs.declared.products.ModelName.TheVariants.{Logit, Attract, Mixed, Chain}
use Rattle.std.specs.List.{AllByRecursion}
use Rattle.offer_model.specs.Problems.{ProblemData, product_count}
use Rattle.offer_model.specs.LeafBounds.{priced_limits}
use Rattle.offer_model.specs.Best.{IsBest}
use Rattle.offer_model.specs.Chains.{ChainData, place_count}
use Rattle.offer_model.specs.Stopping.{StoppingData}
use Rattle.offer_model.specs.Claims.{IsBracketed}
use Rattle.proof_lines.specs.declared.line.Shape.{Shape}
use Rattle.proof_lines.specs.Lines.{LineData, IsLine, line_text, AreLines, text_of}
use Rattle.proof_lines.specs.Trees.{Tree, ProofData, lines_of, IsProof}
use Rattle.proof_lines.specs.Trees.Tree.{leaf, branch}
use Rattle.proof_lines.specs.Writing.{exact_leaf, IsWrittenBy, IsWritten, IsWrittenChain}
use Rattle.proof_lines.specs.Acceptance.{proof_of, IsAccepted, IsAcceptedChain, chain_lines}

-- The assortment of an accepted text is the best one.
abbrev pub AcceptedIsBest : Type 0
AcceptedIsBest = (p : ProblemData) (text : List ℕ) (x : List Bool) (tree : Tree)
    → IsAccepted p text x tree → IsBest p x

-- The assortment and the bounds of an accepted text of a chain are what the chain's claim says.
abbrev pub AcceptedIsBracketed : Type 0
AcceptedIsBracketed = (c : ChainData) (text : List ℕ) (s : StoppingData)
    → IsAcceptedChain c text s → IsBracketed c s.set s.lo s.up

-- Two lines of one text are one line.
abbrev pub LinesDiffer : Type 0
LinesDiffer = (s t : Shape) (ns ms : List ℕ) → IsLine s ns → IsLine t ms
    → line_text s ns ≡ line_text t ms → (s ≡ t) × (ns ≡ ms)

-- Two certificates of a chain with one text are one certificate.
abbrev pub ChainProofsDiffer : Type 0
ChainProofsDiffer = (s t : StoppingData) → AreLines (chain_lines s) → AreLines (chain_lines t)
    → text_of (chain_lines s) ≡ text_of (chain_lines t) → s ≡ t

-- Two proofs of one text are one proof.
abbrev pub ProofsDiffer : Type 0
ProofsDiffer = (d e : ProofData) (text : List ℕ) → IsProof d text → IsProof e text → d ≡ e

-- The line's text is shorter than 40,000 bytes.
abbrev pub IsShort : LineData → Type 0
IsShort l = length (line_text l.shape l.numbers) < 40000

-- No line of an accepted text is longer, where the problem is small.
abbrev pub AcceptedLinesAreShort : Type 0
AcceptedLinesAreShort = (p : ProblemData) (text : List ℕ) (x : List Bool) (tree : Tree)
    → product_count p ≤ 512 → length (priced_limits p) ≤ 1024 → length p.segments ≤ 1024
    → IsAccepted p text x tree → AllByRecursion IsShort (lines_of (proof_of p x tree))

-- Nor of an accepted text of a chain.
abbrev pub AcceptedChainLinesAreShort : Type 0
AcceptedChainLinesAreShort = (c : ChainData) (text : List ℕ) (s : StoppingData)
    → place_count c ≤ 512 → IsAcceptedChain c text s → AllByRecursion IsShort (chain_lines s)

-- ---- What the writers' forms fix.

abbrev pub branch_count : Tree → ℕ
branch_count (leaf shape ns) = 0
branch_count (branch i inside outside) = 1 + branch_count inside + branch_count outside

-- Under logit and generalised attraction with limits of one kind the tree is a path.
abbrev pub IsPathUnder : ModelName → ProblemData → Shape → Type 0
IsPathUnder Logit p shape = exact_leaf p.limits ≡ Some shape
IsPathUnder Attract p shape = exact_leaf p.limits ≡ Some shape
IsPathUnder Mixed p shape = ⊥
IsPathUnder Chain p shape = ⊥

-- Such a tree has at most as many branches as there are products.
abbrev pub PathsAreShort : Type 0
PathsAreShort = (p : ProblemData) (text : List ℕ) (x : List Bool) (tree : Tree) (shape : Shape)
    → IsPathUnder p.model p shape → IsWrittenBy p text x tree → branch_count tree ≤ product_count p

-- With limits of several kinds, and under mixed logit, the tree is a search's.
abbrev pub IsFixedUnder : ModelName → ProblemData → Type 0
IsFixedUnder Logit p = exact_leaf p.limits ≡ None
IsFixedUnder Attract p = exact_leaf p.limits ≡ None
IsFixedUnder Mixed p = ⊤
IsFixedUnder Chain p = ⊥

-- There is then one text at most.
abbrev pub SearchesWriteOnce : Type 0
SearchesWriteOnce = (p : ProblemData) (a b : List ℕ) → IsFixedUnder p.model p
    → IsWritten p a → IsWritten p b → a ≡ b

-- And one for a chain.
abbrev pub ChainsWriteOnce : Type 0
ChainsWriteOnce = (c : ChainData) (a b : List ℕ) → IsWrittenChain c a → IsWrittenChain c b → a ≡ b

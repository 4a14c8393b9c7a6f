-- The text of a tree is one of lines that a feeder may hold.
use Rattle.std.proofs.Common.{◌≡◌, ◌≢◌, ℕ, Bool, true, ◌&&◌, List, [], ◌∷◌, length, arith, ltb, ◌≤◌}
use Rattle.std.specs.List.{AllByRecursion}
use Rattle.std.specs.Prelude.{slice_set}
use Rattle.std.proofs.lemmas.Bool.Decides.{nat_tests}
use Rattle.offer_model.specs.declared.node.Mark.{Mark}
use Rattle.offer_model.specs.declared.node.Mark.TheVariants.{In, Out}
use Rattle.proof_lines.specs.declared.line.Shape.{Shape}
use Rattle.proof_lines.specs.declared.line.Shape.TheVariants as S
use Rattle.proof_lines.specs.Lines.{line_text, IsLine}
use Rattle.proof_lines.proofs.FeedLemmas.{clean, clean_line}
use Rattle.proof_lines.proofs.CallerLemmas.{length-line_text-le}
use Rattle.proof_tree.specs.Feeding.{HasNoFeed, IsBare}
use Rattle.proof_tree.specs.Trees.{TextTree, tree_texts, TreeCloses}
use Rattle.proof_tree.specs.Trees.TextTree.{leaf, branch}

clean_feed : (bs : List ℕ) → clean bs ≡ true → HasNoFeed bs
clean_feed [] h = tt
clean_feed (b ∷ bs) h = (above b (clean bs) h, clean_feed bs (later (ltb 10 b) (clean bs) h))
  where
    above : (b : ℕ) (t : Bool) → (ltb 10 b && t) ≡ true → b ≢ 10
    above b t h = λ e. grind (arith, nat_tests)

    later : (a b : Bool) → (a && b) ≡ true → b ≡ true
    later a b h = grind (arith, nat_tests)

-- A line that is short is bare.
pub short_bare : (s : Shape) (ns : List ℕ) → IsLine s ns → length (line_text s ns) ≤ 39999 → IsBare (line_text s ns)
short_bare s ns h short = record { no_feed = clean_feed (line_text s ns) (clean_line s ns h); short = short }

-- A line of few numbers is bare.
pub line_bare : (s : Shape) (ns : List ℕ) → IsLine s ns → length ns ≤ 1024 → IsBare (line_text s ns)
line_bare s ns h few = short_bare s ns h (let all = length-line_text-le s ns h in omega arith)

-- The lines of a tree are bare where those of its leaves are.
pub tree_bare : (C : List Mark → List ℕ → Type 0) → ((node : List Mark) (l : List ℕ) → C node l → IsBare l) → (node : List Mark) (tree : TextTree) (rest : List (List ℕ))
    → TreeCloses C node tree → AllByRecursion IsBare rest → AllByRecursion IsBare (tree_texts tree rest)
tree_bare C bare node (leaf l) rest k r = (bare node l k, r)
tree_bare C bare node (branch i inside outside) rest k r = (
  line_bare S.Branch (i ∷ []) k.0 (omega arith),
  tree_bare C bare (slice_set node i In) inside (tree_texts outside rest) k.2 (tree_bare C bare (slice_set node i Out) outside rest k.3 r),
)

-- Two proofs of one text are one proof.
use Rattle.std.proofs.Common.{◌≡◌, ℕ, Bool, true, false, List, [], ◌∷◌, refl, sym, ◌∙◌, ap, subst, arith}
use Rattle.offer_model.specs.declared.products.ModelName.{ModelName}
use Rattle.proof_lines.specs.declared.line.Shape.{Shape}
use Rattle.proof_lines.specs.declared.line.Shape.TheVariants as S
use Rattle.offer_model.specs.declared.products.ModelName.TheVariants.{Chain}
use Rattle.offer_model.specs.Stopping.{StoppingData}
use Rattle.proof_lines.specs.Acceptance.{digit_of, digits_of, chain_lines}
use Rattle.proof_lines.specs.Lines.{LineData, line, AreLines, text_of}
use Rattle.proof_lines.specs.Trees.{Tree, IsLeaf, HasLeaves, tree_lines, ProofData, lines_of, IsProof}
use Rattle.proof_lines.specs.Trees.Tree.{leaf, branch}
use Rattle.proof_lines.proofs.FeedLemmas.{text_of-one}

-- Equal lines first, and equal lines after them.
pub first_line : (l m : LineData) (r t : List LineData) → l ∷ r ≡ m ∷ t → (l.shape ≡ m.shape) × (l.numbers ≡ m.numbers) × (r ≡ t)
first_line l m r t e = let same : l ≡ m = cc in (ap (λ x. x.shape) same, ap (λ x. x.numbers) same, cc)

-- A leaf's line is no branch's.
leaf_alone : (shape : Shape) (ns : List ℕ) (i : ℕ) (r t : List LineData) → IsLeaf shape → line shape ns ∷ r ≡ line S.Branch (i ∷ []) ∷ t → ⊥
leaf_alone shape ns i r t h e =
    let same = first_line (line shape ns) (line S.Branch (i ∷ [])) r t e in
    let b : IsLeaf S.Branch = subst IsLeaf same.0 h in b

same_leaf : (s u : Shape) (ns ms : List ℕ) → s ≡ u → ns ≡ ms → leaf s ns ≡ leaf u ms
same_leaf s u ns ms e f = cc

same_branch : (i j : ℕ) (a b c d : Tree) → i ≡ j → a ≡ c → b ≡ d → branch i a b ≡ branch j c d
same_branch i j a b c d e f g = cc

-- The lines of a tree and those after it fix the tree and those after it.
tree_lines-one : (a b : Tree) (r t : List LineData) → HasLeaves a → HasLeaves b → tree_lines a r ≡ tree_lines b t → (a ≡ b) × (r ≡ t)
tree_lines-one (leaf s ns) (leaf u ms) r t h k e =
    let same = first_line (line s ns) (line u ms) r t e in (same_leaf s u ns ms same.0 same.1, same.2)
tree_lines-one (leaf s ns) (branch i inside outside) r t h k e = absurd (leaf_alone s ns i r (tree_lines inside (tree_lines outside t)) h e)
tree_lines-one (branch i inside outside) (leaf s ns) r t h k e = absurd (leaf_alone s ns i t (tree_lines inside (tree_lines outside r)) k (sym e))
tree_lines-one (branch i a b) (branch j c d) r t h k e =
    let same = first_line (line S.Branch (i ∷ [])) (line S.Branch (j ∷ [])) (tree_lines a (tree_lines b r)) (tree_lines c (tree_lines d t)) e in
    let one = tree_lines-one a c (tree_lines b r) (tree_lines d t) h.0 k.0 same.2 in
    let two = tree_lines-one b d r t h.1 k.1 one.1 in
    let index : ◌≡◌ {A = ℕ} i j = let list = same.1 in cc in
    (same_branch i j a b c d index one.0 two.0, two.1)

same_model : (m n : ModelName) → ◌≡◌ {A = Shape} (S.Model m) (S.Model n) → m ≡ n
same_model m n e = cc

pub proofs_differ : (d e : ProofData) (text : List ℕ) → IsProof d text → IsProof e text → d ≡ e
proofs_differ d e text a b =
    let same = text_of-one (lines_of d) (lines_of e) a.lines b.lines (sym a.whole ∙ b.whole) in
    let start = first_line (line S.Start []) (line S.Start []) _ _ same in
    let model = first_line (line (S.Model d.model) []) (line (S.Model e.model) []) _ _ start.2 in
    let digits = first_line (line S.Set d.digits) (line S.Set e.digits) _ _ model.2 in
    let value = first_line (line S.Value d.value) (line S.Value e.value) _ _ digits.2 in
    let trees = tree_lines-one d.tree e.tree (line S.End [] ∷ []) (line S.End [] ∷ []) a.leaves b.leaves value.2 in
    joined (same_model d.model e.model model.0) digits.1 value.1 trees.0
  where
    joined : d.model ≡ e.model → d.digits ≡ e.digits → d.value ≡ e.value → d.tree ≡ e.tree → d ≡ e
    joined m g v t =
        let r : record { model = d.model; digits = d.digits; value = d.value; tree = d.tree } ≡ record { model = e.model; digits = e.digits; value = e.value; tree = e.tree } = cc in r

-- ---- Assortments and chains.

digit_of-one : (a b : Bool) → digit_of a ≡ digit_of b → a ≡ b
digit_of-one true true e = refl
digit_of-one false false e = refl
digit_of-one true false e = let f : ◌≡◌ {A = ℕ} 1 0 = e in absurd (omega arith)
digit_of-one false true e = let f : ◌≡◌ {A = ℕ} 0 1 = e in absurd (omega arith)

-- Digits are those of at most one assortment.
pub digits_of-one : (x y : List Bool) → digits_of x ≡ digits_of y → x ≡ y
digits_of-one [] [] e = refl
digits_of-one [] (b ∷ y) e = cc
digits_of-one (a ∷ x) [] e = cc
digits_of-one (a ∷ x) (b ∷ y) e = let first = digit_of-one a b cc in let rest = digits_of-one x y cc in cc

two_bounds : (a b c d : ℕ) → ◌≡◌ {A = List ℕ} (2 ∷ a ∷ b ∷ []) (2 ∷ c ∷ d ∷ []) → (a ≡ c) × (b ≡ d)
two_bounds a b c d e = (cc, cc)

pub chain_proofs_differ : (s t : StoppingData) → AreLines (chain_lines s) → AreLines (chain_lines t) → text_of (chain_lines s) ≡ text_of (chain_lines t) → s ≡ t
chain_proofs_differ s t a b e =
    let same = text_of-one (chain_lines s) (chain_lines t) a b e in
    let start = first_line (line S.Start []) (line S.Start []) _ _ same in
    let model = first_line (line (S.Model Chain) []) (line (S.Model Chain) []) _ _ start.2 in
    let set = first_line (line S.Set (digits_of s.set)) (line S.Set (digits_of t.set)) _ _ model.2 in
    let value = first_line (line S.Value (2 ∷ s.lo ∷ s.up ∷ [])) (line S.Value (2 ∷ t.lo ∷ t.up ∷ [])) _ _ set.2 in
    let upper = first_line (line S.Upper s.upper) (line S.Upper t.upper) _ _ value.2 in
    let lower = first_line (line S.Lower s.lower) (line S.Lower t.lower) _ _ upper.2 in
    let bounds = two_bounds s.lo s.up t.lo t.up value.1 in
    joined (digits_of-one s.set t.set set.1) upper.1 lower.1 bounds.0 bounds.1
  where
    joined : s.set ≡ t.set → s.upper ≡ t.upper → s.lower ≡ t.lower → s.lo ≡ t.lo → s.up ≡ t.up → s ≡ t
    joined x u h l m =
        let r : record { set = s.set; upper = s.upper; lower = s.lower; lo = s.lo; up = s.up } ≡ record { set = t.set; upper = t.upper; lower = t.lower; lo = t.lo; up = t.up } = cc in r

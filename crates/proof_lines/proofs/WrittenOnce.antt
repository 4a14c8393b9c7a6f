-- What the forms of written certificates fix.
use Rattle.std.proofs.Common.{◌≡◌, ℕ, suc, zero, Bool, true, false, cond, ◌||◌, List, [], ◌∷◌, length, Option, Some, None, refl, sym, ◌∙◌, ap, subst, arith, inl, inr, ◌⊎◌, ⊎_elim, eqb, ◌<◌, ◌≤◌, ◌+◌, ◌/◌}
use Rattle.std.specs.Prelude.{slice_index, slice_set, nat_lt}
use Rattle.std.specs.Bool.{MatchBool}
use Rattle.offer_model.specs.declared.node.Mark.{Mark}
use Rattle.offer_model.specs.declared.node.Mark.TheVariants.{In, Out}
use Rattle.offer_model.specs.declared.products.ModelName.{ModelName}
use Rattle.offer_model.specs.declared.products.ModelName.TheVariants.{Logit, Attract, Mixed, Chain}
use Rattle.offer_model.specs.Assortments.{offers}
use Rattle.offer_model.specs.Problems.{SegmentData, ProblemData, product_count, segment_at}
use Rattle.offer_model.specs.Best.{IsBest}
use Rattle.offer_model.specs.Nodes.{open_node, Clashes}
use Rattle.offer_model.proofs.BranchingLemmas.{dearest_one}
use Rattle.offer_model.proofs.NodeLemmas.{IsFirstOpen-unique}
use Rattle.offer_model.specs.NodeValues.{IsGreatestValue}
use Rattle.offer_model.specs.Chains.{ChainData, place_count, arriving, customer_count}
use Rattle.offer_model.specs.Stopping.{StoppingData, IsGreatest, IsStopping, own_value, value_bound, quotient_up, upper_step, lower_step}
use Rattle.offer_model.proofs.BestLemmas.{IsBest-unique}
use Rattle.proof_lines.specs.declared.line.Shape.{Shape}
use Rattle.proof_lines.specs.declared.line.Shape.TheVariants as S
use Rattle.proof_lines.specs.Lines.{text_of}
use Rattle.proof_lines.specs.Trees.{Tree, lines_of}
use Rattle.proof_lines.specs.Trees.Tree.{leaf, branch}
use Rattle.proof_lines.specs.Closing.{Closes}
use Rattle.proof_lines.specs.Acceptance.{proof_of, chain_lines}
use Rattle.proof_lines.specs.Writing.{Rule, IsPathLeaf, IsPath, IsSearchTree, ratio_rule, mixed_rule, exact_leaf, offered_end, RatioForm, FormUnder, IsWrittenBy, IsWritten, IsWrittenChain}
use Rattle.proof_lines.specs.Laws.{branch_count, IsPathUnder, IsFixedUnder}

-- ---- A path has few branches.

leaf_has_none : (p : ProblemData) (shape : Shape) (node : List Mark) (tree : Tree) → IsPathLeaf p shape node tree → branch_count tree ≡ 0
leaf_has_none p shape node (leaf s us) h = refl
leaf_has_none p shape node (branch i a b) h = absurd h

path_count : (p : ProblemData) (x : List Bool) (shape : Shape) (more k : ℕ) (node : List Mark) (tree : Tree) → IsPath p x shape more k node tree → branch_count tree ≡ more
path_count p x shape zero k node tree h = leaf_has_none p shape node tree h
path_count p x shape (suc more) k node (leaf s us) h = absurd h
path_count p x shape (suc more) k node (branch i inside outside) h = one_side (offers x k) h.1
    (λ a. path_count p x shape more (k + 1) (slice_set node k In) inside a) (λ a. leaf_has_none p shape (slice_set node k Out) outside a)
    (λ a. leaf_has_none p shape (slice_set node k In) inside a) (λ a. path_count p x shape more (k + 1) (slice_set node k Out) outside a)
  where
    one_side : (b : Bool) {A B C D : Type 0} → MatchBool b (A × B) (C × D) → (A → branch_count inside ≡ more) → (B → branch_count outside ≡ 0)
        → (C → branch_count inside ≡ 0) → (D → branch_count outside ≡ more) → branch_count (branch i inside outside) ≡ suc more
    one_side true h a b c d = let one = a h.0 in let two = b h.1 in omega arith
    one_side false h a b c d = let one = c h.0 in let two = d h.1 in omega arith

end_inside : (x : List Bool) → offered_end x ≤ length x
end_inside [] = omega arith
end_inside (b ∷ x) =
    let before = end_inside x in
    elim (b || nat_lt 0 (offered_end x)) as (λ v. cond v (suc (offered_end x)) 0 ≤ suc (length x)) [ true ↦ omega arith | false ↦ omega arith ]

path_short : (p : ProblemData) (x : List Bool) (tree : Tree) (o : Option Shape) (shape : Shape) → o ≡ Some shape → RatioForm p x o tree → branch_count tree ≤ length x
path_short p x tree (Some s) shape e h = let count = path_count p x s (offered_end x) 0 (open_node (product_count p)) tree h in let inside = end_inside x in omega arith
path_short p x tree None shape e h = cc

form_short : (m : ModelName) (p : ProblemData) (x : List Bool) (tree : Tree) (shape : Shape) → IsPathUnder m p shape → FormUnder m p x tree → branch_count tree ≤ length x
form_short Logit p x tree shape e h = path_short p x tree (exact_leaf p.limits) shape e h
form_short Attract p x tree shape e h = path_short p x tree (exact_leaf p.limits) shape e h
form_short Mixed p x tree shape e h = absurd e
form_short Chain p x tree shape e h = absurd e

pub few_branches : (p : ProblemData) (text : List ℕ) (x : List Bool) (tree : Tree) (shape : Shape) → IsPathUnder p.model p shape → IsWrittenBy p text x tree → branch_count tree ≤ product_count p
few_branches p text x tree shape e w =
    let short = form_short p.model p x tree shape e w.form in
    let each = w.accepted.feasible.0 in omega arith

-- ---- A search tree is fixed by its rule.

-- The rule leaves no choice.
pub record IsFixing (rule : Rule) : Type 0 where
  pub numbers : (node : List Mark) (us vs : List ℕ) → rule.HasNumbers node us → rule.HasNumbers node vs → us ≡ vs
  pub branches : (node : List Mark) (i j : ℕ) → rule.BranchesOn node i → rule.BranchesOn node j → i ≡ j

same_leaf : (s t : Shape) (us vs : List ℕ) → s ≡ t → us ≡ vs → leaf s us ≡ leaf t vs
same_leaf s t us vs e f = cc

same_branch : (i j : ℕ) (a b c d : Tree) → i ≡ j → a ≡ c → b ≡ d → branch i a b ≡ branch j c d
same_branch i j a b c d e f g = cc

abbrev IsRuleLeaf : ProblemData → List Bool → Rule → List Mark → Shape → List ℕ → Type 0
IsRuleLeaf p x rule node s us = (Clashes p node × (s ≡ S.Clash) × (us ≡ []))
    ⊎ (¬ Clashes p node × (s ≡ rule.shape) × rule.HasNumbers node us × Closes p x node rule.shape us)

leaves_one : (p : ProblemData) (x : List Bool) (rule : Rule) (node : List Mark) (s t : Shape) (us vs : List ℕ) → IsFixing rule
    → IsRuleLeaf p x rule node s us → IsRuleLeaf p x rule node t vs → leaf s us ≡ leaf t vs
leaves_one p x rule node s t us vs f (inl h) (inl k) = same_leaf s t us vs (h.1 ∙ sym k.1) (h.2 ∙ sym k.2)
leaves_one p x rule node s t us vs f (inl h) (inr k) = absurd (k.0 h.0)
leaves_one p x rule node s t us vs f (inr h) (inl k) = absurd (h.0 k.0)
leaves_one p x rule node s t us vs f (inr h) (inr k) = same_leaf s t us vs (h.1 ∙ sym k.1) (f.numbers node us vs h.2 k.2)

search_one : (p : ProblemData) (x : List Bool) (rule : Rule) (node : List Mark) (a b : Tree) → IsFixing rule
    → IsSearchTree p x rule node a → IsSearchTree p x rule node b → a ≡ b
search_one p x rule node (leaf s us) (leaf t vs) f h k = leaves_one p x rule node s t us vs f h k
search_one p x rule node (leaf s us) (branch i a b) f h k = absurd (⊎_elim (λ c. k.0 c.0) (λ c. k.1 us c.2 c.3) h)
search_one p x rule node (branch i a b) (leaf s us) f h k = absurd (⊎_elim (λ c. h.0 c.0) (λ c. h.1 us c.2 c.3) k)
search_one p x rule node (branch i a b) (branch j c d) f h k =
    let same = f.branches node i j h.2 k.2 in
    let P : ℕ → Type 0 = λ n. IsSearchTree p x rule (slice_set node n In) a in
    let Q : ℕ → Type 0 = λ n. IsSearchTree p x rule (slice_set node n Out) b in
    same_branch i j a b c d same
    (search_one p x rule (slice_set node j In) a c f (subst P same h.3) k.3)
    (search_one p x rule (slice_set node j Out) b d f (subst Q same h.4) k.4)

ratio_fixes : (p : ProblemData) → IsFixing (ratio_rule p)
ratio_fixes p = record { numbers = λ node us vs h k. h ∙ sym k; branches = λ node i j h k. IsFirstOpen-unique node i j h k }

value_one : (p : ProblemData) (g : SegmentData) (node : List Mark) (v w : ℕ) → IsGreatestValue p g node v → IsGreatestValue p g node w → v ≡ w
value_one p g node v w h k =
    let low = k.most h.reached.0 h.reached.1 in
    let high = h.most k.reached.0 k.reached.1 in
    omega (arith, h.reached.2, k.reached.2)

lists_one : (us vs : List ℕ) → length us ≡ length vs → ((k : ℕ) → k < length us → slice_index us k ≡ slice_index vs k) → us ≡ vs
lists_one [] [] l h = refl
lists_one [] (v ∷ vs) l h = absurd (omega arith)
lists_one (u ∷ us) [] l h = absurd (omega arith)
lists_one (u ∷ us) (v ∷ vs) l h = joined (h 0 (omega arith)) (lists_one us vs (omega arith) (λ k lt. h (suc k) (omega arith)))
  where
    joined : u ≡ v → us ≡ vs → u ∷ us ≡ v ∷ vs
    joined e f = cc

-- Under mixed logit no choice is left.
pub mixed_fixes : (p : ProblemData) → IsFixing (mixed_rule p)
mixed_fixes p = record {
  numbers = λ node us vs h k. lists_one us vs (h.each ∙ sym k.each)
      (λ j l. value_one p (segment_at p j) node (slice_index us j) (slice_index vs j) (h.greatest j l) (k.greatest j (inside us vs j (h.each ∙ sym k.each) l)));
  branches = λ node i j h k. dearest_one p node i j h k;
}
  where
    inside : (us vs : List ℕ) (j : ℕ) → length us ≡ length vs → j < length us → j < length vs
    inside us vs j e l = omega arith

ratio_one : (p : ProblemData) (x : List Bool) (a b : Tree) (o : Option Shape) → o ≡ None → RatioForm p x o a → RatioForm p x o b → a ≡ b
ratio_one p x a b (Some s) e h k = cc
ratio_one p x a b None e h k = search_one p x (ratio_rule p) (open_node (product_count p)) a b (ratio_fixes p) h k

form_one : (m : ModelName) (p : ProblemData) (x : List Bool) (a b : Tree) → IsFixedUnder m p → FormUnder m p x a → FormUnder m p x b → a ≡ b
form_one Logit p x a b e h k = ratio_one p x a b (exact_leaf p.limits) e h k
form_one Attract p x a b e h k = ratio_one p x a b (exact_leaf p.limits) e h k
form_one Mixed p x a b e h k = search_one p x (mixed_rule p) (open_node (product_count p)) a b (mixed_fixes p) h k
form_one Chain p x a b e h k = absurd h

-- Assortments are equal or not.
bools_decide : (a b : Bool) → (a ≡ b) ⊎ (a ≡ b → ⊥)
bools_decide true true = inl refl
bools_decide false false = inl refl
bools_decide true false = inr (λ e. cc)
bools_decide false true = inr (λ e. cc)

decide : (x y : List Bool) → (x ≡ y) ⊎ (x ≡ y → ⊥)
decide [] [] = inl refl
decide [] (b ∷ y) = inr (λ e. cc)
decide (a ∷ x) [] = inr (λ e. cc)
decide (a ∷ x) (b ∷ y) = both (bools_decide a b) (decide x y)
  where
    both : (a ≡ b) ⊎ (a ≡ b → ⊥) → (x ≡ y) ⊎ (x ≡ y → ⊥) → (a ∷ x ≡ b ∷ y) ⊎ (a ∷ x ≡ b ∷ y → ⊥)
    both (inl e) (inl f) = inl (cc)
    both (inr d) h = inr (λ e. d (cc))
    both (inl e) (inr d) = inr (λ e. d (cc))

best_one : (p : ProblemData) (x y : List Bool) → IsBest p x → IsBest p y → x ≡ y
best_one p x y a b = ⊎_elim (λ e. e) (λ d. absurd (IsBest-unique p x y a b d)) (decide x y)

pub written_once : (p : ProblemData) (a b : List ℕ) → IsFixedUnder p.model p → IsWritten p a → IsWritten p b → a ≡ b
written_once p a b fixed v w =
    let x = v.0 in
    let y = w.0 in
    let same : x ≡ y = best_one p x y v.2.best w.2.best in
    let P : List Bool → Type 0 = λ z. FormUnder p.model p z v.1 in
    let tree = form_one p.model p y v.1 w.1 fixed (subst P same v.2.form) w.2.form in
    v.2.accepted.proof.whole ∙ both same tree ∙ sym w.2.accepted.proof.whole
  where
    both : v.0 ≡ w.0 → v.1 ≡ w.1 → text_of (lines_of (proof_of p v.0 v.1)) ≡ text_of (lines_of (proof_of p w.0 w.1))
    both e f = ap (λ z. text_of (lines_of (proof_of p z v.1))) e ∙ ap (λ t. text_of (lines_of (proof_of p w.0 t))) f

-- ---- Chains.

greatest_one : (n most : ℕ) (step : (ℕ → ℕ) → ℕ → ℕ) (us vs : List ℕ) → IsGreatest n most step us → IsGreatest n most step vs → us ≡ vs
greatest_one n most step us vs h k = lists_one us vs (h.solves.each ∙ sym k.solves.each) (λ i l. at i (omega (arith, h.solves.each)))
  where
    at : (i : ℕ) → i < n → slice_index us i ≡ slice_index vs i
    at i l = let low = h.greatest vs k.solves i l in let high = k.greatest us h.solves i l in omega arith

bools_one : (x y : List Bool) → length x ≡ length y → ((i : ℕ) → i < length x → offers x i ≡ offers y i) → x ≡ y
bools_one [] [] l h = refl
bools_one [] (b ∷ y) l h = absurd (omega arith)
bools_one (a ∷ x) [] l h = absurd (omega arith)
bools_one (a ∷ x) (b ∷ y) l h = joined (h 0 (omega arith)) (bools_one x y (omega arith) (λ k lt. h (suc k) (omega arith)))
  where
    joined : a ≡ b → x ≡ y → a ∷ x ≡ b ∷ y
    joined e f = cc

stopping_one : (c : ChainData) (s t : StoppingData) → IsStopping c s → IsStopping c t → s ≡ t
stopping_one c s t h k =
    let upper = greatest_one (place_count c) (value_bound c) (upper_step c) s.upper t.upper h.upper k.upper in
    let set = bools_one s.set t.set (h.set_each ∙ sym k.set_each) (λ i l. set_at i (omega (arith, h.set_each)) upper) in
    let P : List Bool → Type 0 = λ z. IsGreatest (place_count c) (value_bound c) (lower_step c z) s.lower in
    let lower = greatest_one (place_count c) (value_bound c) (lower_step c t.set) s.lower t.lower (subst P set h.lower) k.lower in
    joined set upper lower
    (h.lo ∙ ap (λ z. arriving c (slice_index z) / customer_count c) lower ∙ sym k.lo)
    (h.up ∙ ap (λ z. quotient_up (arriving c (slice_index z)) (customer_count c)) upper ∙ sym k.up)
  where
    set_at : (i : ℕ) → i < place_count c → s.upper ≡ t.upper → offers s.set i ≡ offers t.set i
    set_at i l e = h.set i l ∙ ap (λ z. eqb (slice_index z i) (own_value c i)) e ∙ sym (k.set i l)

    joined : s.set ≡ t.set → s.upper ≡ t.upper → s.lower ≡ t.lower → s.lo ≡ t.lo → s.up ≡ t.up → s ≡ t
    joined x u h l m =
        let r : record { set = s.set; upper = s.upper; lower = s.lower; lo = s.lo; up = s.up } ≡ record { set = t.set; upper = t.upper; lower = t.lower; lo = t.lo; up = t.up } = cc in r

pub written_chain_once : (c : ChainData) (a b : List ℕ) → IsWrittenChain c a → IsWrittenChain c b → a ≡ b
written_chain_once c a b v w = v.2.whole ∙ ap (λ s. text_of (chain_lines s)) (stopping_one c v.0 w.0 v.1 w.1) ∙ sym w.2.whole

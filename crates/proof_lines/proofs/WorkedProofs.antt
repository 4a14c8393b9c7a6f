-- Worked certificates with the other leaves, by computation, and all of them together.
use Rattle.std.proofs.Common.{◌≡◌, ℕ, suc, zero, Bool, true, false, List, [], ◌∷◌, refl, sym, ◌∙◌, inl, inr, arith, lit≤, lit<, ◌≤◌, ◌^◌, ◌*◌, subst, IsTrue}
use Rattle.std.specs.Prelude.{pos, ◌<ℤ◌, ◌≤ℤ◌, ◌+ℤ◌, slice_index, codes}
use Rattle.std.specs.Fmt.{digits}
use Rattle.std.proofs.lemmas.Int.{ints}
use lib.IntN.{ℤ}
use Rattle.proof_lines.specs.declared.line.Shape.TheVariants as S
use Rattle.offer_model.specs.declared.node.Mark.{Mark}
use Rattle.offer_model.specs.declared.node.Mark.TheVariants.{In, Out, Open}
use Rattle.offer_model.specs.declared.products.Limit.TheVariants.{Shelf, Ladder}
use Rattle.offer_model.specs.Assortments.{offers}
use Rattle.offer_model.specs.Problems.{product_at, segment_at}
use Rattle.offer_model.specs.Limits.{MayStand, Meets, KeepsLadder}
use Rattle.offer_model.specs.Nodes.{open_node, fill_of, settled_mark, Clashes, ClashesAt}
use Rattle.offer_model.specs.Prices.{greatest_worth, prices_above}
use Rattle.offer_model.specs.LeafBounds.{SegmentsFit, is_limited, ladder_of, IsUsable, Rises, PotentialsFit}
use Rattle.proof_lines.specs.Lines.{AreLines, text_of}
use Rattle.proof_lines.specs.Lines.IsValue.{whole, ratio, bounds}
use Rattle.proof_lines.specs.Trees.{Tree, IsProof, lines_of}
use Rattle.proof_lines.specs.Trees.Tree.{leaf, branch}
use Rattle.proof_lines.specs.Closing.{TreeCloses, own_prices}
use Rattle.proof_lines.specs.Acceptance.{proof_of, chain_lines, Brackets, AcceptsChain}
use Rattle.proof_lines.specs.WorkedProofs.{joined, mixed_pair, MixedPair, shelf_of_three, ShelfOfThree, ladder_of_three, ladder_text, LadderOfThree, walk_of_three, walk_text, WalkOfThree, WorkedProofs}
use Rattle.offer_model.specs.Chains.{moved}
use Rattle.offer_model.specs.Stopping.{StoppingData, own_value, value_bound}
use Rattle.offer_model.specs.Brackets.{BoundsAbove, BoundsBelow}
use Rattle.proof_lines.proofs.ProofsDiffer.{chain_proofs_differ}
use Rattle.proof_lines.proofs.RejectionLemmas.{tree_rejects}
use Rattle.proof_lines.proofs.WorkedLists.{at_one, at_three, All-one, Any-one}
use Rattle.proof_lines.proofs.WorkedMultipliers.{free_accepted, free_broken, capped_worked, required_worked}

-- ---- Mixed logit.

abbrev mixed_tree : Tree
mixed_tree = branch 0 (leaf S.Segments (5 ∷ [])) (leaf S.Segments (3 ∷ []))

mixed_proof : IsProof (proof_of mixed_pair (true ∷ false ∷ []) mixed_tree) (joined (codes "assort-proof 1" ∷ codes "model mixed" ∷ codes "set 10" ∷ codes "value 5"
    ∷ codes "b 0" ∷ codes "s 5" ∷ codes "s 3" ∷ codes "end" ∷ []))
unfolding digits
mixed_proof = record {
  lines = (refl, (refl, ((lit≤ tt, (lit< tt, (lit< tt, tt))), (whole (lit≤ tt), ((refl, (lit≤ tt, tt)), ((lit≤ tt, tt), ((lit≤ tt, tt), (refl, tt))))))));
  leaves = (tt, tt);
  whole = refl;
}

mixed_fit : (node : List Mark) (u : ℕ) → u ≤ 10 ^ 18 → greatest_worth mixed_pair node (prices_above mixed_pair (segment_at mixed_pair 0) u) <ℤ pos 0 → SegmentsFit mixed_pair node (u ∷ [])
mixed_fit node u small below = record {
  each = refl;
  small = at_one (λ k. slice_index (u ∷ []) k ≤ 10 ^ 18) small;
  below = at_one (λ k. greatest_worth mixed_pair node (prices_above mixed_pair (segment_at mixed_pair k) (slice_index (u ∷ []) k)) <ℤ pos 0) below;
}

mixed_closes : TreeCloses mixed_pair (true ∷ false ∷ []) (open_node 2) mixed_tree
mixed_closes = (
  refl,
  (mixed_fit (In ∷ Open ∷ []) 5 (lit≤ tt) (record { lt = tt }), inr (refl, λ h. h)),
  (mixed_fit (Out ∷ Open ∷ []) 3 (lit≤ tt) (record { lt = tt }), inl (lit< tt)),
)

pub mixed_worked : MixedPair
mixed_worked = (true ∷ false ∷ [], mixed_tree, record { proof = mixed_proof; feasible = (refl, λ k d l. absurd (omega arith)); closed = mixed_closes })

-- ---- A shelf.

abbrev shelf_tree : Tree
shelf_tree = branch 0 (leaf S.Shelf []) (branch 1 (branch 2 (leaf S.Shelf []) (leaf S.Shelf [])) (leaf S.Shelf []))

shelf_proof : IsProof (proof_of shelf_of_three (false ∷ true ∷ true ∷ []) shelf_tree) (joined (codes "assort-proof 1" ∷ codes "model logit" ∷ codes "set 011" ∷ codes "value 32/8"
    ∷ codes "b 0" ∷ codes "t" ∷ codes "b 1" ∷ codes "b 2" ∷ codes "t" ∷ codes "t" ∷ codes "t" ∷ codes "end" ∷ []))
unfolding digits
shelf_proof = record {
  lines = (refl, (refl, ((lit≤ tt, (lit< tt, (lit< tt, (lit< tt, tt)))), (ratio (lit≤ tt) (lit≤ tt), ((refl, (lit≤ tt, tt)), (refl, ((refl, (lit≤ tt, tt)), ((refl, (lit≤ tt, tt)), (refl, (refl, (refl, (refl, tt))))))))))));
  leaves = (tt, ((tt, tt), tt));
  whole = refl;
}

shelf_clear : (node : List Mark) → Meets shelf_of_three (fill_of node) (Shelf 4) → Clashes shelf_of_three node → ⊥
shelf_clear node fits k = Any-one (ClashesAt shelf_of_three node) (Shelf 4) k fits

shelf_closes : TreeCloses shelf_of_three (false ∷ true ∷ true ∷ []) (open_node 3) shelf_tree
shelf_closes = (
  refl,
  (refl, shelf_clear (In ∷ Open ∷ Open ∷ []) (lit≤ tt), inl (record { lt = tt })),
  (
    refl,
    (refl, (refl, shelf_clear (Out ∷ In ∷ In ∷ []) (lit≤ tt), inr (refl, λ h. h)), (refl, shelf_clear (Out ∷ In ∷ Out ∷ []) (lit≤ tt), inl (record { lt = tt }))),
    (refl, shelf_clear (Out ∷ Out ∷ Open ∷ []) (lit≤ tt), inl (record { lt = tt })),
  ),
)

pub shelf_worked : ShelfOfThree
shelf_worked = (
  false ∷ true ∷ true ∷ [],
  shelf_tree,
  record {
    proof = shelf_proof;
    feasible = (refl, All-one (Meets shelf_of_three (false ∷ true ∷ true ∷ [])) (Shelf 4) (lit≤ tt));
    closed = shelf_closes;
  },
)

-- ---- A price ladder.

abbrev ladder_tree : ℕ → Tree
ladder_tree u = branch 0 (leaf S.Potentials (0 ∷ 0 ∷ u ∷ [])) (branch 1 (leaf S.Potentials (0 ∷ 0 ∷ 0 ∷ [])) (leaf S.Potentials (0 ∷ 0 ∷ 4 ∷ [])))

abbrev ladder_set : List Bool
ladder_set = false ∷ true ∷ false ∷ []

ladder_lines : (u : ℕ) → u ≤ 2 ^ 108 → AreLines (lines_of (proof_of ladder_of_three ladder_set (ladder_tree u)))
ladder_lines u h = (
  refl,
  (
    refl,
    (
      (lit≤ tt, (lit< tt, (lit< tt, (lit< tt, tt)))),
      (
        ratio (lit≤ tt) (lit≤ tt),
        ((refl, (lit≤ tt, tt)), ((lit≤ tt, (lit≤ tt, (h, tt))), ((refl, (lit≤ tt, tt)), ((lit≤ tt, (lit≤ tt, (lit≤ tt, tt))), ((lit≤ tt, (lit≤ tt, (lit≤ tt, tt))), (refl, tt)))))),
      ),
    ),
  ),
)

ladder_4 : IsProof (proof_of ladder_of_three ladder_set (ladder_tree 4)) (ladder_text (codes "p 0 0 4"))
unfolding digits
ladder_4 = record { lines = ladder_lines 4 (lit≤ tt); leaves = (tt, (tt, tt)); whole = refl }

ladder_3 : IsProof (proof_of ladder_of_three ladder_set (ladder_tree 3)) (ladder_text (codes "p 0 0 3"))
unfolding digits
ladder_3 = record { lines = ladder_lines 3 (lit≤ tt); leaves = (tt, (tt, tt)); whole = refl }

-- At most one product is offered.
lone : (x : List Bool) (n : ℕ) → ((i : ℕ) → IsTrue (offers x i) → i ≡ n) → KeepsLadder ladder_of_three x 1
lone x n h i j li lj d oi oj ki kj = absurd (d (h i oi ∙ sym (h j oj)))

first_alone : (i : ℕ) → IsTrue (offers (true ∷ false ∷ false ∷ []) i) → i ≡ 0
first_alone zero h = refl
first_alone (suc zero) h = cc
first_alone (suc (suc zero)) h = cc
first_alone (suc (suc (suc i))) h = cc

second_alone : (i : ℕ) → IsTrue (offers (false ∷ true ∷ false ∷ []) i) → i ≡ 1
second_alone zero h = cc
second_alone (suc zero) h = refl
second_alone (suc (suc zero)) h = cc
second_alone (suc (suc (suc i))) h = cc

none_at_all : (i : ℕ) → IsTrue (offers (false ∷ false ∷ false ∷ []) i) → i ≡ 0
none_at_all zero h = cc
none_at_all (suc zero) h = cc
none_at_all (suc (suc zero)) h = cc
none_at_all (suc (suc (suc i))) h = cc

ladder_clear : (node : List Mark) → KeepsLadder ladder_of_three (fill_of node) 1 → Clashes ladder_of_three node → ⊥
ladder_clear node keeps k = Any-one (ClashesAt ladder_of_three node) (Ladder 1) k keeps

abbrev prices : ℕ → ℤ
prices = (own_prices ladder_of_three ladder_set).price

-- What product i asks of product j to be usable.
abbrev Asks : List Mark → ℕ → ℕ → Type 0
Asks node i j = settled_mark ladder_of_three node j ≡ In → ladder_of ladder_of_three j ≡ ladder_of ladder_of_three i
    → MayStand (product_at ladder_of_three i) (product_at ladder_of_three j) × MayStand (product_at ladder_of_three j) (product_at ladder_of_three i)

usable : (node : List Mark) (i : ℕ) → settled_mark ladder_of_three node i ≡ Open → is_limited ladder_of_three.limits (ladder_of ladder_of_three i) ≡ true
    → Asks node i 0 → Asks node i 1 → Asks node i 2 → IsUsable ladder_of_three node i
usable node i o l a b c = record { open_mark = o; limited = l; fits = at_three (Asks node i) a b c }

abbrev UsedBy : List Mark → List ℕ → ℕ → Type 0
UsedBy node us i = IsUsable ladder_of_three node i → prices i ≤ℤ pos (slice_index us i)

abbrev ChainedBy : List Mark → List ℕ → ℕ → ℕ → Type 0
ChainedBy node us i j = IsUsable ladder_of_three node i → IsUsable ladder_of_three node j → ladder_of ladder_of_three i ≡ ladder_of ladder_of_three j
    → Rises (product_at ladder_of_three i) (product_at ladder_of_three j)
    → (prices i +ℤ pos (slice_index us j)) ≤ℤ pos (slice_index us i)

-- Where neither of the first two products is usable, only the third has a number, and no rise has two products.
third_alone : (node : List Mark) (u : ℕ) → (IsUsable ladder_of_three node 0 → ⊥) → (IsUsable ladder_of_three node 1 → ⊥)
    → ((IsUsable ladder_of_three node 2 → ⊥) → u ≡ 0) → UsedBy node (0 ∷ 0 ∷ u ∷ []) 2 → PotentialsFit ladder_of_three node prices (0 ∷ 0 ∷ u ∷ [])
third_alone node u zero_out one_out unused alone = record {
  each = refl;
  unused = at_three (λ i. (IsUsable ladder_of_three node i → ⊥) → slice_index (0 ∷ 0 ∷ u ∷ []) i ≡ 0) (λ h. refl) (λ h. refl) unused;
  alone = at_three (UsedBy node (0 ∷ 0 ∷ u ∷ [])) (λ h. absurd (zero_out h)) (λ h. absurd (one_out h)) alone;
  chained = λ i j li lj. at_three (λ i. ChainedBy node (0 ∷ 0 ∷ u ∷ []) i j)
      (λ h k. absurd (zero_out h))
      (λ h k. absurd (one_out h))
      (at_three (ChainedBy node (0 ∷ 0 ∷ u ∷ []) 2) (λ h k. absurd (zero_out k)) (λ h k. absurd (one_out k)) (λ h k s r. let up = r.0 in absurd (omega arith)) j lj) i li;
}

-- With the first product In the third is usable: its grade and its price are higher.
third_usable : IsUsable ladder_of_three (In ∷ Open ∷ Open ∷ []) 2
third_usable = usable (In ∷ Open ∷ Open ∷ []) 2 refl refl
    (λ m s. ((λ e. let f : ◌≡◌ {A = ℕ} 2 1 = e in absurd (omega arith), λ h. absurd (omega arith)), (λ e. let f : ◌≡◌ {A = ℕ} 1 2 = e in absurd (omega arith), λ h. lit≤ tt)))
    (λ m s. absurd (open_in m)) (λ m s. absurd (open_in m))
  where
    open_in : ◌≡◌ {A = Mark} Open In → ⊥
    open_in e = cc

in_open : ◌≡◌ {A = Mark} In Open → ⊥
in_open e = cc

out_open : ◌≡◌ {A = Mark} Out Open → ⊥
out_open e = cc

-- The second isn't: it has the same grade.
ladder_first_fit : PotentialsFit ladder_of_three (In ∷ Open ∷ Open ∷ []) prices (0 ∷ 0 ∷ 4 ∷ [])
ladder_first_fit = third_alone (In ∷ Open ∷ Open ∷ []) 4 (λ h. in_open h.open_mark) (λ h. (h.fits 0 (lit< tt) refl refl).0.0 refl)
    (λ h. absurd (h third_usable)) (λ h. record { le = tt })

-- With the second product In the third isn't usable: its grade is higher and its price lower.
ladder_second_fit : PotentialsFit ladder_of_three (Out ∷ In ∷ Open ∷ []) prices (0 ∷ 0 ∷ 0 ∷ [])
ladder_second_fit = third_alone (Out ∷ In ∷ Open ∷ []) 0 (λ h. out_open h.open_mark) (λ h. in_open h.open_mark)
    (λ h. refl) (λ h. let price = (h.fits 1 (lit< tt) refl refl).1.1 (lit< tt) in absurd (omega arith))

ladder_third_fit : PotentialsFit ladder_of_three (Out ∷ Out ∷ Open ∷ []) prices (0 ∷ 0 ∷ 4 ∷ [])
ladder_third_fit = third_alone (Out ∷ Out ∷ Open ∷ []) 4 (λ h. out_open h.open_mark) (λ h. out_open h.open_mark)
    (λ h. absurd (h (usable (Out ∷ Out ∷ Open ∷ []) 2 refl refl (λ m s. absurd (out_in m)) (λ m s. absurd (out_in m)) (λ m s. absurd (open_in m)))))
    (λ h. record { le = tt })
  where
    open_in : ◌≡◌ {A = Mark} Open In → ⊥
    open_in e = cc

    out_in : ◌≡◌ {A = Mark} Out In → ⊥
    out_in e = cc

ladder_closes : TreeCloses ladder_of_three ladder_set (open_node 3) (ladder_tree 4)
ladder_closes = (
  refl,
  (ladder_clear (In ∷ Open ∷ Open ∷ []) (lone (true ∷ false ∷ false ∷ []) 0 first_alone), ladder_first_fit, inl (record { lt = tt })),
  (
    refl,
    (ladder_clear (Out ∷ In ∷ Open ∷ []) (lone ladder_set 1 second_alone), ladder_second_fit, inr (refl, λ h. h)),
    (ladder_clear (Out ∷ Out ∷ Open ∷ []) (lone (false ∷ false ∷ false ∷ []) 0 none_at_all), ladder_third_fit, inl (record { lt = tt })),
  ),
)

ladder_open : TreeCloses ladder_of_three ladder_set (open_node 3) (ladder_tree 3) → ⊥
ladder_open k = let low : pos 4 ≤ℤ pos 3 = k.1.1.alone 2 (lit< tt) third_usable in absurd (omega (arith, ints))

pub ladder_worked : LadderOfThree
ladder_worked = (
  (
    ladder_set,
    ladder_tree 4,
    record {
      proof = ladder_4;
      feasible = (refl, All-one (Meets ladder_of_three ladder_set) (Ladder 1) (lone ladder_set 1 second_alone));
      closed = ladder_closes;
    },
  ),
  tree_rejects ladder_of_three (ladder_text (codes "p 0 0 3")) ladder_set (ladder_tree 3) ladder_3 ladder_open,
)

-- ---- A chain.

abbrev walk : ℕ → StoppingData
walk up = record { set = true ∷ false ∷ false ∷ []; lo = 1111111; up = up; upper = 10000000 ∷ up ∷ 3333334 ∷ []; lower = 10000000 ∷ 1111111 ∷ 3333333 ∷ [] }

walk_lines : (up : ℕ) → up ≤ 2 ^ 108 → AreLines (chain_lines (walk up))
walk_lines up h = (refl, (refl, ((lit≤ tt, (lit< tt, (lit< tt, (lit< tt, tt)))), (bounds (lit≤ tt) h, ((lit≤ tt, (h, (lit≤ tt, tt))), ((lit≤ tt, (lit≤ tt, (lit≤ tt, tt))), (refl, tt)))))))

walk_accepted_text : walk_text (codes "value 1111111 1111112") (codes "u 10000000 1111112 3333334") ≡ text_of (chain_lines (walk 1111112))
unfolding digits
walk_accepted_text = refl

walk_rejected_text : walk_text (codes "value 1111111 1111111") (codes "u 10000000 1111111 3333334") ≡ text_of (chain_lines (walk 1111111))
unfolding digits
walk_rejected_text = refl

walk_above : BoundsAbove walk_of_three ((walk 1111112).upper)
walk_above = record {
  each = refl;
  margin = at_three (λ i. own_value walk_of_three i ≤ slice_index (walk 1111112).upper i) (lit≤ tt) (lit≤ tt) (lit≤ tt);
  moves = at_three (λ i. moved walk_of_three i (slice_index (walk 1111112).upper) ≤ 3 * slice_index (walk 1111112).upper i) (lit≤ tt) (lit≤ tt) (lit≤ tt);
}

walk_below : BoundsBelow walk_of_three (true ∷ false ∷ false ∷ []) ((walk 1111112).lower)
walk_below = record {
  each = refl;
  small = at_three (λ i. slice_index (walk 1111112).lower i ≤ value_bound walk_of_three) (lit≤ tt) (lit≤ tt) (lit≤ tt);
  margin = at_three (λ i. offers (true ∷ false ∷ false ∷ []) i ≡ true → slice_index (walk 1111112).lower i ≤ own_value walk_of_three i) (λ h. lit≤ tt) (λ h. cc) (λ h. cc);
  moves = at_three (λ i. offers (true ∷ false ∷ false ∷ []) i ≡ false → 3 * slice_index (walk 1111112).lower i ≤ moved walk_of_three i (slice_index (walk 1111112).lower)) (λ h. cc) (λ h. lit≤ tt) (λ h. lit≤ tt);
}

walk_brackets : Brackets walk_of_three (walk 1111112)
walk_brackets = record {
  each = refl;
  small = at_three (λ i. slice_index (walk 1111112).upper i ≤ 10 ^ 15) (lit≤ tt) (lit≤ tt) (lit≤ tt);
  above = walk_above;
  below = walk_below;
  up = refl;
  lo = refl;
  ordered = lit≤ tt;
  near = lit≤ tt;
}

walk_open : Brackets walk_of_three (walk 1111111) → ⊥
walk_open k = let low : 3333334 ≤ 3333333 = k.above.moves 1 (lit< tt) in absurd (omega arith)

walk_rejected : AcceptsChain walk_of_three (walk_text (codes "value 1111111 1111111") (codes "u 10000000 1111111 3333334")) → ⊥
walk_rejected k =
    let same = chain_proofs_differ k.0 (walk 1111111) k.1.lines (walk_lines 1111111 (lit≤ tt)) (sym k.1.whole ∙ walk_rejected_text) in
    let P : StoppingData → Type 0 = λ s. Brackets walk_of_three s in
    walk_open (subst P same k.1.brackets)

pub walk_worked : WalkOfThree
walk_worked = ((walk 1111112, record { lines = walk_lines 1111112 (lit≤ tt); whole = walk_accepted_text; brackets = walk_brackets }), walk_rejected)

-- ---- All of them.

pub worked_proofs : WorkedProofs
worked_proofs = record {
  free_pair = free_accepted;
  free_pair_broken = free_broken;
  capped_pair = capped_worked;
  required_chain = required_worked;
  mixed_pair = mixed_worked;
  shelf_of_three = shelf_worked;
  ladder_of_three = ladder_worked;
  walk_of_three = walk_worked;
}

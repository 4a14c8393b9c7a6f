-- Worked certificates with multipliers, by computation.
use Rattle.std.proofs.Common.{◌≡◌, ℕ, true, false, List, [], ◌∷◌, ◌++◌, refl, sym, ◌∙◌, inl, inr, ⊎_elim, arith, lit≤, lit<, ◌≤◌, ◌^◌, subst, ap}
use Rattle.std.specs.Prelude.{pos, slice_index, codes}
use Rattle.std.specs.Fmt.{digits, decimal}
use Rattle.std.proofs.lemmas.Fmt.{decimal_is_IsNumeral_wide}
use Rattle.std.specs.Str.Parse.{AllDigits}
use Rattle.proof_lines.specs.declared.line.Shape.{Shape}
use Rattle.proof_lines.specs.declared.line.Shape.TheVariants as S
use Rattle.offer_model.specs.declared.products.ModelName.TheVariants.{Logit}
use Rattle.offer_model.specs.declared.products.Limit.TheVariants.{Total, Requires}
use Rattle.offer_model.specs.Limits.{Meets, IsFeasible}
use Rattle.offer_model.specs.Nodes.{open_node}
use Rattle.offer_model.specs.LeafBounds.{MultipliersFit, IsMultiplier, priced_limit_at}
use Rattle.proof_lines.specs.Lines.{line, line_text, IsLine, IsLineText, AreLines, AreNumbers, spaced, text_of}
use Rattle.proof_lines.specs.Lines.IsValue.{ratio}
use Rattle.proof_lines.specs.Reading.{shape_by_head}
use Rattle.proof_lines.specs.Trees.{Tree, IsProof, lines_of}
use Rattle.proof_lines.specs.Trees.Tree.{leaf, branch}
use Rattle.proof_lines.specs.Closing.{TreeCloses}
use Rattle.proof_lines.specs.Acceptance.{proof_of, Accepts}
use Rattle.proof_lines.specs.WorkedProofs.{joined, free_pair, free_header, FreePair, FreePairBroken, capped_pair, capped_text, CappedPair, required_chain, required_text, RequiredChain}
use Rattle.proof_lines.proofs.NumberLemmas.{digits_split, leading_zero}
use Rattle.proof_lines.proofs.SpacedLemmas.{spaced_past}
use Rattle.proof_lines.proofs.LinesDiffer.{shape_is}
use Rattle.proof_lines.proofs.RejectionLemmas.{tree_rejects, count_rejects, piece_rejects}
use Rattle.proof_lines.proofs.WorkedLists.{at_one, at_two, All-one, All-two}

-- ---- Two products without limits.

abbrev free_tree : Tree
free_tree = branch 0 (branch 1 (leaf S.Multipliers []) (leaf S.Multipliers [])) (leaf S.Multipliers [])

free_text : joined (free_header ++ codes "m" ∷ codes "end" ∷ []) ≡ text_of (lines_of (proof_of free_pair (true ∷ true ∷ []) free_tree))
unfolding digits
free_text = refl

free_lines : AreLines (lines_of (proof_of free_pair (true ∷ true ∷ []) free_tree))
free_lines = (refl, (refl, ((lit≤ tt, (lit< tt, (lit< tt, tt))), (ratio (lit≤ tt) (lit≤ tt), ((refl, (lit≤ tt, tt)), ((refl, (lit≤ tt, tt)), (tt, (tt, (tt, (refl, tt))))))))))

free_feasible : IsFeasible free_pair (true ∷ true ∷ [])
free_feasible = (refl, λ k d l. absurd (omega arith))

free_closes : TreeCloses free_pair (true ∷ true ∷ []) (open_node 2) free_tree
free_closes = (refl, (refl, (none, inr (refl, λ h. h)), (none, inl (record { lt = tt }))), (none, inl (record { lt = tt })))
  where
    none : MultipliersFit free_pair []
    none = record { each = refl; small = λ k l. absurd (omega arith) }

pub free_accepted : FreePair
free_accepted = (true ∷ true ∷ [], free_tree, record { proof = record { lines = free_lines; leaves = ((tt, tt), tt); whole = free_text }; feasible = free_feasible; closed = free_closes })

free_broken_count : Accepts free_pair (joined (free_header ++ codes "end" ∷ [])) → ⊥
unfolding digits
free_broken_count = count_rejects free_pair (joined (free_header ++ codes "end" ∷ []))
    (line S.Start []) (line (S.Model Logit) []) (line S.Set (1 ∷ 1 ∷ [])) (line S.Value (1 ∷ 32 ∷ 10 ∷ []))
    (line S.Branch (0 ∷ []) ∷ line S.Branch (1 ∷ []) ∷ line S.Multipliers [] ∷ line S.Multipliers [] ∷ line S.End [] ∷ [])
    (refl, (refl, ((lit≤ tt, (lit< tt, (lit< tt, tt))), (ratio (lit≤ tt) (lit≤ tt), ((refl, (lit≤ tt, tt)), ((refl, (lit≤ tt, tt)), (tt, (tt, (refl, tt)))))))))
    refl (λ e. let f : ◌≡◌ {A = ℕ} 5 6 = e in absurd (omega arith))

free_cut_off : Accepts free_pair (joined (free_header ++ codes "m" ∷ [])) → ⊥
unfolding digits
free_cut_off = count_rejects free_pair (joined (free_header ++ codes "m" ∷ []))
    (line S.Start []) (line (S.Model Logit) []) (line S.Set (1 ∷ 1 ∷ [])) (line S.Value (1 ∷ 32 ∷ 10 ∷ []))
    (line S.Branch (0 ∷ []) ∷ line S.Branch (1 ∷ []) ∷ line S.Multipliers [] ∷ line S.Multipliers [] ∷ line S.Multipliers [] ∷ [])
    (refl, (refl, ((lit≤ tt, (lit< tt, (lit< tt, tt))), (ratio (lit≤ tt) (lit≤ tt), ((refl, (lit≤ tt, tt)), ((refl, (lit≤ tt, tt)), (tt, (tt, (tt, tt)))))))))
    refl (λ e. let f : ◌≡◌ {A = ℕ} 5 6 = e in absurd (omega arith))

leading_zeros : (ns : List ℕ) → AreNumbers ns → line_text S.Multipliers ns ≡ codes "m 01" → ⊥
leading_zeros [] a e = let f : ◌≡◌ {A = List ℕ} (109 ∷ []) (109 ∷ 32 ∷ 48 ∷ 49 ∷ []) = e in cc
leading_zeros (n ∷ ns) a e =
    let f : ◌≡◌ {A = List ℕ} (109 ∷ 32 ∷ decimal n ++ spaced ns) (109 ∷ 32 ∷ 48 ∷ 49 ∷ []) = e in
    let rest : decimal n ++ spaced ns ≡ 48 ∷ 49 ∷ [] = cc in
    let number = decimal_is_IsNumeral_wide n (omega (arith, a.0)) in
    let two : AllDigits 10 (48 ∷ 49 ∷ []) = (lit< tt, (lit< tt, tt)) in
    let parts = digits_split (decimal n) (48 ∷ 49 ∷ []) (spaced ns) [] number.0.1 two (spaced_past ns) tt rest in
    leading_zero n (48 ∷ 49 ∷ []) a.0 refl (lit< tt) parts.0

no_such_line : IsLineText (codes "m 01") → ⊥
no_such_line k =
    let same : k.0 ≡ S.Multipliers = sym (shape_is k.0 k.1) ∙ ap shape_by_head k.3 in
    let P : Shape → Type 0 = λ s. IsLine s k.1 × (line_text s k.1 ≡ codes "m 01") in
    let at = subst P same (k.2, k.3) in
    leading_zeros k.1 at.0 at.1

free_no_line : Accepts free_pair (joined (free_header ++ codes "m 01" ∷ codes "end" ∷ [])) → ⊥
free_no_line = piece_rejects free_pair (free_header ++ codes "m 01" ∷ codes "end" ∷ [])
    (refl, (refl, (refl, (refl, (refl, (refl, (refl, (refl, (refl, (refl, tt))))))))))
    (λ k. no_such_line k.1.1.1.1.1.1.1.1.0)

pub free_broken : FreePairBroken
free_broken = (free_broken_count, free_no_line, free_cut_off)

-- ---- Two equal products of which one may be offered.

abbrev capped_tree : ℕ → Tree
capped_tree u = branch 0 (leaf S.Multipliers (u ∷ [])) (branch 1 (leaf S.Multipliers (0 ∷ [])) (leaf S.Multipliers (0 ∷ [])))

capped_lines : (u : ℕ) → u ≤ 2 ^ 108 → AreLines (lines_of (proof_of capped_pair (false ∷ true ∷ []) (capped_tree u)))
capped_lines u h = (
  refl,
  (
    refl,
    (
      (lit≤ tt, (lit< tt, (lit< tt, tt))),
      (
        ratio (lit≤ tt) (lit≤ tt),
        ((refl, (lit≤ tt, tt)), ((h, tt), ((refl, (lit≤ tt, tt)), ((lit≤ tt, tt), ((lit≤ tt, tt), (refl, tt)))))),
      ),
    ),
  ),
)

capped_40 : IsProof (proof_of capped_pair (false ∷ true ∷ []) (capped_tree 40)) (capped_text (codes "m 40"))
unfolding digits
capped_40 = record { lines = capped_lines 40 (lit≤ tt); leaves = (tt, (tt, tt)); whole = refl }

capped_39 : IsProof (proof_of capped_pair (false ∷ true ∷ []) (capped_tree 39)) (capped_text (codes "m 39"))
unfolding digits
capped_39 = record { lines = capped_lines 39 (lit≤ tt); leaves = (tt, (tt, tt)); whole = refl }

capped_fit : (u : ℕ) → u ≤ 2 ^ 100 → MultipliersFit capped_pair (u ∷ [])
capped_fit u h = record { each = refl; small = at_one (λ k. IsMultiplier (priced_limit_at capped_pair k) (slice_index (u ∷ []) k)) h }

capped_feasible : IsFeasible capped_pair (false ∷ true ∷ [])
capped_feasible = (refl, All-one (Meets capped_pair (false ∷ true ∷ [])) (Total 1) (lit≤ tt))

capped_closes : TreeCloses capped_pair (false ∷ true ∷ []) (open_node 2) (capped_tree 40)
capped_closes = (
  refl,
  (capped_fit 40 (lit≤ tt), inr (refl, λ h. h)),
  (refl, (capped_fit 0 (lit≤ tt), inr (refl, λ h. h)), (capped_fit 0 (lit≤ tt), inl (record { lt = tt }))),
)

capped_open : TreeCloses capped_pair (false ∷ true ∷ []) (open_node 2) (capped_tree 39) → ⊥
capped_open k = ⊎_elim (λ a. absurd a.lt) (λ b. let e : pos 1 ≡ pos 0 = b.0 in cc) k.1.1

pub capped_worked : CappedPair
capped_worked = (
  (false ∷ true ∷ [], capped_tree 40, record { proof = capped_40; feasible = capped_feasible; closed = capped_closes }),
  tree_rejects capped_pair (capped_text (codes "m 39")) (false ∷ true ∷ []) (capped_tree 39) capped_39 capped_open,
)

-- ---- A chain of requirements.

abbrev required_tree : ℕ → Tree
required_tree u = branch 0
    (branch 2 (branch 1 (leaf S.Multipliers (0 ∷ 0 ∷ [])) (leaf S.Clash [])) (leaf S.Multipliers (u ∷ u ∷ [])))
    (leaf S.Multipliers (0 ∷ 0 ∷ []))

required_lines : (u : ℕ) → u ≤ 2 ^ 108 → AreLines (lines_of (proof_of required_chain (true ∷ true ∷ true ∷ []) (required_tree u)))
required_lines u h = (
  refl,
  (
    refl,
    (
      (lit≤ tt, (lit< tt, (lit< tt, (lit< tt, tt)))),
      (
        ratio (lit≤ tt) (lit≤ tt),
        ((refl, (lit≤ tt, tt)), ((refl, (lit≤ tt, tt)), ((refl, (lit≤ tt, tt)), ((lit≤ tt, (lit≤ tt, tt)), (refl, ((h, (h, tt)), ((lit≤ tt, (lit≤ tt, tt)), (refl, tt)))))))),
      ),
    ),
  ),
)

required_21 : IsProof (proof_of required_chain (true ∷ true ∷ true ∷ []) (required_tree 21)) (required_text (codes "m 21 21"))
unfolding digits
required_21 = record { lines = required_lines 21 (lit≤ tt); leaves = (((tt, tt), tt), tt); whole = refl }

required_20 : IsProof (proof_of required_chain (true ∷ true ∷ true ∷ []) (required_tree 20)) (required_text (codes "m 20 20"))
unfolding digits
required_20 = record { lines = required_lines 20 (lit≤ tt); leaves = (((tt, tt), tt), tt); whole = refl }

required_fit : (u v : ℕ) → MultipliersFit required_chain (u ∷ v ∷ [])
required_fit u v = record { each = refl; small = at_two (λ k. IsMultiplier (priced_limit_at required_chain k) (slice_index (u ∷ v ∷ []) k)) tt tt }

required_feasible : IsFeasible required_chain (true ∷ true ∷ true ∷ [])
required_feasible = (refl, All-two (Meets required_chain (true ∷ true ∷ true ∷ [])) (Requires 0 1) (Requires 1 2) (λ h. refl) (λ h. refl))

required_closes : TreeCloses required_chain (true ∷ true ∷ true ∷ []) (open_node 3) (required_tree 21)
required_closes = (
  refl,
  (refl, (refl, (required_fit 0 0, inr (refl, λ h. h)), (refl, (0, Requires 0 1, lit< tt, refl, (refl, refl)))), (required_fit 21 21, inl (record { lt = tt }))),
  (required_fit 0 0, inl (record { lt = tt })),
)

required_open : TreeCloses required_chain (true ∷ true ∷ true ∷ []) (open_node 3) (required_tree 20) → ⊥
required_open k = ⊎_elim (λ a. absurd a.lt) (λ b. b.1 tt) k.1.2.1

pub required_worked : RequiredChain
required_worked = (
  (true ∷ true ∷ true ∷ [], required_tree 21, record { proof = required_21; feasible = required_feasible; closed = required_closes }),
  tree_rejects required_chain (required_text (codes "m 20 20")) (true ∷ true ∷ true ∷ []) (required_tree 20) required_20 required_open,
)

-- What is accepted, whole and line by line.
use Rattle.std.proofs.Common.{◌≡◌, ℕ, List, [], ◌∷◌, length, refl, sym, ◌∙◌, ap, subst, arith, ◌≤◌, ◌↔◌}
use Rattle.std.proofs.lemmas.List.Sums.{length-filter, count_by-le-length}
use Rattle.offer_model.specs.Problems.{ProblemData, product_count}
use Rattle.offer_model.specs.Validity.{IsProblem}
use Rattle.offer_model.specs.LeafBounds.{is_priced, priced_limits}
use Rattle.offer_model.specs.Nodes.{open_node}
use Rattle.proof_lines.specs.declared.line.Shape.TheVariants as S
use Rattle.proof_lines.specs.Lines.{line, line_text}
use Rattle.proof_lines.specs.Trees.{Tree, tree_lines, lines_of}
use Rattle.proof_lines.specs.Acceptance.{digits_of, value_numbers, proof_of, Accepts}
use Rattle.proof_lines.proofs.CallerLemmas.{TreeCloses-leaves}
use Rattle.proof_lines.proofs.ShortLines.{accepted_lines_are_short}
use Rattle.proof_tree.specs.Feeding.{joined, Awaits}
use Rattle.proof_tree.specs.LineLeaves.{texts_of, text_tree}
use Rattle.proof_tree.specs.Trees.{end_text, tree_texts}
use Rattle.proof_tree.proofs.LineLeafLemmas.{tree_texts_are, joined_is, text_closes, spelled, lines_bare}
use Rattle.proof_check.specs.Waiting.{Waits, MachineData, whole_tree}
use Rattle.proof_check.specs.Waiting.HeadPhase.{at_start}

accepted : (p : ProblemData) (r : List ℕ) (ls : List (List ℕ)) → r ≡ joined ls → Waits p at_start (whole_tree p) ls → Accepts p r
accepted p r [] e h = absurd h
accepted p r (l0 ∷ []) e h = absurd h.1
accepted p r (l0 ∷ l1 ∷ []) e h = absurd h.1.1
accepted p r (l0 ∷ l1 ∷ l2 ∷ []) e h = absurd h.1.1.3
accepted p r (l0 ∷ l1 ∷ l2 ∷ l3 ∷ ls) e h =
    let x = h.1.1.0 in
    let t = h.1.1.3.1 in
    let s = spelled p x (open_node (product_count p)) t.0 t.3 in
    let rest : ls ≡ texts_of (tree_lines s.0 (line S.End [] ∷ [])) =
    t.2 ∙ ap (λ z. tree_texts t.0 z) t.4 ∙ ap (λ z. tree_texts z (end_text ∷ [])) (sym s.2) ∙ sym (tree_texts_are s.0 (line S.End [] ∷ [])) in
    let same = all_lines s.0 l0 l1 l2 l3 ls h.0 h.1.0 h.1.1.1.1 h.1.1.3.0.1 rest in (
      x,
      s.0,
      record {
        proof = record {
          lines = (refl, (refl, (h.1.1.1.0, (h.1.1.3.0.0, s.3 (line S.End [] ∷ []) (refl, tt)))));
          leaves = TreeCloses-leaves p x (open_node (product_count p)) s.0 s.1;
          whole = e ∙ ap joined same ∙ joined_is (lines_of (proof_of p x s.0));
        };
        feasible = h.1.1.2;
        closed = s.1;
      },
    )
  where
    all_lines : (tree : Tree) (l0 l1 l2 l3 : List ℕ) (ls : List (List ℕ)) → l0 ≡ line_text S.Start [] → l1 ≡ line_text (S.Model p.model) []
        → l2 ≡ line_text S.Set (digits_of h.1.1.0) → l3 ≡ line_text S.Value (value_numbers p h.1.1.0) → ls ≡ texts_of (tree_lines tree (line S.End [] ∷ []))
        → l0 ∷ l1 ∷ l2 ∷ l3 ∷ ls ≡ texts_of (lines_of (proof_of p h.1.1.0 tree))
    all_lines tree l0 l1 l2 l3 ls e0 e1 e2 e3 e4 = cc

-- There are at most 1,024 priced limits.
priced_few : (p : ProblemData) → IsProblem p → length (priced_limits p) ≤ 1024
priced_few p v = let some = length-filter is_priced p.limits in let all = count_by-le-length is_priced p.limits in let few = v.limits.few in omega arith

-- Before the header exactly the accepted texts are awaited.
awaits_accepted : (p : ProblemData) → IsProblem p → (r : List ℕ) → Awaits (Waits p at_start (whole_tree p)) r ↔ Accepts p r
awaits_accepted p valid r = (λ t. accepted p r t.lines t.text t.waited, λ k. back k)
  where
    back : Accepts p r → Awaits (Waits p at_start (whole_tree p)) r
    back k =
        let x = k.0 in
        let tree = k.1 in
        let a = k.2 in
        let ls = lines_of (proof_of p x tree) in
        let h = a.proof.lines in
        record {
          lines = texts_of ls;
          clean = lines_bare ls h (accepted_lines_are_short p r x tree (omega (arith, valid.few)) (priced_few p valid) (omega (arith, valid.few_segments)) a);
          text = a.proof.whole ∙ sym (joined_is ls);
          waited = (
            refl,
            (
              refl,
              (
                x,
                (h.1.1.0, refl),
                a.feasible,
                (
                  (h.1.1.1.0, refl),
                  (
                    text_tree tree,
                    end_text ∷ [],
                    tree_texts_are tree (line S.End [] ∷ []),
                    (text_closes p x (open_node (product_count p)) tree (line S.End [] ∷ []) a.closed h.1.1.1.1).0,
                    refl,
                  ),
                ),
              ),
            ),
          );
        }

-- So does a machine that has read nothing.
pub first_awaits : (p : ProblemData) (m : MachineData) → IsProblem m.problem → m.problem ≡ p → m.head ≡ at_start → m.tree ≡ whole_tree m.problem → (r : List ℕ)
    → Awaits (Waits m.problem m.head m.tree) r ↔ Accepts p r
first_awaits p m valid same head tree r =
    let one = subst (λ z. Awaits (Waits m.problem z (whole_tree m.problem)) r ↔ Accepts m.problem r) (sym head) (awaits_accepted m.problem valid r) in
    let two = subst (λ z. Awaits (Waits m.problem m.head z) r ↔ Accepts m.problem r) (sym tree) one in
    subst (λ z. Awaits (Waits m.problem m.head m.tree) r ↔ Accepts z r) same two

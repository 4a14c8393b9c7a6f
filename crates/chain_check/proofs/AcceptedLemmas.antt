-- What is accepted, whole and line by line.
use Rattle.std.proofs.Common.{◌≡◌, ℕ, List, [], ◌∷◌, refl, sym, ◌∙◌, ap, subst, arith, ◌↔◌}
use Rattle.offer_model.specs.Chains.{ChainData}
use Rattle.offer_model.specs.ChainValidity.{IsChain}
use Rattle.offer_model.specs.Stopping.{StoppingData}
use Rattle.offer_model.specs.declared.products.ModelName.TheVariants.{Chain}
use Rattle.proof_lines.specs.declared.line.Shape.TheVariants as S
use Rattle.proof_lines.specs.Lines.{line_text}
use Rattle.proof_lines.specs.Acceptance.{digits_of, chain_lines, AcceptsChain, IsAcceptedChain}
use Rattle.proof_lines.proofs.ShortLines.{accepted_chain_lines_are_short}
use Rattle.proof_tree.specs.Feeding.{joined, Awaits}
use Rattle.proof_tree.specs.LineLeaves.{texts_of}
use Rattle.proof_tree.specs.Trees.{end_text}
use Rattle.proof_tree.proofs.LineLeafLemmas.{joined_is, lines_bare}
use Rattle.chain_check.specs.Waiting.{Waits}
use Rattle.chain_check.specs.Waiting.ChainPhase.{at_start}

accepted : (c : ChainData) (r : List ℕ) (ls : List (List ℕ)) → r ≡ joined ls → Waits c at_start ls → AcceptsChain c r
accepted c r [] e h = absurd h
accepted c r (l0 ∷ []) e h = absurd h.1
accepted c r (l0 ∷ l1 ∷ []) e h = absurd h.1.1
accepted c r (l0 ∷ l1 ∷ l2 ∷ []) e h = absurd h.1.1.3
accepted c r (l0 ∷ l1 ∷ l2 ∷ l3 ∷ []) e h = absurd h.1.1.3.4
accepted c r (l0 ∷ l1 ∷ l2 ∷ l3 ∷ l4 ∷ []) e h = absurd h.1.1.3.4.3
accepted c r (l0 ∷ l1 ∷ l2 ∷ l3 ∷ l4 ∷ l5 ∷ []) e h = absurd h.1.1.3.4.3.3
accepted c r (l0 ∷ l1 ∷ l2 ∷ l3 ∷ l4 ∷ l5 ∷ l6 ∷ ls) e h =
    let set = h.1.1 in
    let value = set.3 in
    let upper = value.4 in
    let lower = upper.3 in
    let end = lower.3 in
    let s : StoppingData = record { set = set.0; upper = upper.0; lower = lower.0; lo = value.0; up = value.1 } in
    let same = all_lines s h.0 h.1.0 set.1.1 value.2.1 upper.1.1 lower.1.1 end.0 end.1 in (
      s,
      record {
        lines = (refl, (refl, (set.1.0, (value.2.0, (upper.1.0, (lower.1.0, (refl, tt)))))));
        whole = e ∙ ap joined same ∙ joined_is (chain_lines s);
        brackets = record {
          each = set.2;
          small = upper.2.small;
          above = upper.2.above;
          below = lower.2.below;
          up = upper.2.value;
          lo = lower.2.value;
          ordered = value.3.0;
          near = value.3.1;
        };
      },
    )
  where
    all_lines : (s : StoppingData) → l0 ≡ line_text S.Start [] → l1 ≡ line_text (S.Model Chain) [] → l2 ≡ line_text S.Set (digits_of s.set)
        → l3 ≡ line_text S.Value (2 ∷ s.lo ∷ s.up ∷ []) → l4 ≡ line_text S.Upper s.upper → l5 ≡ line_text S.Lower s.lower → l6 ≡ end_text → ls ≡ []
        → l0 ∷ l1 ∷ l2 ∷ l3 ∷ l4 ∷ l5 ∷ l6 ∷ ls ≡ texts_of (chain_lines s)
    all_lines s e0 e1 e2 e3 e4 e5 e6 none = cc

-- Before the first line exactly the accepted texts are awaited.
awaits_accepted : (c : ChainData) → IsChain c → (r : List ℕ) → Awaits (Waits c at_start) r ↔ AcceptsChain c r
awaits_accepted c valid r = (λ t. accepted c r t.lines t.text t.waited, λ k. back k.0 k.1)
  where
    back : (s : StoppingData) → IsAcceptedChain c r s → Awaits (Waits c at_start) r
    back s k =
        let ls = chain_lines s in
        let h = k.lines in
        let b = k.brackets in
        record {
          lines = texts_of ls;
          clean = lines_bare ls h (accepted_chain_lines_are_short c r s (omega (arith, valid.few)) k);
          text = k.whole ∙ sym (joined_is ls);
          waited = (
            refl,
            (
              refl,
              (
                s.set,
                (h.1.1.0, refl),
                b.each,
                (
                  s.lo,
                  s.up,
                  (h.1.1.1.0, refl),
                  (b.ordered, b.near),
                  (
                    s.upper,
                    (h.1.1.1.1.0, refl),
                    record { small = b.small; above = b.above; value = b.up },
                    (s.lower, (h.1.1.1.1.1.0, refl), record { below = b.below; value = b.lo }, (refl, refl)),
                  ),
                ),
              ),
            ),
          );
        }

-- So does a machine that has read nothing.
pub first_awaits : (c d : ChainData) → IsChain d → d ≡ c → (r : List ℕ) → Awaits (Waits d at_start) r ↔ AcceptsChain c r
first_awaits c d valid same r = subst (λ z. Awaits (Waits d at_start) r ↔ AcceptsChain z r) same (awaits_accepted d valid r)

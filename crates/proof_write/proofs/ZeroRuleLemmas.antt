-- The rule of multipliers that are all 0 is definite.
use Rattle.std.proofs.Common.{◌≡◌, ◌∙◌, ℕ, ◌≤◌, ◌<◌, ◌↔◌, Bool, List, length, refl, sym, arith, subst, inl, inr}
use Rattle.std.specs.Prelude.{Some}
use Rattle.offer_model.specs.declared.node.Mark.{Mark}
use Rattle.offer_model.specs.Problems.{ProblemData}
use Rattle.offer_model.specs.Validity.{IsProblem, IsRatioModel}
use Rattle.offer_model.specs.Best.{IsBest}
use Rattle.offer_model.specs.LeafBounds.{multipliers_bound}
use Rattle.proof_lines.specs.declared.line.Shape.TheVariants as S
use Rattle.proof_lines.specs.declared.line.Line.{Line}
use Rattle.proof_lines.specs.Lines.{LineData, line, line_text, IsLine}
use Rattle.proof_lines.proofs.ShortLines.{line_short}
use Rattle.proof_tree.specs.Pens.{line_data}
use Rattle.proof_lines.specs.Closing.{own_prices, BoundCloses, Closes}
use Rattle.proof_lines.specs.Writing.{ratio_rule}
use Rattle.offer_model.proofs.NodeLemmas.{IsFirstOpen-unique}
use Rattle.offer_model.specs.Branching.{IsFirstOpen}
use Rattle.proof_write.specs.ZeroRules.{zeros_of}
use Rattle.proof_write.proofs.DecideLemmas.{Decided, closes}
use Rattle.proof_write.proofs.SearchLemmas.{IsDefinite}
use Rattle.proof_write.proofs.SettledLemmas.{settled_closes, first_or_none}
use Rattle.proof_write.proofs.ZeroLemmas.{zeros_line, zeros_few, zeros_close}

zeros_decided : (p : ProblemData) (x : List Bool) (node : List Mark) → IsRatioModel p.model → Decided (Closes p x node S.Multipliers (zeros_of p))
zeros_decided p x node ratio = by_bound (closes x node (multipliers_bound p node (zeros_of p) (own_prices p x)))
  where
    by_bound : Decided (BoundCloses x node (Some (multipliers_bound p node (zeros_of p) (own_prices p x)))) → Decided (Closes p x node S.Multipliers (zeros_of p))
    by_bound (inl c) = inl ((zeros_close p x node ratio).1 c)
    by_bound (inr n) = inr (λ c. n ((zeros_close p x node ratio).0 c))

-- Its numbers are one list, and what isn't closed by them has an Open product.
pub zero_rule_definite : (p : ProblemData) (x : List Bool) → IsProblem p → IsRatioModel p.model → IsBest p x → IsDefinite p x (ratio_rule p)
zero_rule_definite p x valid ratio best = record {
  some = λ node each. (zeros_of p, refl);
  one = λ node us vs h k. h ∙ sym k;
  line = λ node us each h. subst (λ z. IsLine S.Multipliers z × (length z ≤ 1024)) (sym h) (zeros_line p, zeros_few p valid);
  decided = λ node us each h. subst (λ z. Decided (Closes p x node S.Multipliers z)) (sym h) (zeros_decided p x node ratio);
  settled = λ node us each full free h. subst (λ z. Closes p x node S.Multipliers z) (sym h) (settled_closes p x node ratio best full each free);
  branch = λ node. first_or_none node;
  open_mark = λ node i h. h.open_mark;
}

-- The first Open product is the one that is branched on.
pub branches_once : (node : List Mark) (k : ℕ) → IsFirstOpen node k → (i : ℕ) → IsFirstOpen node i ↔ (i ≡ k)
branches_once node k own i = (λ h. IsFirstOpen-unique node i k h own, λ e. subst (λ z. IsFirstOpen node z) (sym e) own)

-- The leaf of multipliers fits a line's room.
pub zeros_short : (p : ProblemData) (l : Line) → IsProblem p → line_data l ≡ line S.Multipliers (zeros_of p) → length (line_text l.shape l.numbers.items) < 40000
zeros_short p l valid is =
    let few = zeros_few p valid in
    subst (λ (z : LineData). length (line_text z.shape z.numbers) < 40000) (sym is) (line_short S.Multipliers (zeros_of p) (zeros_line p) (omega arith))

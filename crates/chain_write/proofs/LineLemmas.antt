-- The stopping vectors of a chain make a certificate that is accepted, and its lines are lines that a pen writes.
use Rattle.std.proofs.Common.{◌≡◌, ℕ, suc, List, [], ◌∷◌, length, refl, sym, subst, arith, ◌<◌, ◌≤◌, ◌^◌}
use Rattle.std.specs.List.{AllByRecursion}
use Rattle.std.specs.Prelude.{All, slice_index}
use Rattle.std.proofs.lemmas.List.Elements.{All-from_recursion}
use Rattle.std.proofs.lemmas.List.{length-map}
use Rattle.offer_model.specs.declared.ranges.TheConstants.{MOST_PRODUCTS}
use Rattle.offer_model.specs.Chains.{ChainData}
use Rattle.offer_model.specs.ChainValidity.{IsChain}
use Rattle.offer_model.specs.Stopping.{StoppingData, IsStopping}
use Rattle.chain_moves.proofs.ValueLemmas.{value_bound-small}
use Rattle.chain_values.proofs.CallerLemmas.{IsStopping-above, IsStopping-below, IsStopping-small, IsStopping-ordered, IsStopping-near}
use Rattle.proof_lines.specs.declared.line.Line.{Line}
use Rattle.proof_lines.specs.declared.line.Shape.TheVariants as S
use Rattle.proof_lines.specs.Lines.{LineData, IsLine, AreNumbers, text_of}
use Rattle.proof_lines.specs.Lines.IsValue.{bounds}
use Rattle.proof_lines.specs.Acceptance.{digit_of, chain_lines, Brackets, IsAcceptedChain}
use Rattle.proof_tree.specs.Pens.{IsWritable, line_data, lines_data}
use Rattle.proof_write.proofs.LineLemmas.{set_is_line}

-- ---- Acceptance.

-- The stopping vectors bracket the assortment.
pub stopping_brackets : (c : ChainData) (s : StoppingData) → IsChain c → IsStopping c s → Brackets c s
stopping_brackets c s k h = record {
  each = h.set_each;
  small = IsStopping-small c s k h;
  above = IsStopping-above c s k h;
  below = IsStopping-below c s k h;
  up = h.up;
  lo = h.lo;
  ordered = IsStopping-ordered c s k h;
  near = IsStopping-near c s k h;
}

-- Values of products are a line's numbers.
are_numbers : (us : List ℕ) → ((i : ℕ) → i < length us → slice_index us i ≤ 10 ^ 15) → AreNumbers us
are_numbers [] h = tt
are_numbers (u ∷ us) h = (let here = h 0 (omega arith) in omega arith, are_numbers us (λ i l. h (suc i) (omega arith)))

upper_numbers : (c : ChainData) (s : StoppingData) → IsChain c → IsStopping c s → AreNumbers s.upper
upper_numbers c s k h = are_numbers s.upper (λ i l. IsStopping-small c s k h i (let each = h.upper.solves.each in omega arith))

lower_numbers : (c : ChainData) (s : StoppingData) → IsChain c → IsStopping c s → AreNumbers s.lower
lower_numbers c s k h = are_numbers s.lower (λ i l.
    let small = h.lower.solves.small i (let each = h.lower.solves.each in omega arith) in
    let most = value_bound-small c k in omega arith)

few_products : (c : ChainData) (s : StoppingData) → IsChain c → IsStopping c s → length s.set ≤ MOST_PRODUCTS
few_products c s k h = let each = h.set_each in let few = k.few in omega arith

-- Two numbers of 64 bits are a value line's bounds.
pub bounds_are_line : (lo up : ℕ) → lo < 2 ^ 64 → up < 2 ^ 64 → IsLine S.Value (2 ∷ lo ∷ up ∷ [])
bounds_are_line lo up l m = bounds (omega arith) (omega arith)

-- The text that says the stopping vectors is accepted, where its bounds are a value line's.
pub stopping_accepted : (c : ChainData) (s : StoppingData) → IsChain c → IsStopping c s → IsLine S.Value (2 ∷ s.lo ∷ s.up ∷ [])
    → IsAcceptedChain c (text_of (chain_lines s)) s
stopping_accepted c s k h value = record {
  lines = (refl, (refl, (set_is_line s.set (few_products c s k h), (value, (upper_numbers c s k h, (lower_numbers c s k h, (refl, tt)))))));
  whole = refl;
  brackets = stopping_brackets c s k h;
}

-- ---- Lines that a pen writes.

lines_writable : (ls : List Line) (ds : List LineData) → lines_data ls ≡ ds → AllByRecursion (λ (d : LineData). IsLine d.shape d.numbers × (length d.numbers ≤ 1024)) ds
    → AllByRecursion IsWritable ls
lines_writable [] ds e h = tt
lines_writable (l ∷ ls) [] e h = cc
lines_writable (l ∷ ls) (d ∷ ds) e h =
    let same : line_data l ≡ d = cc in
    let own = subst (λ (z : LineData). IsLine z.shape z.numbers × (length z.numbers ≤ 1024)) (sym same) h.0 in
    (record { line = own.0; few = own.1 }, lines_writable ls ds (cc) h.1)

-- Each line of an accepted certificate is one of few numbers.
pub chain_writable : (ls : List Line) (c : ChainData) (text : List ℕ) (s : StoppingData) → lines_data ls ≡ chain_lines s → IsAcceptedChain c text s → All IsWritable ls
chain_writable ls c text s e h =
    let a = h.lines in
    let few = a.1.1.0.0 in
    let set = length-map s.set digit_of in
    let each = h.brackets.each in
    let upper = h.brackets.above.each in
    let lower = h.brackets.below.each in
    All-from_recursion IsWritable ls (lines_writable ls (chain_lines s) e (
      (a.0, omega arith),
      (
        (a.1.0, omega arith),
        (
          (a.1.1.0, omega arith),
          ((a.1.1.1.0, omega arith), ((a.1.1.1.1.0, omega arith), ((a.1.1.1.1.1.0, omega arith), ((a.1.1.1.1.1.1.0, omega arith), tt)))),
        ),
      ),
    ))

-- What an amount from the root of a tree to an entry of it changes.
use Rattle.std.proofs.Common.{◌≡◌, ℕ, cond, List, length, refl, arith, ◌<◌, ◌≤◌, ◌+◌, eqb, inl, inr, ap, sym, subst, ◌∙◌, ◌≢◌}
use Rattle.std.specs.Prelude.{pos, negsuc, ◌+ℤ◌, ◌-ℤ◌, ◌≤ℤ◌, slice_index, ◌⊎◌}
use Rattle.std.specs.Int.RustNames.{unsigned_abs}
use Rattle.std.proofs.lemmas.Int.{ints}
use Rattle.std.proofs.lemmas.Bool.Decides.{eqb_tells, nat_tests}
use lib.IntN.{ℤ}
use Rattle.offer_model.specs.declared.node.Mark.{Mark}
use Rattle.offer_model.specs.declared.node.Mark.TheVariants.{In, Out, Open}
use Rattle.offer_model.specs.Nodes.{mark_at}
use Rattle.cut_step.specs.declared.rows.Row.{Row}
use Rattle.cut_step.specs.declared.reach.Entry.{Entry}
use Rattle.cut_step.specs.Closures.{price_at}
use Rattle.cut_step.specs.Flows.{IsBalanced, at, Carried}
use Rattle.cut_step.specs.Trees.{product_of, IsTree, Pushed}
use Rattle.cut_step.specs.Phases.{imbalance, imbalance_of, IsFlowing, Augmented, Falls}
use Rattle.cut_step.specs.Phases.Falls.{from_in, from_open, to_out}
use Rattle.cut_step.proofs.TotalLemmas.{sum_less}

-- Of a number that isn't above 0 the size is its contrary.
pub abs_low : (z : ℤ) → z ≤ℤ pos 0 → pos (unsigned_abs z) ≡ pos 0 -ℤ z
abs_low (pos n) h = omega (arith, ints)
abs_low (negsuc n) h = omega (arith, ints)

-- Of a number that isn't below 0 the size is the number.
pub abs_high : (z : ℤ) → pos 0 ≤ℤ z → pos (unsigned_abs z) ≡ z
abs_high (pos n) h = refl
abs_high (negsuc n) h = absurd (omega (arith, ints))

-- A number lies between its size and the contrary.
pub abs_bounds : (z : ℤ) → (z ≤ℤ pos (unsigned_abs z)) × (pos 0 ≤ℤ (z +ℤ pos (unsigned_abs z)))
abs_bounds (pos n) = (omega (arith, ints), omega (arith, ints))
abs_bounds (negsuc n) = (omega (arith, ints), omega (arith, ints))

size_up : (z z' : ℤ) (d : ℕ) → z' ≡ z +ℤ pos d → (z +ℤ pos d) ≤ℤ pos 0 → unsigned_abs z' + d ≤ unsigned_abs z
size_up z z' d e h =
    let a = abs_low z' (omega (arith, ints, e, h)) in
    let b = abs_low z (omega (arith, ints, h)) in
    omega (arith, ints, a, b, e)

size_down : (z z' : ℤ) (d : ℕ) → z' ≡ z -ℤ pos d → pos d ≤ℤ z → unsigned_abs z' + d ≤ unsigned_abs z
size_down z z' d e h =
    let a = abs_high z' (omega (arith, ints, e, h)) in
    let b = abs_high z (omega (arith, ints, h)) in
    omega (arith, ints, a, b, e)

-- What is carried, at one place.
pub at_cases : (i s t d : ℕ) (z z' : ℤ) → z' ≡ (z -ℤ at i s (pos d)) +ℤ at i t (pos d)
    → ((i ≡ s) × (i ≡ t) × (z' ≡ z)) ⊎ ((i ≡ s) × (i ≢ t) × (z' ≡ z -ℤ pos d)) ⊎ ((i ≢ s) × (i ≡ t) × (z' ≡ z +ℤ pos d)) ⊎ ((i ≢ s) × (i ≢ t) × (z' ≡ z))
at_cases i s t d z z' e = elim (eqb_tells i s) as (λ v. ((i ≡ s) × (i ≡ t) × (z' ≡ z)) ⊎ ((i ≡ s) × (i ≢ t) × (z' ≡ z -ℤ pos d)) ⊎ ((i ≢ s) × (i ≡ t) × (z' ≡ z +ℤ pos d)) ⊎ ((i ≢ s) × (i ≢ t) × (z' ≡ z))) [
  | inl a ↦ elim (eqb_tells i t) as (λ v. ((i ≡ s) × (i ≡ t) × (z' ≡ z)) ⊎ ((i ≡ s) × (i ≢ t) × (z' ≡ z -ℤ pos d)) ⊎ ((i ≢ s) × (i ≡ t) × (z' ≡ z +ℤ pos d)) ⊎ ((i ≢ s) × (i ≢ t) × (z' ≡ z))) [
    | inl b ↦ let x = rw (a.0, b.0) at e in inl (a.1, b.1, omega (arith, ints, x))
    | inr b ↦ let x = rw (a.0, b.0) at e in inr (inl (a.1, b.1, omega (arith, ints, x)))
  ]
  | inr a ↦ elim (eqb_tells i t) as (λ v. ((i ≡ s) × (i ≡ t) × (z' ≡ z)) ⊎ ((i ≡ s) × (i ≢ t) × (z' ≡ z -ℤ pos d)) ⊎ ((i ≢ s) × (i ≡ t) × (z' ≡ z +ℤ pos d)) ⊎ ((i ≢ s) × (i ≢ t) × (z' ≡ z))) [
    | inl b ↦ let x = rw (a.0, b.0) at e in inr (inr (inl (a.1, b.1, omega (arith, ints, x))))
    | inr b ↦ let x = rw (a.0, b.0) at e in inr (inr (inr (a.1, b.1, omega (arith, ints, x))))
  ]
]

imbalance_in : (m : Mark) (z : ℤ) → m ≡ In → imbalance m z ≡ 0
imbalance_in m z e = rw e refl

imbalance_out : (m : Mark) (z : ℤ) → m ≡ Out → imbalance m z ≡ 0
imbalance_out m z e = rw e refl

imbalance_open : (m : Mark) (z : ℤ) → m ≡ Open → imbalance m z ≡ unsigned_abs z
imbalance_open m z e = rw e refl

here_off : (i c d : ℕ) → i ≢ c → cond (eqb i c) d 0 ≡ 0
here_off i c d h = grind (arith, nat_tests)

here_on : (i c d : ℕ) → i ≡ c → cond (eqb i c) d 0 ≡ d
here_on i c d h = grind (arith, nat_tests)

-- No mark is both In and Open.
pub in_open : (m : Mark) → m ≡ In → m ≡ Open → ⊥
in_open m p q = cc

open_out : (m : Mark) → m ≡ Open → m ≡ Out → ⊥
open_out m p q = cc

-- From s, where there is enough or all, to t, which is Open and lacks it.
to_open : (node : List Mark) (r r' : List ℤ) (s t d i : ℕ) → 0 < d → Carried r r' s t d → mark_at node t ≡ Open → (price_at r t +ℤ pos d) ≤ℤ pos 0
    → (mark_at node s ≡ In) ⊎ ((mark_at node s ≡ Open) × (pos d ≤ℤ price_at r s))
    → imbalance (mark_at node i) (price_at r' i) + cond (eqb i t) d 0 ≤ imbalance (mark_at node i) (price_at r i)
to_open node r r' s t d i some c opened lacking giving =
    elim (at_cases i s t d (price_at r i) (price_at r' i) (c.is i)) as (λ v. imbalance (mark_at node i) (price_at r' i) + cond (eqb i t) d 0 ≤ imbalance (mark_at node i) (price_at r i)) [
      | inl x ↦ let same : s ≡ t = sym x.0 ∙ x.1 in
          absurd (elim giving [
            | inl g ↦ in_open (mark_at node t) (subst (λ (k : ℕ). mark_at node k ≡ In) same g) opened
            | inr g ↦ let high = subst (λ (k : ℕ). pos d ≤ℤ price_at r k) same g.1 in omega (arith, ints, high, lacking, some)
          ])
      | inr (inl x) ↦
          let off = here_off i t d x.1 in
          elim giving as (λ v. imbalance (mark_at node i) (price_at r' i) + cond (eqb i t) d 0 ≤ imbalance (mark_at node i) (price_at r i)) [
            | inl g ↦ let m : mark_at node i ≡ In = ap (mark_at node) x.0 ∙ g in
                let a = imbalance_in (mark_at node i) (price_at r i) m in let b = imbalance_in (mark_at node i) (price_at r' i) m in omega (arith, a, b, off)
            | inr g ↦ let m : mark_at node i ≡ Open = ap (mark_at node) x.0 ∙ g.0 in
                let a = imbalance_open (mark_at node i) (price_at r i) m in let b = imbalance_open (mark_at node i) (price_at r' i) m in
                let high = subst (λ (k : ℕ). pos d ≤ℤ price_at r k) (sym x.0) g.1 in
                let l = size_down (price_at r i) (price_at r' i) d x.2 high in omega (arith, a, b, off, l)
          ]
      | inr (inr (inl x)) ↦
          let on = here_on i t d x.1 in
          let m : mark_at node i ≡ Open = ap (mark_at node) x.1 ∙ opened in
          let a = imbalance_open (mark_at node i) (price_at r i) m in let b = imbalance_open (mark_at node i) (price_at r' i) m in
          let low = subst (λ (k : ℕ). (price_at r k +ℤ pos d) ≤ℤ pos 0) (sym x.1) lacking in
          let l = size_up (price_at r i) (price_at r' i) d x.2 low in omega (arith, a, b, on, l)
      | inr (inr (inr x)) ↦
          let off = here_off i t d x.1 in
          let same = ap (imbalance (mark_at node i)) x.2 in omega (arith, off, same)
    ]

-- From s, where there is enough, to t, which is Out.
to_none : (node : List Mark) (r r' : List ℤ) (s t d i : ℕ) → Carried r r' s t d → mark_at node s ≡ Open → pos d ≤ℤ price_at r s → mark_at node t ≡ Out
    → imbalance (mark_at node i) (price_at r' i) + cond (eqb i s) d 0 ≤ imbalance (mark_at node i) (price_at r i)
to_none node r r' s t d i c opened enough out =
    elim (at_cases i s t d (price_at r i) (price_at r' i) (c.is i)) as (λ v. imbalance (mark_at node i) (price_at r' i) + cond (eqb i s) d 0 ≤ imbalance (mark_at node i) (price_at r i)) [
      | inl x ↦ let same : s ≡ t = sym x.0 ∙ x.1 in absurd (open_out (mark_at node t) (subst (λ (k : ℕ). mark_at node k ≡ Open) same opened) out)
      | inr (inl x) ↦
          let on = here_on i s d x.0 in
          let m : mark_at node i ≡ Open = ap (mark_at node) x.0 ∙ opened in
          let a = imbalance_open (mark_at node i) (price_at r i) m in let b = imbalance_open (mark_at node i) (price_at r' i) m in
          let high = subst (λ (k : ℕ). pos d ≤ℤ price_at r k) (sym x.0) enough in
          let l = size_down (price_at r i) (price_at r' i) d x.2 high in omega (arith, a, b, on, l)
      | inr (inr (inl x)) ↦
          let off = here_off i s d x.0 in
          let m : mark_at node i ≡ Out = ap (mark_at node) x.1 ∙ out in
          let a = imbalance_out (mark_at node i) (price_at r i) m in let b = imbalance_out (mark_at node i) (price_at r' i) m in omega (arith, a, b, off)
      | inr (inr (inr x)) ↦
          let off = here_off i s d x.0 in
          let same = ap (imbalance (mark_at node i)) x.2 in omega (arith, off, same)
    ]

-- What is left falls by what was carried.
pub falls : (node : List Mark) (n : ℕ) (r r' : List ℤ) (s t d : ℕ) → s < n → t < n → 0 < d → Carried r r' s t d → Falls node r s t d → imbalance_of node n r' + d ≤ imbalance_of node n r
falls node n r r' s t d ls lt some c (from_in a b e) = sum_less n (λ i. imbalance (mark_at node i) (price_at r' i)) (λ i. imbalance (mark_at node i) (price_at r i)) t d lt (λ i l. to_open node r r' s t d i some c b e (inl a))
falls node n r r' s t d ls lt some c (from_open a h b e) = sum_less n (λ i. imbalance (mark_at node i) (price_at r' i)) (λ i. imbalance (mark_at node i) (price_at r i)) t d lt (λ i l. to_open node r r' s t d i some c b e (inr (a, h)))
falls node n r r' s t d ls lt some c (to_out a h b) = sum_less n (λ i. imbalance (mark_at node i) (price_at r' i)) (λ i. imbalance (mark_at node i) (price_at r i)) s d ls (λ i l. to_none node r r' s t d i c a h b)

near : (r r' : List ℤ) (s t d i : ℕ) → Carried r r' s t d → ((price_at r i -ℤ pos d) ≤ℤ price_at r' i) × (price_at r' i ≤ℤ (price_at r i +ℤ pos d))
near r r' s t d i c = elim (at_cases i s t d (price_at r i) (price_at r' i) (c.is i)) as (λ v. ((price_at r i -ℤ pos d) ≤ℤ price_at r' i) × (price_at r' i ≤ℤ (price_at r i +ℤ pos d))) [
  | inl x ↦ (omega (arith, ints, x.2), omega (arith, ints, x.2))
  | inr (inl x) ↦ (omega (arith, ints, x.2), omega (arith, ints, x.2))
  | inr (inr (inl x)) ↦ (omega (arith, ints, x.2), omega (arith, ints, x.2))
  | inr (inr (inr x)) ↦ (omega (arith, ints, x.2), omega (arith, ints, x.2))
]

-- An amount that was carried down the tree keeps the bounds.
pub flows_on : (rows : List Row) (node : List Mark) (w r r' : List ℤ) (f f' : List ℕ) (tree : List Entry) (start top d : ℕ)
    → IsFlowing rows node w r f → Pushed rows tree start d f r top f' r' → imbalance_of node (length w) r' + d ≤ imbalance_of node (length w) r
    → IsFlowing rows node w r' f'
flows_on rows node w r r' f f' tree start top d g p less = record {
  balanced = p.balanced w (sym g.excess_each) g.balanced;
  rows_each = p.rows_each ∙ g.rows_each;
  excess_each = p.carried.length_is ∙ g.excess_each;
  amount = λ k. let a = p.amount k in let b = g.amount k in omega (arith, a, b, less);
  low = λ i. let n = near r r' (product_of tree top) (product_of tree start) d i p.carried in let l = g.low i in omega (arith, ints, n.0, l, less);
  high = λ i. let n = near r r' (product_of tree top) (product_of tree start) d i p.carried in let h = g.high i in omega (arith, ints, n.1, h, less);
}

-- So does one that was carried over one row.
pub flows_by : (rows : List Row) (node : List Mark) (w r r' : List ℤ) (f f' : List ℕ) (s t d : ℕ)
    → IsFlowing rows node w r f → IsBalanced rows w r' f' → length f' ≡ length f → Carried r r' s t d → ((k : ℕ) → slice_index f' k ≤ slice_index f k + d)
    → imbalance_of node (length w) r' + d ≤ imbalance_of node (length w) r → IsFlowing rows node w r' f'
flows_by rows node w r r' f f' s t d g b len c amount less = record {
  balanced = b;
  rows_each = len ∙ g.rows_each;
  excess_each = c.length_is ∙ g.excess_each;
  amount = λ k. let a = amount k in let b = g.amount k in omega (arith, a, b, less);
  low = λ i. let n = near r r' s t d i c in let l = g.low i in omega (arith, ints, n.0, l, less);
  high = λ i. let n = near r r' s t d i c in let h = g.high i in omega (arith, ints, n.1, h, less);
}

-- Other products keep what is left.
pub others_same : (r r' : List ℤ) (s t d i : ℕ) → Carried r r' s t d → i ≢ s → i ≢ t → price_at r' i ≡ price_at r i
others_same r r' s t d i c a b = elim (at_cases i s t d (price_at r i) (price_at r' i) (c.is i)) as (λ v. price_at r' i ≡ price_at r i)
    [ inl x ↦ x.2 | inr (inl x) ↦ absurd (a x.0) | inr (inr (inl x)) ↦ absurd (b x.1) | inr (inr (inr x)) ↦ x.2 ]

-- An augmenting path brings what is left down.
pub augmented : (rows : List Row) (node : List Mark) (w r r' : List ℤ) (f f' : List ℕ) (tree : List Entry) (start top d : ℕ)
    → IsTree rows (length w) f tree → start < length tree → top < length tree → 0 < d → Falls node r (product_of tree top) (product_of tree start) d
    → IsFlowing rows node w r f → Pushed rows tree start d f r top f' r' → Augmented rows node w r f tree r' f'
augmented rows node w r r' f f' tree start top d t ls lt some h g p =
    let less = falls node (length w) r r' (product_of tree top) (product_of tree start) d (t.named top lt) (t.named start ls) some p.carried h in
    record {
      flowing = flows_on rows node w r r' f f' tree start top d g p less;
      less = omega (arith, less, some);
      unused = p.unused;
      others = λ i out. others_same r r' (product_of tree top) (product_of tree start) d i p.carried (λ q. out top lt (sym q)) (λ q. out start ls (sym q));
    }

-- Rows of moves that are made of arcs, one after another.
use Rattle.std.proofs.Common.{◌≡◌, ◌≢◌, ℕ, arith, suc, zero, ◌<◌, ◌≤◌, ◌*◌, ◌+◌, refl, List, [], ◌∷◌, ◌++◌, length, drop, ap, ◌∙◌, sym, cond, eqb, ◌&&◌, true, false, Bool, length-set, get_or-set_same, get_or-set_other, inl, inr, Vec}
use Rattle.std.specs.Prelude.{slice_index_or, slice_set}
use Rattle.std.specs.Global.{Global}
use Rattle.std.proofs.lemmas.List.{drop_more, drop_all}
use Rattle.std.proofs.lemmas.Bool.{cases_eq}
use Rattle.std.proofs.lemmas.Bool.Decides.{nat_tests}
use Rattle.std.specs.List.{All}
use Rattle.std.proofs.lemmas.List.Elements.{All-head, All-tail, All-push, All-nil, All-get_or}
use Rattle.offer_model.specs.declared.arc.Arc.{Arc}
use Rattle.offer_model.specs.Assortments.{sum_below}
use Rattle.offer_model.specs.Chains.{ChainData, place_count, parts_along}
use Rattle.offer_model.specs.ChainValidity.{IsChain}
use Rattle.chain_moves.specs.declared.rows.Move.{Move}
use Rattle.chain_moves.specs.Rows.{sum_moves, sum_arcs, AreRows, IsPart, AreParts, IsPut}

-- One arc's part of a sum over products.
point_before : (n to parts : ℕ) (f : ℕ → ℕ) → n ≤ to → sum_below n (λ j. cond (eqb to j) parts 0 * f j) ≡ 0
point_before zero to parts f l = refl
point_before (suc n) to parts f l =
    let before = point_before n to parts f (omega arith) in
    let other : eqb to n ≡ false = grind (arith, nat_tests) in
    rw (before, other) (omega arith)

point_at : (n to parts : ℕ) (f : ℕ → ℕ) → to < n → sum_below n (λ j. cond (eqb to j) parts 0 * f j) ≡ parts * f to
point_at zero to parts f l = absurd (omega arith)
point_at (suc n) to parts f l = elim (cases_eq to n) [
  | inl e ↦ (let before = point_before n to parts f (omega arith) in let here : eqb to n ≡ true = grind (arith, nat_tests) in
      rw (before, here) (rw e (omega arith)))
  | inr e ↦ (let before = point_at n to parts f (omega arith) in let other : eqb to n ≡ false = grind (arith, nat_tests) in
      rw (before, other) (omega arith))
]

none : (n : ℕ) (f : ℕ → ℕ) → sum_below n (λ j. 0 * f j) ≡ 0
none zero f = refl
none (suc n) f = let before = none n f in omega arith

point : (n to parts : ℕ) (b : Bool) (f : ℕ → ℕ) → to < n → sum_below n (λ j. cond (b && eqb to j) parts 0 * f j) ≡ cond b (parts * f to) 0
point n to parts true f l = point_at n to parts f l
point n to parts false f l = none n f

split : (n : ℕ) (a b : ℕ → ℕ) (f : ℕ → ℕ) → sum_below n (λ j. (a j + b j) * f j) ≡ sum_below n (λ j. a j * f j) + sum_below n (λ j. b j * f j)
split zero a b f = refl
split (suc n) a b f = let before = split n a b f in omega arith

moved_arcs : (arcs : List Arc) (n i : ℕ) (f : ℕ → ℕ) → All (λ arc. (arc.from < n) × (arc.to < n)) arcs
    → sum_below n (λ j. parts_along arcs i j * f j) ≡ sum_arcs arcs i f
moved_arcs [] n i f ends = none n f
moved_arcs (arc ∷ arcs) n i f ends =
    let before = moved_arcs arcs n i f (All-tail (λ arc. (arc.from < n) × (arc.to < n)) arc arcs ends) in
    let here = point n arc.to arc.parts (eqb arc.from i) f (All-head (λ arc. (arc.from < n) × (arc.to < n)) arc arcs ends).1 in
    split n (λ j. cond (eqb arc.from i && eqb arc.to j) arc.parts 0) (λ j. parts_along arcs i j) f ∙ rw (here, before) refl

sum_moves-push : (ms : List Move) (m : Move) (f : ℕ → ℕ) → sum_moves (ms ++ m ∷ []) f ≡ sum_moves ms f + m.parts * f m.to
sum_moves-push [] m f = omega arith
sum_moves-push (x ∷ ms) m f = let before = sum_moves-push ms m f in omega arith

-- Rows without moves have all arcs left.
pub parts_start : (arcs : List Arc) (n : ℕ) (rows : List (Vec Move Global)) → length rows ≡ n
    → ((i : ℕ) (r : Vec Move Global) → i < n → r ≡ slice_index_or rows i r → r.items ≡ []) → AreParts arcs (drop 0 arcs) n rows
parts_start arcs n rows each empty = record { each = each; part = λ i r l is. rw (empty i r l is) (record { sums = λ f. omega arith; ends = All-nil (λ m. m.to < n) }) }

part_here : (arcs left : List Arc) (n i to parts : ℕ) (arc : Arc) (ms : List Move) → to < n → arc.from ≡ i → arc.to ≡ to → arc.parts ≡ parts
    → IsPart arcs (arc ∷ left) n i ms → IsPart arcs left n i (ms ++ record { to = to; parts = parts } ∷ [])
part_here arcs left n i to parts arc ms inside e t p part = record {
  sums = λ f. let before = part.sums f in
      let more = sum_moves-push ms (record { to = to; parts = parts }) f in
      let same : eqb arc.from i ≡ true = grind (arith, nat_tests) in
      let before' = rw (same, t, p) at before in omega arith;
  ends = All-push (λ m. m.to < n) ms (record { to = to; parts = parts }) part.ends inside;
}

part_other : (arcs left : List Arc) (n i : ℕ) (arc : Arc) (ms : List Move) → arc.from ≢ i → IsPart arcs (arc ∷ left) n i ms → IsPart arcs left n i ms
part_other arcs left n i arc ms e part = record {
  sums = λ f. let before = part.sums f in
      let other : eqb arc.from i ≡ false = grind (arith, nat_tests) in
      let before' = rw other at before in omega arith;
  ends = part.ends;
}

-- A move put last in its row takes its arc off those that are left.
parts_more : (arcs : List Arc) (n k : ℕ) (rows : List (Vec Move Global)) (old new : Vec Move Global) (arc d : Arc)
    → k < length arcs → arc ≡ slice_index_or arcs k d → All (λ arc. (arc.from < n) × (arc.to < n)) arcs
    → old ≡ slice_index_or rows arc.from old → new.items ≡ old.items ++ record { to = arc.to; parts = arc.parts } ∷ []
    → AreParts arcs (drop k arcs) n rows → AreParts arcs (drop (k + 1) arcs) n (slice_set rows arc.from new)
parts_more arcs n k rows old new arc d l is ends was now parts =
    let inside = All-get_or (λ arc. (arc.from < n) × (arc.to < n)) arcs k d l ends in
    let inside' : (arc.from < n) × (arc.to < n) = rw is inside in
    let there : arc.from < length rows = omega (arith, parts.each, inside'.0) in
    let left : drop k arcs ≡ arc ∷ drop (k + 1) arcs = drop_more arcs k d l ∙ ap (λ z. z ∷ drop (k + 1) arcs) (sym is) in
    record {
      each = length-set rows arc.from new ∙ parts.each;
      part = λ i r li at. elim (cases_eq i arc.from) [
        | inl e ↦ (let same : slice_index_or (slice_set rows arc.from new) i r ≡ new = rw e (get_or-set_same rows arc.from new r there) in
            let r_is : r ≡ new = at ∙ same in
            let before = rw left at (parts.part arc.from old inside'.0 was) in
            rw (r_is, now, e) (part_here arcs (drop (k + 1) arcs) n arc.from arc.to arc.parts arc old.items inside'.1 refl refl refl before))
        | inr e ↦ (let at' : r ≡ slice_index_or rows i r = at ∙ get_or-set_other rows arc.from i new r e in
            let before = rw left at (parts.part i r li at') in
            part_other arcs (drop (k + 1) arcs) n i arc r.items (λ q. e (sym q)) before)
      ];
    }

silent : (b : Bool) (parts value : ℕ) → parts ≡ 0 → cond b (parts * value) 0 ≡ 0
silent true parts value e = rw e (omega arith)
silent false parts value e = refl

part_silent : (arcs left : List Arc) (n i : ℕ) (arc : Arc) (ms : List Move) → arc.parts ≡ 0 → IsPart arcs (arc ∷ left) n i ms → IsPart arcs left n i ms
part_silent arcs left n i arc ms e part = record {
  sums = λ f. let before = part.sums f in let none = silent (eqb arc.from i) arc.parts (f arc.to) e in omega (arith, before, none);
  ends = part.ends;
}

-- An arc without parts is no loss.
parts_silent : (arcs : List Arc) (n k : ℕ) (rows : List (Vec Move Global)) (arc d : Arc) → k < length arcs → arc ≡ slice_index_or arcs k d → arc.parts ≡ 0
    → AreParts arcs (drop k arcs) n rows → AreParts arcs (drop (k + 1) arcs) n rows
parts_silent arcs n k rows arc d l is e parts =
    let left : drop k arcs ≡ arc ∷ drop (k + 1) arcs = drop_more arcs k d l ∙ ap (λ z. z ∷ drop (k + 1) arcs) (sym is) in
    record {
      each = parts.each;
      part = λ i r li at. part_silent arcs (drop (k + 1) arcs) n i arc r.items e (rw left at (parts.part i r li at));
    }

-- An arc that was put is off those that are left.
pub parts_put : (arcs : List Arc) (n k : ℕ) (rows rows' : List (Vec Move Global)) (arc d : Arc)
    → k < length arcs → arc ≡ slice_index_or arcs k d → All (λ arc. (arc.from < n) × (arc.to < n)) arcs
    → IsPut rows arc rows' → AreParts arcs (drop k arcs) n rows → AreParts arcs (drop (k + 1) arcs) n rows'
parts_put arcs n k rows rows' arc d l is ends (inl h) parts = rw h.1 (parts_silent arcs n k rows arc d l is h.0 parts)
parts_put arcs n k rows rows' arc d l is ends (inr h) parts = rw h.4 (parts_more arcs n k rows h.0 h.1 arc d l is ends h.2 h.3 parts)

-- Where no arc is left these are the chain's rows.
pub parts_end : (c : ChainData) (k : ℕ) (rows : List (Vec Move Global)) → IsChain c → length c.arcs ≤ k → AreParts c.arcs (drop k c.arcs) (place_count c) rows → AreRows c rows
parts_end c k rows valid l parts =
    let none : drop k c.arcs ≡ [] = drop_all k c.arcs l in
    record {
      each = parts.each;
      row = λ i r li is. let p = rw none at (parts.part i r li is) in
          record { sums = λ f. let e = p.sums f in let m = moved_arcs c.arcs (place_count c) i f valid.ends in omega arith; ends = p.ends };
    }

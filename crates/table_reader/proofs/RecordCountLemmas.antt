-- A record takes a byte of the text, or its end: so the records that a loop reads are all that there are.
use Rattle.std.proofs.Common.{◌≡◌, refl, arith, ℕ, zero, suc, ◌+◌, ◌<◌, ◌≤◌, List, [], ◌∷◌, length, Bool, true, false, cond, Option, Some, None}
use Rattle.csv.specs.Machine.{next_record, step, is_end, ends_at_end, Read, fields_after, field_after}
use Rattle.csv.specs.Reading.{Reached, records_from}
use Rattle.csv.specs.declared.parser.Config.{Config}
use Rattle.csv.specs.declared.parser.State.{State}
use Rattle.csv.specs.declared.parser.State.TheVariants as st

-- One where the end of the text ends a record.
abbrev pub open_record : State → ℕ
open_record s = cond (ends_at_end s) 1 0

open_small : (s : State) → open_record s ≤ 1
open_small s = elim (ends_at_end s) as (λ b. cond b 1 0 ≤ 1) [ true ↦ omega arith | false ↦ omega arith ]

-- A byte that ends a record leaves no record open.
end_closed : (cfg : Config) (s : State) (c : ℕ) → is_end (step cfg s c).1 ≡ true → open_record (step cfg s c).0 ≡ 0
end_closed cfg st.StartRecord c h = grind arith
end_closed cfg st.StartField c h = grind arith
end_closed cfg st.InField c h = grind arith
end_closed cfg st.InQuoted c h = grind arith
end_closed cfg st.InEscape c h = grind arith
end_closed cfg st.AfterQuote c h = grind arith
end_closed cfg st.InComment c h = grind arith
end_closed cfg st.AfterCr c h = grind arith

-- A record that the end of the text ends.
takes_end : (b : Bool) (fields : List (List ℕ)) (p : Read) → cond b (Some (fields, st.StartRecord, [])) None ≡ Some p
    → length p.2 + open_record p.1 < cond b 1 0
takes_end true fields p h =
    let e : (fields, st.StartRecord, []) ≡ p = cc in
    rw (← e) (omega arith)
takes_end false fields p h = cc

-- A record that a byte ends, and one that goes on.
takes_step : (b : Bool) (fields : List (List ℕ)) (s : State) (rest : List ℕ) (more : Option Read) (p : Read) (before : ℕ)
    → cond b (Some (fields, s, rest)) more ≡ Some p
    → (b ≡ true → open_record s ≡ 0)
    → (more ≡ Some p → length p.2 + open_record p.1 < length rest + open_record s)
    → length p.2 + open_record p.1 < suc (length rest) + before
takes_step true fields s rest more p before h closed goes =
    let e : (fields, s, rest) ≡ p = cc in
    let none = closed refl in
    rw (← e) (omega arith)
takes_step false fields s rest more p before h closed goes =
    let small = open_small s in
    let less = goes h in
    omega arith

-- A record takes a byte, or the end of the text.
pub takes : (cfg : Config) (s : State) (fields : List (List ℕ)) (field xs : List ℕ) (p : Read)
    → next_record cfg s fields field xs ≡ Some p → length p.2 + open_record p.1 < length xs + open_record s
unfolding next_record
takes cfg s fields field [] p h =
    let less = takes_end (ends_at_end s) _ p h in
    omega arith
takes cfg s fields field (c ∷ rest) p h =
    takes_step (is_end (step cfg s c).1) _ (step cfg s c).0 rest _ p (open_record s) h (end_closed cfg s c)
    (takes cfg (step cfg s c).0 (fields_after (step cfg s c).1 fields field) (field_after (step cfg s c).1 c field) rest p)

-- What was read to the end is every record, with turns enough.
pub reached_all : (cfg : Config) (n : ℕ) (s : State) (xs : List ℕ) (rows : List (List (List ℕ))) (s2 : State) (ys : List ℕ)
    → Reached cfg s xs rows s2 ys → next_record cfg s2 [] [] ys ≡ None → length xs + open_record s < n
    → rows ≡ records_from cfg n s xs
unfolding Reached records_from
reached_all cfg zero s xs rows s2 ys h none room = absurd (omega arith)
reached_all cfg (suc n) s xs [] s2 ys h none room =
    let e : next_record cfg s [] [] xs ≡ None = rw (h.0, h.1) none in
    rw e refl
reached_all cfg (suc n) s xs (r ∷ rows) s2 ys h none room =
    let fewer = takes cfg s [] [] xs h.0 h.1 in
    let rest = reached_all cfg n h.0.1 h.0.2 rows s2 ys h.3 none (omega arith) in
    rw (h.1, h.2, rest) refl

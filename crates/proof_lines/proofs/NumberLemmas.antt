-- Numbers in decimal: one text each, read in one way.
use Rattle.std.proofs.Common.{◌≡◌, ℕ, suc, zero, true, false, List, [], ◌∷◌, ◌++◌, length, take, drop, get_or, refl, sym, ◌∙◌, ap, arith, add-one, ◌<◌, ◌≤◌, ◌+◌, ◌*◌, ◌^◌, ◌/◌, ◌%◌, append-nil, append_assoc, length-append}
use Rattle.std.specs.Str.Parse.{AllDigits, digits_value}
use Rattle.std.specs.Char.{is_ascii_digit, digit_value}
use Rattle.std.specs.Fmt.{decimal}
use Rattle.std.proofs.lemmas.Fmt.{decimal_is_IsNumeral_wide, decimal_digit, decimal_step_wide, decimal_by_steps_wide, length-decimal-le_wide}
use Rattle.std.proofs.lemmas.Int.Digits.{digits_value_more}
use Rattle.std.proofs.lemmas.Str.{digit_value_digit}
use Rattle.std.proofs.lemmas.Str.Parse.{digit_from_value, digit_at}
use Rattle.std.proofs.lemmas.Bool.Decides.{nat_tests}
use Rattle.std.proofs.Math.Nat.{pow-le-pow_right, pow-suc}
use Rattle.std.proofs.Math.Seq.{take-suc}
use Rattle.std.proofs.lemmas.List.{take-append-drop}
use Rattle.proof_lines.specs.Lines.{most_number}
use Rattle.proof_lines.specs.Reading.{IsPastDigits}

-- ---- Where a number ends.

-- A digit is no byte past the digits.
pub digit_not_past : (c d : ℕ) → digit_value c < 10 → is_ascii_digit d ≡ false → c ≡ d → ⊥
digit_not_past c d h k e = let r = digit_from_value c h in let k' : is_ascii_digit c ≡ false = rw e k in grind (arith, nat_tests)

pub digits_split : (xs ys u v : List ℕ) → AllDigits 10 xs → AllDigits 10 ys → IsPastDigits u → IsPastDigits v → xs ++ u ≡ ys ++ v → (xs ≡ ys) × (u ≡ v)
digits_split [] [] u v dx dy su sv e = (refl, e)
digits_split [] (y ∷ ys) [] v dx dy su sv e = cc
digits_split [] (y ∷ ys) (c ∷ u) v dx dy su sv e = absurd (digit_not_past y c dy.0 su cc)
digits_split (x ∷ xs) [] u [] dx dy su sv e = cc
digits_split (x ∷ xs) [] u (c ∷ v) dx dy su sv e = absurd (digit_not_past x c dx.0 sv cc)
digits_split (x ∷ xs) (y ∷ ys) u v dx dy su sv e = joined x y xs ys u v (cc) (digits_split xs ys u v dx.1 dy.1 su sv (cc))
  where
    joined : (x y : ℕ) (xs ys u v : List ℕ) → x ≡ y → (xs ≡ ys) × (u ≡ v) → (x ∷ xs ≡ y ∷ ys) × (u ≡ v)
    joined x y xs ys u v h r = (cc, r.1)

-- A number and what follows it are read in one way.
pub decimal_split : (a b : ℕ) (u v : List ℕ) → a ≤ most_number → b ≤ most_number → IsPastDigits u → IsPastDigits v → decimal a ++ u ≡ decimal b ++ v → (a ≡ b) × (u ≡ v)
decimal_split a b u v la lb su sv e =
    let na = decimal_is_IsNumeral_wide a (omega arith) in
    let nb = decimal_is_IsNumeral_wide b (omega arith) in
    let parts = digits_split (decimal a) (decimal b) u v na.0.1 nb.0.1 su sv e in
    (sym na.1 ∙ ap (digits_value 10) parts.0 ∙ nb.1, parts.1)

pub decimal_one : (a b : ℕ) → a ≤ most_number → b ≤ most_number → decimal a ≡ decimal b → a ≡ b
decimal_one a b la lb e = (decimal_split a b [] [] la lb tt tt (append-nil (decimal a) ∙ e ∙ sym (append-nil (decimal b)))).0

-- ---- The digits that bytes begin with.

digit_low : (c : ℕ) → is_ascii_digit c ≡ true → digit_value c < 10
digit_low c h = let r = digit_value_digit c (grind (arith, nat_tests)) in grind (arith, nat_tests)

-- One more digit.
pub AllDigits-take : (bs : List ℕ) (i : ℕ) → i < length bs → AllDigits 10 (take i bs) → is_ascii_digit (get_or bs i 0) ≡ true → AllDigits 10 (take (suc i) bs)
AllDigits-take [] i l h d = absurd (omega arith)
AllDigits-take (b ∷ bs) zero l h d = (digit_low b d, tt)
AllDigits-take (b ∷ bs) (suc i) l h d = (h.0, AllDigits-take bs i (omega arith) h.1 d)

pub IsPastDigits-drop : (bs : List ℕ) (i : ℕ) → i < length bs → is_ascii_digit (get_or bs i 0) ≡ false → IsPastDigits (drop i bs)
IsPastDigits-drop [] i l d = absurd (omega arith)
IsPastDigits-drop (b ∷ bs) zero l d = d
IsPastDigits-drop (b ∷ bs) (suc i) l d = IsPastDigits-drop bs i (omega arith) d

-- ---- Digits without leading zeros are what `decimal` writes of their value.

no_value : (v : ℕ) (ds : List ℕ) → v ≡ 0 → decimal v ≡ ds → get_or ds 0 0 ≡ 48
no_value v ds e h = let z = decimal_digit 0 (omega arith) in rw (← h, e, z) refl

decimal_more : (n d : ℕ) (ds : List ℕ) → 1 ≤ n → d < 10 → n < 10 ^ 63 → decimal n ≡ ds → decimal (n * 10 + d) ≡ ds ++ (48 + d) ∷ []
decimal_more n d ds some one few e =
    let step = decimal_step_wide (n * 10 + d) (omega arith) (omega arith) in
    let q : (n * 10 + d) / 10 ≡ n = omega arith in
    let r : (n * 10 + d) % 10 ≡ d = omega arith in
    (rw (q, r) at step) ∙ ap (λ front. front ++ (48 + d) ∷ []) e

get_or-take_first : (ds : List ℕ) (i : ℕ) → get_or (take (suc i) ds) 0 0 ≡ get_or ds 0 0
get_or-take_first [] i = refl
get_or-take_first (d ∷ ds) i = refl

decimal_single : (n v c : ℕ) → n ≡ v → v + 48 ≡ c → v < 10 → decimal n ≡ c ∷ []
decimal_single n v c e f l = let same : c ≡ 48 + v = omega arith in rw (e, same) (decimal_digit v l)

take_none : (ds : List ℕ) → take 0 ds ≡ []
take_none [] = refl
take_none (d ∷ ds) = refl

-- What is written of the first digits, up to the one at i.
record Written (ds : List ℕ) (i : ℕ) : Type 0 where
  text : decimal (digits_value 10 (take (suc i) ds)) ≡ take (suc i) ds
  small : digits_value 10 (take (suc i) ds) < 10 ^ suc i

decimal_take : (ds : List ℕ) → AllDigits 10 ds → (get_or ds 0 0 ≡ 48 → ⊥) → length ds ≤ 63 → (i : ℕ) → i < length ds → Written ds i
decimal_take ds a z few zero l =
    let more = rw add-one at (digits_value_more 10 ds 0 l) in
    let digit = digit_at ds 0 a l in
    let value = digit_value_digit (get_or ds 0 0) digit in
    let front = take-suc ds 0 0 l in
    record {
      text = rw (more, front, take_none ds) (decimal_single (digits_value 10 [] * 10 + digit_value (get_or ds 0 0)) (digit_value (get_or ds 0 0)) (get_or ds 0 0) (omega arith) value (omega arith));
      small = rw more (let none : digits_value 10 (take 0 ds) ≡ 0 = ap (digits_value 10) (take_none ds) in omega arith);
    }
decimal_take ds a z few (suc i) l =
    let before = decimal_take ds a z few i (omega arith) in
    let more = rw add-one at (digits_value_more 10 ds (suc i) l) in
    let digit = digit_at ds (suc i) a l in
    let value = digit_value_digit (get_or ds (suc i) 0) digit in
    let front = take-suc ds (suc i) 0 l in
    let room : 10 ^ suc i ≤ 10 ^ 63 = pow-le-pow_right {n = 10} (omega arith) {i = suc i} {j = 63} (omega arith) in
    let some : 1 ≤ digits_value 10 (take (suc i) ds) = positive (digits_value 10 (take (suc i) ds)) before.text in
    let last : 48 + digit_value (get_or ds (suc i) 0) ≡ get_or ds (suc i) 0 = omega arith in
    record {
      text = rw (more, front) (decimal_more (digits_value 10 (take (suc i) ds)) (digit_value (get_or ds (suc i) 0)) (take (suc i) ds) some (omega arith) (omega (arith, before.small)) before.text
          ∙ ap (λ c. take (suc i) ds ++ c ∷ []) last);
      small = rw more (let small = before.small in let p : 10 ^ suc (suc i) ≡ 10 ^ suc i * 10 = pow-suc 10 (suc i) in omega arith);
    }
  where
    positive : (v : ℕ) → decimal v ≡ take (suc i) ds → 1 ≤ v
    positive zero e = absurd (z (sym (get_or-take_first ds i) ∙ no_value 0 (take (suc i) ds) refl e))
    positive (suc v) e = omega arith

pub decimal-digits_value : (ds : List ℕ) → AllDigits 10 ds → 0 < length ds → length ds ≤ 63 → ((get_or ds 0 0 ≡ 48) → length ds ≤ 1) → decimal (digits_value 10 ds) ≡ ds
decimal-digits_value (d ∷ []) a some few z =
    let value = digit_value_digit d (digit_from_value d a.0) in
    decimal_single (digits_value 10 (d ∷ [])) (digit_value d) d (omega arith) value a.0
decimal-digits_value (d ∷ e ∷ ds) a some few z =
    let all = decimal_take (d ∷ e ∷ ds) a (λ h. let k = z h in omega arith) few (suc (length ds)) (omega arith) in
    let whole : take (suc (suc (length ds))) (d ∷ e ∷ ds) ≡ d ∷ e ∷ ds = ap (λ t. d ∷ e ∷ t) (take_all ds) in
    rw whole at all.text
  where
    take_all : (xs : List ℕ) → take (length xs) xs ≡ xs
    take_all [] = refl
    take_all (x ∷ xs) = ap (λ t. x ∷ t) (take_all xs)
decimal-digits_value [] a some few z = absurd (omega arith)

-- The first digit of a number is 0 only where it is the only one.
record Leads (n : ℕ) (ds : List ℕ) : Type 0 where
  some : 0 < length ds
  first : 0 < n → 48 < get_or ds 0 0
  alone : n < 10 → length ds ≡ 1

decimal_leads : (n : ℕ) → n < 10 ^ 64 → Leads n (decimal n)
decimal_leads = decimal_by_steps_wide Leads
    (λ n l. record { some = omega arith; first = λ h. omega arith; alone = λ h. refl })
    (λ n ds l before. record { some = longer ds (48 + n % 10); first = λ h. rw (first_front ds (48 + n % 10) before.some) (before.first (omega arith)); alone = λ h. absurd (omega arith) })
  where
    longer : (ds : List ℕ) (c : ℕ) → 0 < length (ds ++ c ∷ [])
    longer [] c = omega arith
    longer (d ∷ ds) c = omega arith

    first_front : (ds : List ℕ) (c : ℕ) → 0 < length ds → get_or (ds ++ c ∷ []) 0 0 ≡ get_or ds 0 0
    first_front [] c h = absurd (omega arith)
    first_front (d ∷ ds) c h = refl

-- What no number is written as: nothing, too many digits, a leading zero, or the digits of a greater number.
pub no_digits : (n : ℕ) (ds : List ℕ) → n ≤ most_number → length ds ≡ 0 → decimal n ≡ ds → ⊥
no_digits n ds l none e = let some = (decimal_leads n (omega arith)).some in let len = ap length e in omega arith

pub too_many : (n : ℕ) (ds : List ℕ) → n ≤ most_number → 33 < length ds → decimal n ≡ ds → ⊥
too_many n ds l h e =
    let most = length-decimal-le_wide 33 n (omega arith) (omega arith) (omega arith) in
    let len = ap length e in omega arith

pub leading_zero : (n : ℕ) (ds : List ℕ) → n ≤ most_number → get_or ds 0 0 ≡ 48 → 1 < length ds → decimal n ≡ ds → ⊥
leading_zero n ds l z h e = at n (decimal_leads n (omega arith)) e
  where
    at : (n : ℕ) → Leads n (decimal n) → decimal n ≡ ds → ⊥
    at zero lead e = let len = ap length e in let one = lead.alone (omega arith) in omega arith
    at (suc n) lead e = let first = lead.first (omega arith) in let same : get_or (decimal (suc n)) 0 0 ≡ get_or ds 0 0 = ap (λ t. get_or t 0 0) e in omega arith

pub too_great : (n : ℕ) (ds : List ℕ) → n ≤ most_number → most_number < digits_value 10 ds → decimal n ≡ ds → ⊥
too_great n ds l h e =
    let value = (decimal_is_IsNumeral_wide n (omega arith)).1 in
    let same : digits_value 10 (decimal n) ≡ digits_value 10 ds = ap (digits_value 10) e in omega arith

-- ---- One more digit read.

-- What fewer digits than the most write has room for one more.
pub digit_fits : (i n value : ℕ) → value < 10 ^ i → i < n → n ≤ 33 → value < 10 ^ 32
digit_fits i n value small inside few = let room : 10 ^ i ≤ 10 ^ 32 = pow-le-pow_right {n = 10} (omega arith) {i = i} {j = 32} (omega arith) in omega arith

-- ---- Digits last.

pub decimal_last : (n : ℕ) → 10 ≤ n → n < 10 ^ 64 → (xs : List ℕ) → (xs ++ decimal (n / 10)) ++ (48 + n % 10) ∷ [] ≡ xs ++ decimal n
decimal_last n big small xs = rw (decimal_step_wide n big small) (append_assoc xs (decimal (n / 10)) ((48 + n % 10) ∷ []))

pub length-decimal_step : (n : ℕ) → 10 ≤ n → n < 10 ^ 64 → length (decimal n) ≡ length (decimal (n / 10)) + 1
length-decimal_step n big small = rw (decimal_step_wide n big small) (omega (arith, length-append (decimal (n / 10)) ((48 + n % 10) ∷ [])))

pub length-decimal_digit : (n : ℕ) → n < 10 → length (decimal n) ≡ 1
length-decimal_digit n l = ap length (decimal_digit n l)

-- ---- A number that bytes begin with is written by the digits that they begin with.

pub field_front : (n : ℕ) (rest : List ℕ) (k : ℕ) (bytes : List ℕ) → n ≤ most_number → IsPastDigits rest → AllDigits 10 (take k bytes) → IsPastDigits (drop k bytes)
    → decimal n ++ rest ≡ bytes → decimal n ≡ take k bytes
field_front n rest k bytes l past digits after e =
    let number = decimal_is_IsNumeral_wide n (omega arith) in
    (digits_split (decimal n) (take k bytes) rest (drop k bytes) number.0.1 digits past after (e ∙ sym (take-append-drop k bytes))).0

-- Digits, one after another.
use Rattle.std.proofs.Common.{◌≡◌, ℕ, ◌+◌, ◌*◌, ◌-◌, ◌<◌, ◌^◌, List, length, take, get_or, arith, add-one}
use Rattle.std.specs.Char.{IsAsciiDigit}
use Rattle.std.specs.Str.Parse.{digits_value}
use Rattle.std.proofs.lemmas.Int.Digits.{digits_value_more}
use Rattle.std.proofs.lemmas.Str.{digit_value_digit}

-- one more digit of a number
pub digit_more : (bs : List ℕ) (i value : ℕ) → i < length bs → IsAsciiDigit (get_or bs i 0) → value ≡ digits_value 10 (take i bs)
    → value * 10 + (get_or bs i 0 - 48) ≡ digits_value 10 (take (i + 1) bs)
digit_more bs i value inside digit e =
    let more = digits_value_more 10 bs i inside in
    let is = digit_value_digit (get_or bs i 0) digit in
    grind arith

-- A number of one more digit is below the next power of ten.
pub digit_bound : (i value digit : ℕ) → value < 10 ^ i → digit < 10 → value * 10 + digit < 10 ^ (i + 1)
digit_bound i value digit small one = rw add-one (grind arith)

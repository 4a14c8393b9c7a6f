-- The numbers of a value line are read in one way.
use Rattle.std.proofs.Common.{◌≡◌, ℕ, Bool, true, false, cond, List, [], ◌∷◌, ◌++◌, length, take, drop, get_or, Some, None, refl, sym, ◌∙◌, ap, subst, arith, inl, inr, ◌⊎◌, ⊎_elim, eqb, ◌<◌, ◌≤◌, ◌+◌, append-nil, length-drop}
use Rattle.std.specs.Fmt.{decimal}
use Rattle.std.proofs.lemmas.Bool.Decides.{nat_tests}
use Rattle.std.proofs.lemmas.List.{drop_more, take-append-drop}
use Rattle.proof_lines.specs.Lines.{most_number, IsValue, value_text}
use Rattle.proof_lines.specs.Lines.IsValue.{whole, ratio, bounds}
use Rattle.proof_lines.specs.Reading.{IsPastDigits, StandsFirst, form_between}
use Rattle.proof_lines.proofs.NumberLemmas.{decimal_split}

-- What follows the first number: nothing, or a byte that tells the form, and a number.
pub record FollowsBy (tail : List ℕ) : Type 0 where
  pub between : ℕ
  pub form : ℕ
  pub second : ℕ
  pub small : second ≤ most_number
  pub told : form_between between ≡ Some form
  pub is : tail ≡ between ∷ decimal second

abbrev pub IsTail : List ℕ → Type 0
IsTail tail = (tail ≡ []) ⊎ FollowsBy tail

-- A value's text begins with a number.
pub record Begins (bytes : List ℕ) : Type 0 where
  pub first : ℕ
  pub tail : List ℕ
  pub small : first ≤ most_number
  pub past : IsPastDigits tail
  pub follows : IsTail tail
  pub is : decimal first ++ tail ≡ bytes

pub value_begins : (ms bytes : List ℕ) → IsValue ms → value_text ms ≡ bytes → Begins bytes
value_begins ms bytes (whole {a = a} h) e = record { first = a; tail = []; small = h; past = tt; follows = inl refl; is = append-nil (decimal a) ∙ e }
value_begins ms bytes (ratio {a = a} {b = b} h k) e = record {
  first = a;
  tail = 47 ∷ decimal b;
  small = h;
  past = refl;
  follows = inr (record { between = 47; form = 1; second = b; small = k; told = refl; is = refl });
  is = e;
}
value_begins ms bytes (bounds {a = a} {b = b} h k) e = record {
  first = a;
  tail = 32 ∷ decimal b;
  small = h;
  past = refl;
  follows = inr (record { between = 32; form = 2; second = b; small = k; told = refl; is = refl });
  is = e;
}

-- The number that was read first is the value's first one, and the rest is its tail.
pub tail_is : (bytes : List ℕ) (n len : ℕ) → StandsFirst bytes n len → Begins bytes → IsTail (drop len bytes)
tail_is bytes n len s b =
    let whole_text : decimal n ++ drop len bytes ≡ bytes = ap (λ t. t ++ drop len bytes) s.text ∙ take-append-drop len bytes in
    let parts = decimal_split b.first n b.tail (drop len bytes) b.small s.small b.past s.past (b.is ∙ sym whole_text) in
    subst IsTail parts.1 b.follows

-- Where a byte follows, it tells the form, and a number follows it.
pub follows : (bytes : List ℕ) (len : ℕ) → len < length bytes → IsTail (drop len bytes) → FollowsBy (get_or bytes len 0 ∷ drop (len + 1) bytes)
follows bytes len inside t =
    let more = drop_more bytes len 0 inside in
    ⊎_elim (λ e. absurd (no_list (get_or bytes len 0) (drop (len + 1) bytes) (sym more ∙ e))) (λ f. subst FollowsBy more f) t
  where
    no_list : (c : ℕ) (cs : List ℕ) → ◌≡◌ {A = List ℕ} (c ∷ cs) [] → ⊥
    no_list c cs e = cc

pub no_form : (c : ℕ) (rest : List ℕ) → form_between c ≡ None → FollowsBy (c ∷ rest) → ⊥
no_form c rest none f = let same : c ≡ f.between = let is = f.is in cc in let told = f.told in cc

-- The second number is all that is left.
pub second_is : (c : ℕ) (rest : List ℕ) → FollowsBy (c ∷ rest) → (b : ℕ) × (b ≤ most_number) × (decimal b ≡ rest)
second_is c rest f = (f.second, f.small, let is = f.is in cc)

pub no_second : (rest : List ℕ) → ((n : ℕ) (after : List ℕ) → n ≤ most_number → IsPastDigits after → decimal n ++ after ≡ rest → ⊥) → (b : ℕ) × (b ≤ most_number) × (decimal b ≡ rest) → ⊥
no_second rest none b = none b.0 [] b.1 tt (append-nil (decimal b.0) ∙ b.2)

pub second_whole : (rest : List ℕ) (n len : ℕ) → StandsFirst rest n len → (b : ℕ) × (b ≤ most_number) × (decimal b ≡ rest) → len ≡ length rest
second_whole rest n len s b =
    let whole_text : decimal n ++ drop len rest ≡ rest = ap (λ t. t ++ drop len rest) s.text ∙ take-append-drop len rest in
    let parts = decimal_split b.0 n [] (drop len rest) b.1 s.small tt s.past (append-nil (decimal b.0) ∙ b.2 ∙ sym whole_text) in
    let none : length (drop len rest) ≡ 0 = ap length (sym parts.1) in
    let fits = s.fits in
    omega (arith, length-drop len rest)

-- ---- What was read is a value with this text.

take_all : (bytes : List ℕ) → take (length bytes) bytes ≡ bytes
take_all [] = refl
take_all (b ∷ bytes) = ap (λ t. b ∷ t) (take_all bytes)

pub first_whole : (bytes : List ℕ) (n len : ℕ) → StandsFirst bytes n len → len ≡ length bytes → decimal n ≡ bytes
first_whole bytes n len s e = s.text ∙ ap (λ k. take k bytes) e ∙ take_all bytes

pub reads_whole : (bytes : List ℕ) (n len : ℕ) → StandsFirst bytes n len → len ≡ length bytes → IsValue (0 ∷ n ∷ []) × (value_text (0 ∷ n ∷ []) ≡ bytes)
reads_whole bytes n len s e = (whole s.small, first_whole bytes n len s e)

two_texts : (a c b form : ℕ) → form_between c ≡ Some form → a ≤ most_number → b ≤ most_number
    → IsValue (form ∷ a ∷ b ∷ []) × (value_text (form ∷ a ∷ b ∷ []) ≡ decimal a ++ c ∷ decimal b)
two_texts a c b form told la lb = by_slash (eqb c 47) refl
  where
    as_ratio : form ≡ 1 → c ≡ 47 → IsValue (form ∷ a ∷ b ∷ []) × (value_text (form ∷ a ∷ b ∷ []) ≡ decimal a ++ c ∷ decimal b)
    as_ratio f k = rw (f, k) (ratio la lb, refl)

    as_bounds : form ≡ 2 → c ≡ 32 → IsValue (form ∷ a ∷ b ∷ []) × (value_text (form ∷ a ∷ b ∷ []) ≡ decimal a ++ c ∷ decimal b)
    as_bounds f k = rw (f, k) (bounds la lb, refl)

    form_is : (f g : ℕ) → Some f ≡ Some g → g ≡ f
    form_is f g e = cc

    by_space : (v : Bool) → eqb c 32 ≡ v → cond v (Some 2) None ≡ Some form → IsValue (form ∷ a ∷ b ∷ []) × (value_text (form ∷ a ∷ b ∷ []) ≡ decimal a ++ c ∷ decimal b)
    by_space true t e = as_bounds (form_is 2 form e) (grind (arith, nat_tests))
    by_space false t e = let none : None ≡ Some form = e in cc

    by_slash : (v : Bool) → eqb c 47 ≡ v → IsValue (form ∷ a ∷ b ∷ []) × (value_text (form ∷ a ∷ b ∷ []) ≡ decimal a ++ c ∷ decimal b)
    by_slash true t = let k : c ≡ 47 = grind (arith, nat_tests) in as_ratio (form_is 1 form (let e : form_between 47 ≡ Some form = rw k at told in e)) k
    by_slash false t = by_space (eqb c 32) refl (let e : cond false (Some 1) (cond (eqb c 32) (Some 2) None) ≡ Some form = rw t at told in e)

pub reads_two : (bytes : List ℕ) (n len m more form : ℕ) → StandsFirst bytes n len → len < length bytes → form_between (get_or bytes len 0) ≡ Some form
    → StandsFirst (drop (len + 1) bytes) m more → len + 1 + more ≡ length bytes → IsValue (form ∷ n ∷ m ∷ []) × (value_text (form ∷ n ∷ m ∷ []) ≡ bytes)
reads_two bytes n len m more form s inside told t all =
    let two = two_texts n (get_or bytes len 0) m form told s.small t.small in
    let end : more ≡ length (drop (len + 1) bytes) = omega (arith, length-drop (len + 1) bytes) in
    let last = first_whole (drop (len + 1) bytes) m more t end in
    let rest : drop len bytes ≡ get_or bytes len 0 ∷ decimal m = drop_more bytes len 0 inside ∙ ap (λ r. get_or bytes len 0 ∷ r) (sym last) in
    (two.0, two.1 ∙ ap (λ r. decimal n ++ r) (sym rest) ∙ ap (λ r. r ++ drop len bytes) s.text ∙ take-append-drop len bytes)

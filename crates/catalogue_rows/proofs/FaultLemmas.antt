-- First faults, among those of one row and among rows.
use Rattle.std.proofs.Common.{◌≡◌, ◌∙◌, sym, ap, refl, arith, ℕ, zero, suc, ◌+◌, ◌<◌, List, [], ◌∷◌, cond, Bool, true, false, Option, Some, None, option_map, Result, Ok, Err, IfErr, subst}
use Rattle.std.specs.Result.{IsErrAnd}
use Rattle.std.specs.Option.{option_or}
use Rattle.catalogue_rows.specs.declared.faults.Code.{Code}
use Rattle.catalogue_rows.specs.declared.faults.FileName.{FileName}
use Rattle.catalogue_rows.specs.declared.faults.InputFault.{InputFault}
use Rattle.catalogue_rows.specs.declared.faults.InputFault.TheVariants.{Fault, NoMemory}
use Rattle.catalogue_rows.specs.Faults.{OnFault, first_of, first_row_fault}

-- None of these is there.
abbrev pub AllNone : {A : Type 0} → List (Option A) → Type 0
AllNone [] = Unit {0}
AllNone (found ∷ rest) = (found ≡ None) × AllNone rest

-- Without a first one there is none.
pub all_none : {A : Type 0} (xs : List (Option A)) → first_of xs ≡ None → AllNone xs
all_none [] none = tt
all_none (None ∷ xs) none = (refl, all_none xs none)
all_none (Some x ∷ xs) none = cc

-- What is first of two is first of them and what comes after.
pub first_of_two : {A : Type 0} (a b rest : Option A) (x : A) → first_of (a ∷ b ∷ []) ≡ Some x → option_or a (option_or b rest) ≡ Some x
first_of_two None None rest x first = cc
first_of_two None (Some y) rest x first = first
first_of_two (Some y) b rest x first = first

-- What a test says that gives no fault.
pub no_fault_if : (b : Bool) (code : Code) → cond b (Some code) None ≡ None → b ≡ false
no_fault_if true code none = cc
no_fault_if false code none = refl

-- And the other way round.
pub no_fault_else : (b : Bool) (code : Code) → cond b None (Some code) ≡ None → b ≡ true
no_fault_else true code none = refl
no_fault_else false code none = cc

module _ (file : FileName) (fault_in : ℕ → Option Code) where
  -- Rows without a fault have no first one.
  no_row_fault_from : (k n : ℕ) → ((j : ℕ) → j < n → fault_in (k + j) ≡ None) → first_row_fault file fault_in k n ≡ None
  no_row_fault_from k zero none = refl
  no_row_fault_from k (suc n) none =
      let here : k + 0 ≡ k = omega arith in
      let first : fault_in k ≡ None = ap fault_in (sym here) ∙ none 0 (omega arith) in
      let next : (j : ℕ) → (k + 1) + j ≡ k + suc j = λ j. omega arith in
      rw first (no_row_fault_from (k + 1) n (λ j inside. ap fault_in (next j) ∙ none (suc j) (omega arith)))

  -- The first row with a fault gives it.
  row_fault_from : (k n i : ℕ) (code : Code) → i < n → ((j : ℕ) → j < i → fault_in (k + j) ≡ None) → fault_in (k + i) ≡ Some code
      → first_row_fault file fault_in k n ≡ Some (Fault file ((k + i) + 2) code)
  row_fault_from k zero i code inside before fault = absurd (omega arith)
  row_fault_from k (suc n) zero code inside before fault =
      let here : k + 0 ≡ k = omega arith in
      let first : fault_in k ≡ Some code = ap fault_in (sym here) ∙ fault in
      rw (first, here) refl
  row_fault_from k (suc n) (suc i) code inside before fault =
      let here : k + 0 ≡ k = omega arith in
      let first : fault_in k ≡ None = ap fault_in (sym here) ∙ before 0 (omega arith) in
      let next : (j : ℕ) → (k + 1) + j ≡ k + suc j = λ j. omega arith in
      rw first
      (row_fault_from (k + 1) n i code (omega arith) (λ j h. ap fault_in (next j) ∙ before (suc j) (omega arith)) (ap fault_in (next i) ∙ fault)
      ∙ ap (λ m. Some (Fault file (m + 2) code)) (next i))

  -- Rows without a first fault have none.
  row_clean_from : (k n i : ℕ) → first_row_fault file fault_in k n ≡ None → i < n → fault_in (k + i) ≡ None
  row_clean_from k zero i none inside = absurd (omega arith)
  row_clean_from k (suc n) i none inside = by_first (fault_in k) refl i (omega arith) none (λ j rest h. row_clean_from (k + 1) n j rest h)
    where
      by_first : (o : Option Code) → fault_in k ≡ o → (i : ℕ) → i < n + 1 → first_row_fault file fault_in k (suc n) ≡ None
          → ((j : ℕ) → first_row_fault file fault_in (k + 1) n ≡ None → j < n → fault_in ((k + 1) + j) ≡ None) → fault_in (k + i) ≡ None
      by_first (Some code) is i inside none rest = let h = rw is at none in cc
      by_first None is zero inside none rest = let here : k + 0 ≡ k = omega arith in ap fault_in here ∙ is
      by_first None is (suc j) inside none rest =
          let next : k + suc j ≡ (k + 1) + j = omega arith in
          ap fault_in next ∙ rest j (rw is at none) (omega arith)

-- The same from the first data row on.
module _ (file : FileName) (fault_in : ℕ → Option Code) (n : ℕ) where
  pub no_row_fault : ((k : ℕ) → k < n → fault_in k ≡ None) → first_row_fault file fault_in 0 n ≡ None
  no_row_fault none = no_row_fault_from file fault_in 0 n (λ j inside. let e : 0 + j ≡ j = omega arith in ap fault_in e ∙ none j inside)

  pub first_row_fault_at : (k : ℕ) (code : Code) → k < n → ((j : ℕ) → j < k → fault_in j ≡ None) → fault_in k ≡ Some code
      → first_row_fault file fault_in 0 n ≡ Some (Fault file (k + 2) code)
  first_row_fault_at k code inside before fault =
      let zero_add : (j : ℕ) → 0 + j ≡ j = λ j. omega arith in
      row_fault_from file fault_in 0 n k code inside (λ j h. ap fault_in (zero_add j) ∙ before j h) (ap fault_in (zero_add k) ∙ fault)
      ∙ ap (λ m. Some (Fault file (m + 2) code)) (zero_add k)

  -- And with it the file's, where no row before it has one.
  pub first_row_fault_of : (k : ℕ) (e : InputFault) → k < n → ((j : ℕ) → j < k → fault_in j ≡ None)
      → OnFault e (option_map (Fault file (k + 2)) (fault_in k) ≡ Some e) → OnFault e (first_row_fault file fault_in 0 n ≡ Some e)
  first_row_fault_of k NoMemory inside before fault = tt
  first_row_fault_of k (Fault other row code) inside before fault = by_fault (fault_in k) refl fault
    where
      by_fault : (o : Option Code) → fault_in k ≡ o → option_map (Fault file (k + 2)) o ≡ Some (Fault other row code)
          → first_row_fault file fault_in 0 n ≡ Some (Fault other row code)
      by_fault None is fault = cc
      by_fault (Some code) is fault = first_row_fault_at k code inside before is ∙ fault

  pub row_is_clean : (k : ℕ) → first_row_fault file fault_in 0 n ≡ None → k < n → fault_in k ≡ None
  row_is_clean k none inside =
      let zero_add : k ≡ 0 + k = omega arith in
      ap fault_in zero_add ∙ row_clean_from file fault_in 0 n k none inside

-- Want of memory says nothing.
pub no_memory : {T : Type 0} (P : InputFault → Type 0) (r : Result T InputFault) → IsErrAnd r (λ e. e ≡ NoMemory) → IfErr r (λ e. OnFault e (P e))
no_memory P (Ok x) ended = absurd ended
no_memory P (Err e) ended = subst (λ fault. OnFault fault (P fault)) (sym ended) tt

-- What stages give one after the other, for any list of stages.
use Rattle.std.proofs.Common.{◌≡◌, refl, arith, zero, suc, ℕ, ◌<◌, ◌≤◌, List, [], ◌∷◌, length, take, true, false, nat_le, Some, None, Result, Ok, Err}
use Rattle.std.specs.Prelude.{slice_get}
use Rattle.std.proofs.lemmas.Bool.Decides.{nat_tests}
use Rattle.catalogue_rows.specs.declared.faults.Code.TheVariants.{TooLarge}
use Rattle.catalogue_rows.specs.declared.faults.InputFault.{InputFault}
use Rattle.catalogue_rows.specs.declared.faults.InputFault.TheVariants.{Fault}
use Rattle.assort_core.specs.Stages.{InputsData, Stage}
use Rattle.assort_core.specs.Judged.{Files, Given, stage_given, and_given, given_by}

le_false : (n m : ℕ) → m < n → nat_le n m ≡ false
le_false n m h = grind (arith, nat_tests)

le_true : (n m : ℕ) → n ≤ m → nat_le n m ≡ true
le_true n m h = grind arith

-- A stage whose file isn't asked for gives no more.
pub unasked_given : (s : Stage) (i : InputsData) (file : Files) → s.name ≡ None → stage_given s i file ≡ Some (Ok i)
unasked_given s i file none = rw none refl

-- A file that isn't too large gives what its bytes give.
pub loaded_given : (s : Stage) (i : InputsData) (file : Files) (name bytes : List ℕ) (o : Result InputsData InputFault) → s.name ≡ Some name
    → file name ≡ Some bytes → length bytes ≤ s.most → s.outcome i bytes ≡ o → stage_given s i file ≡ Some o
loaded_given s i file name bytes o named there fits is = rw (named, there, le_true (length bytes) s.most fits, is) refl

-- One that is too large is a fault.
pub large_given : (s : Stage) (i : InputsData) (file : Files) (name bytes : List ℕ) → s.name ≡ Some name
    → file name ≡ Some bytes → s.most < length bytes → stage_given s i file ≡ Some (Err (Fault s.file 0 TooLarge))
large_given s i file name bytes named there above = rw (named, there, le_false (length bytes) s.most above) refl

-- What a first stage gave, where all of them gave something.
first_given : (g : Given) (more : InputsData → Given) (i : InputsData) → and_given g more ≡ Some (Ok i)
    → (j : InputsData) × (g ≡ Some (Ok j)) × (more j ≡ Some (Ok i))
first_given None more i e = cc
first_given (Some (Err fault)) more i e = cc
first_given (Some (Ok j)) more i e = (j, refl, e)

-- One more stage after the first k.
pub next_given : (all : List Stage) (k : ℕ) (s : Stage) (start i j : InputsData) (file : Files) → slice_get all k ≡ Some s
    → given_by (take k all) start file ≡ Some (Ok i) → stage_given s i file ≡ Some (Ok j)
    → given_by (take (suc k) all) start file ≡ Some (Ok j)
next_given [] k s start i j file at before now = cc
next_given (t ∷ all) zero s start i j file at before now =
    let same : t ≡ s = cc in
    let here : start ≡ i = cc in
    rw (same, here, now) refl
next_given (t ∷ all) (suc k) s start i j file at before now =
    let first = first_given (stage_given t start file) (λ m. given_by (take k all) m file) i before in
    rw first.1 (next_given all k s first.0 i j file at first.2 now)

-- The fault of a stage after the first k is that of all.
pub fault_given : (all : List Stage) (k : ℕ) (s : Stage) (start i : InputsData) (fault : InputFault) (file : Files) → slice_get all k ≡ Some s
    → given_by (take k all) start file ≡ Some (Ok i) → stage_given s i file ≡ Some (Err fault) → given_by all start file ≡ Some (Err fault)
fault_given [] k s start i fault file at before now = cc
fault_given (t ∷ all) zero s start i fault file at before now =
    let same : t ≡ s = cc in
    let here : start ≡ i = cc in
    rw (same, here, now) refl
fault_given (t ∷ all) (suc k) s start i fault file at before now =
    let first = first_given (stage_given t start file) (λ m. given_by (take k all) m file) i before in
    rw first.1 (fault_given all k s first.0 i fault file at first.2 now)

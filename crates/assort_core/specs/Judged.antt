-- What the files of a request give, or the first fault among them: the stages, one after the other. Own.
use Rattle.std.specs.Prelude.{◌≡◌, ℕ, Bool, List, [], ◌∷◌, length, take, Option, Some, None, option_map, Result, Ok, Err, nat_eq, nat_le, if◌then◌else◌}
use Rattle.catalogue_rows.specs.declared.faults.Code.TheVariants.{TooLarge, WrongLength}
use Rattle.catalogue_rows.specs.declared.faults.FileName.TheVariants.{Offer}
use Rattle.catalogue_rows.specs.declared.faults.InputFault.{InputFault}
use Rattle.catalogue_rows.specs.declared.faults.InputFault.TheVariants.{Fault}
use Rattle.offer_io.specs.Stores.{StoreView}
use Rattle.assort_words.specs.declared.usage.Command.{Command}
use Rattle.assort_words.specs.declared.usage.Command.TheVariants.{Solve, Check, Eval, Trial}
use Rattle.assort_words.specs.Asked.{RequestData}
use Rattle.assort_core.specs.Stages.{InputsData, no_inputs, Stage, stages, offered}

-- The content of each file, none where it isn't there.
abbrev pub Files : Type 0
Files = List ℕ → Option (List ℕ)

-- What files give, or a fault. None where a file isn't there, since its read fails.
abbrev pub Given : Type 0
Given = Option (Result InputsData InputFault)

-- What the bytes of a stage's file give over what there is. Too many are a fault of the whole file.
abbrev pub bytes_given : Stage → InputsData → List ℕ → Result InputsData InputFault
bytes_given s i bytes = if nat_le (length bytes) s.most then s.outcome i bytes else Err (Fault s.file 0 TooLarge)

-- What a stage gives over what there is: no more where its file isn't asked for.
abbrev pub stage_given : Stage → InputsData → Files → Given
stage_given s i file = from s.name
  where
    from : Option (List ℕ) → Given
    from None = Some (Ok i)
    from (Some name) = option_map (bytes_given s i) (file name)

-- What comes first and then, where it has no fault, what follows.
abbrev pub and_given : Given → (InputsData → Given) → Given
and_given None more = None
and_given (Some (Err fault)) more = Some (Err fault)
and_given (Some (Ok i)) more = more i

-- What stages give one after the other over what there is.
abbrev pub given_by : List Stage → InputsData → Files → Given
given_by [] i file = Some (Ok i)
given_by (s ∷ later) i file = and_given (stage_given s i file) (λ j. given_by later j file)

-- The assortment that a command judges, where it judges one.
abbrev pub offered_by : Command → RequestData → Option (List Bool)
offered_by Solve r = None
offered_by Check r = None
offered_by Eval r = Some (offered r)
offered_by Trial r = None

-- An assortment that is judged is as long as the catalogue.
abbrev pub offer_given : Option (List Bool) → InputsData → Given
offer_given None i = Some (Ok i)
offer_given (Some x) i = if nat_eq (length x) (length i.rows) then Some (Ok i) else Some (Err (Fault Offer 0 WrongLength))

-- What a request's files give, in the order in which they are read, where then the assortment that it offers is no fault.
abbrev pub judged : RequestData → Files → Given
judged r file = and_given (given_by (stages r) no_inputs file) (offer_given (offered_by r.command r))

-- The files of the first k stages are told and have no fault: they give this.
abbrev pub GivesBefore : ℕ → RequestData → StoreView → InputsData → Type 0
GivesBefore k r store i = given_by (take k (stages r)) no_inputs store.file ≡ Some (Ok i)

-- The files of all stages are: they give this.
abbrev pub Gives : RequestData → StoreView → InputsData → Type 0
Gives r store i = judged r store.file ≡ Some (Ok i)

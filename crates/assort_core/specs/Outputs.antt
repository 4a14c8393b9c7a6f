-- The output files of the commands: their names, the texts that they may hold, what is known of them. Own.
use Rattle.std.specs.Prelude.{◌≡◌, ℕ, List}
use Rattle.assort_core.specs.declared.output_file.Output.{Output}
use Rattle.assort_core.specs.declared.output_file.Output.TheVariants as output
use Rattle.assort_core.specs.declared.solved.Solved.{Solved}
use Rattle.assort_core.specs.declared.stop.OutputName.{OutputName}
use Rattle.assort_core.specs.declared.stop.OutputName.TheVariants as OutputName
use Rattle.assort_core.specs.Certificates.{certificate_for}
use Rattle.assort_core.specs.Solutions.{subject_of}

-- Which file it is.
abbrev pub file_of : Output → OutputName
file_of (output.Proof solved) = OutputName.Proof
file_of (output.Catalogue text) = OutputName.Catalogue

-- The texts that it may hold: certificates of what was found, or one text.
abbrev pub texts_of : Output → List ℕ → Type 0
texts_of (output.Proof solved) = (certificate_for (subject_of solved)).Written
texts_of (output.Catalogue bytes) = λ text. text ≡ bytes.items

-- What was found holds where a certificate of it is written.
abbrev pub HoldsOutput : (Solved → Type 0) → Output → Type 0
HoldsOutput holds (output.Proof solved) = holds solved
HoldsOutput holds (output.Catalogue text) = Unit {0}

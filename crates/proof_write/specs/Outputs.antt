-- What writers do to the open output. Own.
use Rattle.std.specs.Prelude.{ℕ, List, take}
use Rattle.offer_model.specs.Problems.{ProblemData}
use Rattle.offer_io.specs.Stores.{StoreView, Extends}
use Rattle.proof_lines.specs.Writing.{IsWritten}

-- The output has grown by a whole certificate of the best assortment.
abbrev pub HasWritten : ProblemData → StoreView → StoreView → Type 0
HasWritten p old new = (text : List ℕ) × IsWritten p text × Extends old text new

-- The output has grown by a part from the front of one.
abbrev pub HasWrittenPart : ProblemData → StoreView → StoreView → Type 0
HasWrittenPart p old new = (text : List ℕ) × IsWritten p text × ((n : ℕ) × Extends old (take n text) new)

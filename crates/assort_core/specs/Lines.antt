-- The lines for standard error. Own.
use Rattle.std.specs.Prelude.{ℕ, List, [], ◌++◌, slice_index_or, codes, decimal}
use Rattle.assort_words.specs.Keys.{text_of}
use Rattle.assort_words.specs.declared.usage.UsageFault.{UsageFault}
use Rattle.assort_words.specs.declared.usage.UsageCode.{UsageCode}
use Rattle.assort_words.specs.declared.usage.UsageCode.TheVariants.{NoCommand, UnknownCommand, UnknownOption, RepeatedOption, MissingValue, Nested, BadValue, MissingOption, UnusedOption, ProofIsInput}
use Rattle.catalogue_rows.specs.declared.faults.FileName.{FileName}
use Rattle.catalogue_rows.specs.declared.faults.FileName.TheVariants.{Products, Limits, Segments, Arcs, Proof as ProofFile, Offer}
use Rattle.catalogue_rows.specs.declared.faults.Code.{Code}
use Rattle.catalogue_rows.specs.declared.faults.Code.TheVariants.{BadName, BadNumber, OutOfRange, RepeatedName, UnknownName, UnknownKind, RepeatedLimit, ShadowAbove, TooManyProducts, TooManyLines, SizesTooGreat, NoArrivals, NoLeaving, UnknownColumn, RepeatedColumn, MissingColumn, FieldCount, TooLarge, WrongLength}
use Rattle.catalogue_rows.specs.ProductTables.{product_columns}
use Rattle.catalogue.specs.LimitTables.{limit_columns}
use Rattle.catalogue.specs.SegmentTables.{segment_columns}
use Rattle.arc_tables.specs.ArcTables.{arc_columns}
use Rattle.assort_core.specs.declared.stop.OutputName.{OutputName}
use Rattle.assort_core.specs.declared.stop.OutputName.TheVariants as OutputName

-- What is wrong with the words, without the place.
abbrev pub cause_text : UsageCode → List ℕ
cause_text NoCommand = codes "no command"
cause_text UnknownCommand = codes "unknown command"
cause_text UnknownOption = codes "unknown option"
cause_text RepeatedOption = codes "repeated option"
cause_text MissingValue = codes "missing value"
cause_text Nested = codes "nested logit is not supported"
cause_text BadValue = codes "bad value"
cause_text MissingOption = codes "missing option "
cause_text UnusedOption = codes "option "
cause_text ProofIsInput = codes "proof names an input"

-- The place: nothing without a command, the key that is missing or not used, else the word.
abbrev pub place_text : UsageFault → UsageCode → List ℕ
place_text f NoCommand = []
place_text f ProofIsInput = []
place_text f MissingOption = text_of f.key
place_text f UnusedOption = text_of f.key ++ codes " is not for this model"
place_text f UnknownCommand = codes " at word " ++ decimal f.word
place_text f UnknownOption = codes " at word " ++ decimal f.word
place_text f RepeatedOption = codes " at word " ++ decimal f.word
place_text f MissingValue = codes " at word " ++ decimal f.word
place_text f Nested = codes " at word " ++ decimal f.word
place_text f BadValue = codes " at word " ++ decimal f.word

-- The line for words that are refused.
abbrev pub usage_line : UsageFault → List ℕ
usage_line f = codes "assort: usage: " ++ cause_text f.code ++ place_text f f.code ++ codes "\n"

-- A file as it is named in a line.
abbrev pub file_text : FileName → List ℕ
file_text Products = codes "products"
file_text Limits = codes "limits"
file_text Segments = codes "segments"
file_text Arcs = codes "arcs"
file_text ProofFile = codes "proof"
file_text Offer = codes "offer"

-- The name of a file's column.
abbrev pub column_text : FileName → ℕ → List ℕ
column_text Products c = slice_index_or product_columns c []
column_text Limits c = slice_index_or limit_columns c []
column_text Segments c = slice_index_or segment_columns c []
column_text Arcs c = slice_index_or arc_columns c []
column_text ProofFile c = []
column_text Offer c = []

-- What is wrong with a row of a file.
abbrev pub code_text : Code → List ℕ
code_text BadName = codes "bad name"
code_text BadNumber = codes "bad number"
code_text OutOfRange = codes "out of range"
code_text RepeatedName = codes "repeated name"
code_text UnknownName = codes "unknown name"
code_text UnknownKind = codes "unknown kind"
code_text RepeatedLimit = codes "repeated limit"
code_text ShadowAbove = codes "shadow above attraction"
code_text TooManyProducts = codes "too many products"
code_text TooManyLines = codes "too many lines"
code_text SizesTooGreat = codes "sizes too great"
code_text NoArrivals = codes "no arrivals"
code_text NoLeaving = codes "no chance of leaving"
code_text UnknownColumn = codes "unknown column"
code_text RepeatedColumn = codes "repeated column"
code_text (MissingColumn c) = codes "missing column "
code_text FieldCount = codes "wrong number of fields"
code_text TooLarge = codes "file too large"
code_text WrongLength = codes "wrong length"

-- The column that is missing.
abbrev pub missing_text : FileName → Code → List ℕ
missing_text file (MissingColumn c) = column_text file c
missing_text file _ = []

-- Where it is: in a row, but for a fault of the whole.
abbrev pub row_text : ℕ → Code → List ℕ
row_text row TooLarge = []
row_text row WrongLength = []
row_text row _ = codes " row " ++ decimal row

-- The line for a fault of a file.
abbrev pub fault_line : FileName → ℕ → Code → List ℕ
fault_line file row code = codes "assort: " ++ file_text file ++ row_text row code ++ codes ": " ++ code_text code ++ missing_text file code ++ codes "\n"

-- The lines for a device that failed, and for want of memory.
abbrev pub unread_line : FileName → List ℕ
unread_line file = codes "assort: cannot read " ++ file_text file ++ codes "\n"

abbrev pub unwritten_file_line : OutputName → List ℕ
unwritten_file_line OutputName.Proof = codes "assort: cannot write proof\n"
unwritten_file_line OutputName.Catalogue = codes "assort: cannot write catalogue\n"

abbrev pub unwritten_line : List ℕ
unwritten_line = codes "assort: cannot write output\n"

abbrev pub memory_line : List ℕ
memory_line = codes "assort: out of memory\n"

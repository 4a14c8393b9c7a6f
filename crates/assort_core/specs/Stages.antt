-- The files that a request reads, as stages in the order of work: each a file, its name, and how its bytes are judged over
-- what the files before it gave. A further file is a further stage. Own.
use Rattle.std.specs.Prelude.{◌≡◌, ℕ, List, [], ◌∷◌, ◌++◌, map, Bool, Option, None, option_map, unwrap_or, Result, Ok, Err}
use Rattle.offer_model.specs.declared.products.Limit.{Limit}
use Rattle.offer_model.specs.declared.products.ModelName.{ModelName}
use Rattle.offer_model.specs.declared.products.ModelName.TheVariants.{Logit, Attract, Mixed, Chain}
use Rattle.offer_model.specs.declared.arc.Arc.{Arc}
use Rattle.offer_model.specs.Chains.{ChainData}
use Rattle.offer_model.specs.Problems.{ProblemData}
use Rattle.offer_model.specs.Validity.{HasLimits, IsPositiveAmount}
use Rattle.catalogue_rows.specs.Sizes.{most_table}
use Rattle.catalogue_rows.specs.declared.faults.FileName.{FileName}
use Rattle.catalogue_rows.specs.declared.faults.FileName.TheVariants.{Products, Limits, Segments, Arcs, Proof, Offer}
use Rattle.catalogue_rows.specs.declared.faults.InputFault.{InputFault}
use Rattle.catalogue_rows.specs.Rows.{RowData, KeepsShadows}
use Rattle.catalogue_rows.specs.ProductTables.{products_outcome}
use Rattle.catalogue.specs.LimitTables.{limits_outcome}
use Rattle.catalogue.specs.SegmentTables.{NamedSegment, segments_outcome}
use Rattle.catalogue.specs.CatalogueProblems.{FitSegments, problem_data_of}
use Rattle.arc_tables.specs.ArcTables.{arcs_outcome, chain_data_of}
use Rattle.assort_words.specs.declared.usage.Command.{Command}
use Rattle.assort_words.specs.declared.usage.Command.TheVariants.{Solve, Check, Eval, Trial}
use Rattle.assort_words.specs.Asked.{RequestData, asked_model, asked_products, asked_limits, asked_segments, asked_arcs, asked_none, asked_away, asked_unit, asked_scale, asked_proof, asked_offer, asked_seed, asked_count}
use Rattle.assort_words.specs.Offers.{offered_of}

-- What the files give: the catalogue's rows, the limits, the segments, the arcs, the text of a proof that is checked. A part
-- whose file isn't asked for is empty.
pub record InputsData : Type 0 where
  pub rows : List RowData
  pub limits : List Limit
  pub segments : List NamedSegment
  pub arcs : List Arc
  pub proof : List ℕ

-- What there is before any file.
abbrev pub no_inputs : InputsData
no_inputs = record { rows = []; limits = []; segments = []; arcs = []; proof = [] }

-- A file that is read where it has a name, how many bytes it may have, and what its bytes give over what there is.
pub record Stage : Type 0 where
  pub file : FileName
  pub name : Option (List ℕ)
  pub most : ℕ
  pub outcome : InputsData → List ℕ → Result InputsData InputFault

-- What there is, with what a file gave.
abbrev pub with_part : {A : Type 0} → Result A InputFault → (A → InputsData) → Result InputsData InputFault
with_part (Ok a) put = Ok (put a)
with_part (Err fault) put = Err fault

-- The model of a request.
abbrev pub model_asked : RequestData → ModelName
model_asked r = unwrap_or (asked_model r) Logit

-- The unit where none is given: a hundredth of a margin unit.
abbrev pub usual_unit : ℕ
usual_unit = 100

abbrev pub unit_under : ModelName → Option ℕ → ℕ
unit_under Logit unit = 1
unit_under Attract unit = 1
unit_under Mixed unit = unwrap_or unit usual_unit
unit_under Chain unit = 1

-- The unit of a request: what a segment's revenue is rounded down to under mixed logit, else 1.
abbrev pub unit_of : RequestData → ℕ
unit_of r = unit_under (model_asked r) (asked_unit r)

-- The weight of the customers of a chain who arrive at no product.
abbrev pub away_of : RequestData → ℕ
away_of r = unwrap_or (asked_away r) 0

-- The parts in which a chain counts the customers at a product. They are given wherever there is a chain.
abbrev pub scale_of : RequestData → ℕ
scale_of r = unwrap_or (asked_scale r) 1

-- The weight of buying nothing. It is given wherever the model has one for all customers.
abbrev pub none_of : RequestData → ℕ
none_of r = unwrap_or (asked_none r) 1

-- The assortment that is offered, in the catalogue's order. It is given wherever one is judged.
abbrev pub offered : RequestData → List Bool
offered r = unwrap_or (option_map offered_of (asked_offer r)) []

-- The seed and the number of products of trial inputs. They are given wherever such are made.
abbrev pub seed_of : RequestData → ℕ
seed_of r = unwrap_or (asked_seed r) 0

abbrev pub count_of : RequestData → ℕ
count_of r = unwrap_or (asked_count r) 0

-- ---- The stages.

-- The tables that a problem may have, in the order of work.
abbrev pub problem_tables : List FileName
problem_tables = Products ∷ Limits ∷ Segments ∷ []

-- The tables that a request may name, in the order of work.
abbrev pub tables : List FileName
tables = Products ∷ Limits ∷ Segments ∷ Arcs ∷ []

-- The name of a table, where the request gives one.
abbrev pub table_name : FileName → RequestData → Option (List ℕ)
table_name Products r = asked_products r
table_name Limits r = asked_limits r
table_name Segments r = asked_segments r
table_name Arcs r = asked_arcs r
table_name Proof r = None
table_name Offer r = None

-- What the bytes of a table give over what there is.
abbrev pub table_outcome : FileName → RequestData → InputsData → List ℕ → Result InputsData InputFault
table_outcome Products r i bytes = with_part (products_outcome (model_asked r) bytes) (λ rows. record i { rows = rows })
table_outcome Limits r i bytes = with_part (limits_outcome i.rows bytes) (λ limits. record i { limits = limits })
table_outcome Segments r i bytes = with_part (segments_outcome i.rows (unit_of r) bytes) (λ segments. record i { segments = segments })
table_outcome Arcs r i bytes = with_part (arcs_outcome i.rows (scale_of r) bytes) (λ arcs. record i { arcs = arcs })
table_outcome Proof r i bytes = Ok i
table_outcome Offer r i bytes = Ok i

abbrev pub table_stage : RequestData → FileName → Stage
table_stage r file = record { file = file; name = table_name file r; most = most_table; outcome = table_outcome file r }

-- The proof that a command reads, where it reads one.
abbrev pub read_proof : Command → RequestData → Option (List ℕ)
read_proof Solve r = None
read_proof Check r = asked_proof r
read_proof Eval r = None
read_proof Trial r = None

-- The most bytes of a proof that is checked.
abbrev pub most_proof : ℕ
most_proof = 268435456

-- A proof's bytes are no fault, whatever they are.
abbrev pub proof_stage : RequestData → Stage
proof_stage r = record {
  file = Proof;
  name = read_proof r.command r;
  most = most_proof;
  outcome = λ i bytes. Ok (record i { proof = bytes });
}

-- No table is named.
pub record NamesNoTable (r : RequestData) : Type 0 where
  pub products : asked_products r ≡ None
  pub limits : asked_limits r ≡ None
  pub segments : asked_segments r ≡ None
  pub arcs : asked_arcs r ≡ None

-- The stages of a request, in the order of work.
abbrev pub stages : RequestData → List Stage
stages r = map (table_stage r) tables ++ proof_stage r ∷ []

-- ---- What they make.

-- The problem of a request over what its files give.
abbrev pub asked_problem : RequestData → InputsData → ProblemData
asked_problem r i = problem_data_of i.rows (model_asked r) (none_of r) (unit_of r) i.segments i.limits

-- The chain of a request over what its files give.
abbrev pub asked_chain : RequestData → InputsData → ChainData
asked_chain r i = chain_data_of i.rows (scale_of r) (away_of r) i.arcs

-- What the tables give makes a problem: each reader answers only what may stand in one.
pub record FitTogether (r : RequestData) (i : InputsData) : Type 0 where
  pub shadows : model_asked r ≡ Attract → KeepsShadows i.rows
  pub limits : (model : ModelName) (none unit : ℕ) (segments : List NamedSegment) → HasLimits (problem_data_of i.rows model none unit segments i.limits)
  pub segments : IsPositiveAmount (unit_of r) → FitSegments i.rows (unit_of r) i.segments

-- What the tables of a request give is its subject: a problem from its tables, a chain from its products and arcs.
use Rattle.std.proofs.Common.{◌≡◌, ◌≢◌, refl, sym, subst, ap, ℕ, ◌≤◌, List, length, Some, None, Ok, Err, IsTrue}
use Rattle.std.proofs.lemmas.List.{length-map}
use Rattle.offer_model.specs.declared.products.ModelName.{ModelName}
use Rattle.offer_model.specs.declared.products.ModelName.TheVariants.{Logit, Attract, Mixed, Chain}
use Rattle.offer_model.specs.declared.arc.Arc.{Arc}
use Rattle.offer_model.specs.Problems.{ProblemData}
use Rattle.offer_model.specs.Chains.{ChainData, place_count}
use Rattle.offer_io.specs.Stores.{StoreView}
use Rattle.catalogue_rows.specs.Sizes.{most_table}
use Rattle.catalogue_rows.specs.declared.faults.FileName.TheVariants.{Products, Limits, Segments, Arcs}
use Rattle.catalogue_rows.specs.declared.faults.InputFault.{InputFault}
use Rattle.catalogue_rows.specs.Faults.{OnFault}
use Rattle.catalogue_rows.specs.Rows.{RowData}
use Rattle.catalogue_rows.specs.ProductTables.{products_outcome}
use Rattle.arc_tables.specs.ArcTables.{arcs_outcome, chain_data_of}
use Rattle.assort_words.specs.Asked.{RequestData, asked_products, asked_limits, asked_segments, asked_arcs}
use Rattle.assort_core.specs.declared.stop.Stop.{Stop}
use Rattle.assort_core.specs.declared.subject.Subject.TheVariants as S
use Rattle.assort_core.specs.Stages.{InputsData, no_inputs, problem_tables, table_stage, model_asked, scale_of, away_of, asked_problem}
use Rattle.assort_core.specs.Judged.{GivesBefore}
use Rattle.assort_core.specs.Subjects.{subject_under, GivesSubject}
use Rattle.assort_core.specs.Stops.{WhyStopped, WhyUnloaded, stop_by}
use Rattle.assort_core.proofs.InputLemmas.{part_faulty, part_given, stage_read, stage_refused, stage_unasked, stage_unloaded}

-- ---- A problem.

problem_subject : (m : ModelName) (r : RequestData) (i : InputsData) → m ≢ Chain → S.Problem i.rows (asked_problem r i) ≡ subject_under m r i
problem_subject Logit r i known = refl
problem_subject Attract r i known = refl
problem_subject Mixed r i known = refl
problem_subject Chain r i known = absurd (known refl)

-- Its tables give the problem, where no arcs are asked for.
pub problem_given : (r : RequestData) (old : StoreView) (i : InputsData) (rows : List RowData) (p : ProblemData) → model_asked r ≢ Chain → asked_arcs r ≡ None
    → (IsTrue old.tells → GivesBefore (length problem_tables) r old i) → rows ≡ i.rows → p ≡ asked_problem r i → IsTrue old.tells → GivesSubject r old (S.Problem rows p)
problem_given r old i rows p known none before same is told =
    (i, stage_unasked (length problem_tables) (table_stage r Arcs) r old i refl none (before told), rw (same, is) (problem_subject (model_asked r) r i known))

-- ---- The catalogue of a chain.

-- The products, as the first table.
pub catalogue_given : (r : RequestData) (old : StoreView) (name bytes : List ℕ) (rows : List RowData) → model_asked r ≡ Chain → asked_products r ≡ Some name
    → old.file name ≡ Some bytes → length bytes ≤ most_table → products_outcome Chain bytes ≡ Ok rows → GivesBefore 1 r old (record no_inputs { rows = rows })
catalogue_given r old name bytes rows chain named there fits is =
    stage_read 0 (table_stage r Products) r old no_inputs (record no_inputs { rows = rows }) name bytes refl named refl there fits
    (part_given rows (products_outcome (model_asked r) bytes) (λ (found : List RowData). record no_inputs { rows = found }) (rw chain is))

pub catalogue_unloaded : (stop : Stop) (r : RequestData) (old new : StoreView) (name : List ℕ) → asked_products r ≡ Some name
    → WhyUnloaded Products name most_table old new stop → WhyStopped r old new stop
catalogue_unloaded stop r old new name named why = stage_unloaded stop 0 (table_stage r Products) r old new name refl named (λ told. (no_inputs, refl)) why

pub catalogue_refused : (e : InputFault) (r : RequestData) (old new : StoreView) (name bytes : List ℕ) → model_asked r ≡ Chain → asked_products r ≡ Some name
    → (IsTrue old.tells → old.file name ≡ Some bytes) → length bytes ≤ most_table → OnFault e (products_outcome Chain bytes ≡ Err e) → WhyStopped r old new (stop_by e)
catalogue_refused e r old new name bytes chain named there fits is =
    stage_refused e 0 (table_stage r Products) r old new no_inputs name bytes refl named (λ told. refl) there fits
    (part_faulty e (products_outcome (model_asked r) bytes) (λ (found : List RowData). record no_inputs { rows = found })
    (subst (λ m. OnFault e (products_outcome m bytes ≡ Err e)) (sym chain) is))

-- Neither limits nor segments are asked for.
pub catalogue_alone : (r : RequestData) (old : StoreView) (i : InputsData) → asked_limits r ≡ None → asked_segments r ≡ None
    → GivesBefore 1 r old i → GivesBefore 3 r old i
catalogue_alone r old i limits segments before =
    stage_unasked 2 (table_stage r Segments) r old i refl segments (stage_unasked 1 (table_stage r Limits) r old i refl limits before)

-- ---- Its arcs.

-- The arcs, after the tables before them.
pub arcs_given : (r : RequestData) (old : StoreView) (name bytes : List ℕ) (rows : List RowData) (scale : ℕ) (arcs : List Arc) → scale ≡ scale_of r → asked_arcs r ≡ Some name
    → old.file name ≡ Some bytes → length bytes ≤ most_table → arcs_outcome rows scale bytes ≡ Ok arcs
    → GivesBefore 3 r old (record no_inputs { rows = rows }) → GivesBefore 4 r old (record no_inputs { rows = rows; arcs = arcs })
arcs_given r old name bytes rows scale arcs under named there fits is before =
    stage_read 3 (table_stage r Arcs) r old (record no_inputs { rows = rows }) (record no_inputs { rows = rows; arcs = arcs }) name bytes refl named before there fits
    (part_given arcs (arcs_outcome rows (scale_of r) bytes) (λ (found : List Arc). record no_inputs { rows = rows; arcs = found }) (rw under at is))

pub arcs_unloaded : (stop : Stop) (r : RequestData) (old new : StoreView) (rows : List RowData) (name : List ℕ) → asked_arcs r ≡ Some name
    → (IsTrue old.tells → GivesBefore 3 r old (record no_inputs { rows = rows }))
    → WhyUnloaded Arcs name most_table old new stop → WhyStopped r old new stop
arcs_unloaded stop r old new rows name named before why =
    stage_unloaded stop 3 (table_stage r Arcs) r old new name refl named (λ told. (record no_inputs { rows = rows }, before told)) why

pub arcs_refused : (e : InputFault) (r : RequestData) (old new : StoreView) (rows : List RowData) (scale : ℕ) (name bytes : List ℕ) → scale ≡ scale_of r → asked_arcs r ≡ Some name
    → (IsTrue old.tells → old.file name ≡ Some bytes) → length bytes ≤ most_table → OnFault e (arcs_outcome rows scale bytes ≡ Err e)
    → (IsTrue old.tells → GivesBefore 3 r old (record no_inputs { rows = rows })) → WhyStopped r old new (stop_by e)
arcs_refused e r old new rows scale name bytes under named there fits is before =
    stage_refused e 3 (table_stage r Arcs) r old new (record no_inputs { rows = rows }) name bytes refl named before there fits
    (part_faulty e (arcs_outcome rows (scale_of r) bytes) (λ (found : List Arc). record no_inputs { rows = rows; arcs = found })
    (subst (λ q. OnFault e (arcs_outcome rows q bytes ≡ Err e)) under is))

-- ---- The chain.

-- The chain of a catalogue has its products.
pub chain_rows : (rows : List RowData) (scale away : ℕ) (arcs : List Arc) → place_count (chain_data_of rows scale away arcs) ≡ length rows
chain_rows rows scale away arcs = length-map rows (λ (row : RowData). row.product.margin)

pub chain_given : (r : RequestData) (old : StoreView) (rows : List RowData) (c : ChainData) → model_asked r ≡ Chain
    → c ≡ chain_data_of rows (scale_of r) (away_of r) c.arcs → GivesBefore 4 r old (record no_inputs { rows = rows; arcs = c.arcs })
    → GivesSubject r old (S.Chain rows c)
chain_given r old rows c chain is before =
    (record no_inputs { rows = rows; arcs = c.arcs }, before, rw chain (ap (S.Chain rows) is))

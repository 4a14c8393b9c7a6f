-- What the tables of a request give, one after the other.
use Rattle.std.proofs.Common.{◌≡◌, ◌≢◌, ◌∙◌, refl, sym, subst, arith, zero, suc, ℕ, ◌+◌, ◌<◌, ◌≤◌, List, length, Some, Ok, Err, IsTrue}
use Rattle.std.specs.Prelude.{slice_get, slice_index_or}
use Rattle.std.proofs.lemmas.List.Elements.{All-nil}
use Rattle.offer_model.specs.declared.products.ModelName.{ModelName}
use Rattle.offer_io.specs.Stores.{StoreView, Passes}
use Rattle.catalogue_rows.specs.declared.faults.FileName.{FileName}
use Rattle.catalogue_rows.specs.declared.faults.FileName.TheVariants.{Products, Arcs}
use Rattle.catalogue_rows.specs.declared.faults.InputFault.{InputFault}
use Rattle.catalogue_rows.specs.declared.faults.InputFault.TheVariants.{Fault}
use Rattle.catalogue_rows.specs.declared.faults.InputFault.TheVariants as fault
use Rattle.catalogue_rows.specs.Faults.{OnFault}
use Rattle.catalogue_rows.specs.Rows.{RowData}
use Rattle.catalogue_rows.specs.ProductTables.{products_outcome}
use Rattle.catalogue.specs.SegmentTables.{NamedSegment}
use Rattle.catalogue.specs.CatalogueProblems.{FitSegments}
use Rattle.assort_words.specs.Asked.{RequestData}
use Rattle.assort_core.specs.declared.stop.Stop.{Stop}
use Rattle.assort_core.specs.Stages.{InputsData, no_inputs, problem_tables, table_outcome, table_stage, stages, model_asked, unit_of, FitTogether}
use Rattle.assort_core.specs.Judged.{Files, stage_given, GivesBefore}
use Rattle.assort_core.specs.Stops.{WhyStopped}
use Rattle.assort_core.proofs.StageLemmas.{next_given}
use Rattle.assort_core.proofs.InputLemmas.{same_files, gives_later, later_stop}

-- ---- One table.

-- A fault of the products file, by the request's model.
pub products_faulty : (e : InputFault) (file : FileName) (r : RequestData) (m : ModelName) (i : InputsData) (bytes : List ℕ) → file ≡ Products → m ≡ model_asked r
    → OnFault e (products_outcome m bytes ≡ Err e) → OnFault e (table_outcome file r i bytes ≡ Err e)
products_faulty (Fault f row code) file r m i bytes there under is =
    let faulty : products_outcome (model_asked r) bytes ≡ Err (Fault f row code) = subst (λ n. products_outcome n bytes ≡ Err (Fault f row code)) under is in
    rw (there, faulty) refl
products_faulty fault.NoMemory file r m i bytes there under is = tt

-- Its rows, by the request's model.
pub products_put : (file : FileName) (r : RequestData) (m : ModelName) (i : InputsData) (bytes : List ℕ) (rows : List RowData) → file ≡ Products → m ≡ model_asked r
    → products_outcome m bytes ≡ Ok rows → table_outcome file r i bytes ≡ Ok (record i { rows = rows })
products_put file r m i bytes rows there under is =
    let given : products_outcome (model_asked r) bytes ≡ Ok rows = subst (λ n. products_outcome n bytes ≡ Ok rows) under is in
    rw (there, given) refl

-- Segments that fit the rows fit with what there is.
pub segments_fit : (r : RequestData) (i : InputsData) (unit : ℕ) (segments : List NamedSegment) → unit ≡ unit_of r → FitTogether r i
    → FitSegments i.rows unit segments → FitTogether r (record i { segments = segments })
segments_fit r i unit segments under h f = record {
  shadows = h.shadows;
  limits = h.limits;
  segments = λ positive. subst (λ u. FitSegments i.rows u segments) under f;
}

-- ---- The tables before one.

-- Before any table there is nothing that could not stand together.
pub fit_none : (r : RequestData) → FitTogether r no_inputs
fit_none r = record {
  shadows = λ attract. All-nil (λ (row : RowData). row.shadow ≤ row.attraction);
  limits = λ model none unit segments. record { few = omega arith; few_requires = omega arith; in_range = All-nil _; named = All-nil _; once = λ i j d below inside. absurd (omega (arith, inside)) };
  segments = λ positive. record { in_range = positive; few = omega arith; ranges = All-nil _; each = All-nil _; plain = All-nil _; sizes = omega arith };
}

-- The stage of each table, in their order.
pub table_at : (r : RequestData) (k : ℕ) → k < length problem_tables → slice_get (stages r) k ≡ Some (table_stage r (slice_index_or problem_tables k Products))
table_at r zero inside = refl
table_at r (suc zero) inside = refl
table_at r (suc (suc zero)) inside = refl
table_at r (suc (suc (suc k))) inside = absurd (omega (arith, inside))

-- The products file is the first.
products_first : (k : ℕ) → k < length problem_tables → slice_index_or problem_tables k Products ≡ Products → k ≡ 0
products_first zero inside e = refl
products_first (suc zero) inside e = absurd (cc)
products_first (suc (suc zero)) inside e = absurd (cc)
products_first (suc (suc (suc k))) inside e = absurd (omega (arith, inside))

-- The first k tables were read.
pub record IsReading (r : RequestData) (old now : StoreView) (k : ℕ) (i : InputsData) : Type 0 where
  pub passes : Passes old now
  pub fit : FitTogether r i
  pub given : IsTrue old.tells → GivesBefore k r old i
  pub first : k ≡ 0 → i ≡ no_inputs

pub reading_start : (r : RequestData) (store : StoreView) (i : InputsData) → i ≡ no_inputs → IsReading r store store 0 i
reading_start r store i e = record {
  passes = record {
    files = λ told. record { file = refl; output = refl };
    writing = refl;
    later = omega arith;
    stays = record { tells = refl; steady = refl; held = refl };
  };
  fit = subst (FitTogether r) (sym e) (fit_none r);
  given = λ told. subst (λ (j : InputsData). GivesBefore 0 r store j) (sym e) refl;
  first = λ zero. e;
}

-- No table of a problem is that of arcs.
pub no_arcs_table : (k : ℕ) → k < length problem_tables → slice_index_or problem_tables k Products ≢ Arcs
no_arcs_table zero inside e = absurd (cc)
no_arcs_table (suc zero) inside e = absurd (cc)
no_arcs_table (suc (suc zero)) inside e = absurd (cc)
no_arcs_table (suc (suc (suc k))) inside e = absurd (omega (arith, inside))

-- Before the products file there is nothing.
pub reading_first : (r : RequestData) (old now : StoreView) (k : ℕ) (i : InputsData) → IsReading r old now k i → k < length problem_tables
    → slice_index_or problem_tables k Products ≡ Products → i ≡ no_inputs
reading_first r old now k i h inside e = h.first (products_first k inside e)

passes_both : (old mid new : StoreView) → Passes old mid → Passes mid new → Passes old new
passes_both old mid new p q = record {
  files = λ told.
      let one = p.files told in
      let two = q.files (rw p.stays.tells told) in
      record { file = two.file ∙ one.file; output = two.output ∙ one.output };
  writing = q.writing ∙ p.writing;
  later = let one = p.later in let two = q.later in omega arith;
  stays = record { tells = q.stays.tells ∙ p.stays.tells; steady = q.stays.steady ∙ p.stays.steady; held = q.stays.held ∙ p.stays.held };
}

-- One more table was read.
pub reading_more : (r : RequestData) (old mid new : StoreView) (k : ℕ) (i j : InputsData) → IsReading r old mid k i → k < length problem_tables → Passes mid new
    → (IsTrue mid.tells → stage_given (table_stage r (slice_index_or problem_tables k Products)) i mid.file ≡ Some (Ok j)) → FitTogether r j → IsReading r old new (k + 1) j
reading_more r old mid new k i j h inside passes now fit = record {
  passes = passes_both old mid new h.passes passes;
  fit = fit;
  given = λ told.
      let here : stage_given (table_stage r (slice_index_or problem_tables k Products)) i old.file ≡ Some (Ok j) =
      subst (λ (file : Files). stage_given (table_stage r (slice_index_or problem_tables k Products)) i file ≡ Some (Ok j)) (same_files old mid h.passes told) (now (rw h.passes.stays.tells told)) in
      let e : k + 1 ≡ suc k = omega arith in
      rw e (next_given (stages r) k (table_stage r (slice_index_or problem_tables k Products)) no_inputs i j old.file (table_at r k inside) (h.given told) here);
  first = λ zero. absurd (omega (arith, zero));
}

-- Why a table stops a run.
pub reading_stopped : (stop : Stop) (r : RequestData) (old mid new : StoreView) (k : ℕ) (i : InputsData) → IsReading r old mid k i → k < length problem_tables
    → ((n : ℕ) → slice_get (stages r) n ≡ Some (table_stage r (slice_index_or problem_tables k Products)) → (IsTrue mid.tells → GivesBefore n r mid i) → WhyStopped r mid new stop)
    → WhyStopped r old new stop
reading_stopped stop r old mid new k i h inside why =
    later_stop stop r old mid new h.passes (why k (table_at r k inside) (gives_later k r old mid i h.passes h.given))

-- All tables were read.
pub reading_all : (r : RequestData) (old now : StoreView) (k : ℕ) (i : InputsData) → IsReading r old now k i → k ≡ length problem_tables
    → IsTrue old.tells → GivesBefore (length problem_tables) r old i
reading_all r old now k i h all told = subst (λ n. GivesBefore n r old i) all (h.given told)

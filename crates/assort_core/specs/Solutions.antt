-- What is found for a subject. Own.
use Rattle.std.specs.Prelude.{◌≡◌}
use Rattle.offer_model.specs.Problems.{ProblemData, product_count}
use Rattle.offer_model.specs.Best.{IsBest}
use Rattle.offer_model.specs.Chains.{place_count}
use Rattle.offer_model.specs.Claims.{IsBracketed}
use Rattle.offer_model.specs.Stopping.{IsStopping}
use Rattle.std.specs.Prelude.{List, length}
use Rattle.catalogue_rows.specs.Rows.{RowData}
use Rattle.assort_core.specs.declared.optimum.Method.{Method}
use Rattle.assort_core.specs.declared.subject.Subject.{Subject}
use Rattle.assort_core.specs.declared.subject.Subject.TheVariants as S
use Rattle.assort_core.specs.declared.solved.Solved.{Solved}
use Rattle.assort_core.specs.declared.solved.Solved.TheVariants.{Best, Bounds}

-- The subject has as many products as its catalogue.
abbrev pub HasRows : Subject → Type 0
HasRows (S.Problem rows p) = product_count p ≡ length rows
HasRows (S.Chain rows c) = place_count c ≡ length rows

-- The subject for which something was found.
abbrev pub subject_of : Solved → Subject
subject_of (Best rows p best method) = S.Problem rows p
subject_of (Bounds rows c stopping) = S.Chain rows c

-- Its catalogue.
abbrev pub rows_of : Solved → List RowData
rows_of (Best rows p best method) = rows
rows_of (Bounds rows c stopping) = rows

-- The assortment is the best, and the method is one for its problem; or the chain's set, vectors and bounds are its own.
abbrev pub HoldsBy : (Method → ProblemData → Type 0) → Solved → Type 0
HoldsBy fits (Best rows p best method) = IsBest p best × fits method p
HoldsBy fits (Bounds rows c stopping) = IsStopping c stopping × IsBracketed c stopping.set stopping.lo stopping.up

use Rattle.assort_core.proofs.TableLemmas.{IsReading}
use Rattle.assort_core.proofs.inputs.read_tables.Given as goal

abbrev pub invariant-loop-k : goal.invariant-loop-k
invariant-loop-k g l = record {
  reading : IsReading l.task (g.S.Store.view l.fn.store) (g.S.Store.view l.store) l.k l.tables;
}

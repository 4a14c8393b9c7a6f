use Rattle.assort_core.proofs.TableLemmas.{no_arcs_table, reading_first, reading_more, reading_stopped}
use Rattle.assort_core.proofs.inputs.read_tables.Goals as goal

pub read_table-requires-clause-first : goal.read_table-requires-clause-first
read_table-requires-clause-first g c =
    reading_first c.args.task.now (g.S.Store.view c.args.store.now) (g.S.Store.view c.loop-k.store) c.loop-k.k c.loop-k.tables c.loop-k.invariant.reading c.loop-k-test.true

pub read_table-requires-clause-known : goal.read_table-requires-clause-known
read_table-requires-clause-known g c = no_arcs_table c.loop-k.k c.loop-k-test.true

pub returns-in-Err-clause-stopped : goal.returns-in-Err-clause-stopped
returns-in-Err-clause-stopped g c =
    reading_stopped c.in-Err.stop c.args.task.now (g.S.Store.view c.args.store.now) (g.S.Store.view c.loop-k.store) (g.S.Store.view c.read_table.new.store)
    c.loop-k.k c.loop-k.tables c.loop-k.invariant.reading c.loop-k-test.true c.in-Err.ensures.stopped

pub loop-k-preserved : goal.loop-k-preserved
loop-k-preserved g c = record {
  reading = reading_more c.args.task.now (g.S.Store.view c.args.store.now) (g.S.Store.view c.loop-k.store) (g.S.Store.view c.read_table.new.store)
      c.loop-k.k c.loop-k.tables c.read_table.new.tables c.loop-k.invariant.reading c.loop-k-test.true c.in-Ok.ensures.passes c.in-Ok.ensures.given c.in-Ok.ensures.fit;
}

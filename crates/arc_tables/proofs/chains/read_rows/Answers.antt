use Rattle.std.proofs.Common.{◌≡◌, ◌∙◌, ap, subst, ◌<◌, length, Some, None, below_more, rules, arith}
use Rattle.offer_model.specs.declared.ranges.TheConstants.{MOST_ARCS}
use Rattle.catalogue_rows.specs.declared.faults.FileName.TheVariants.{Arcs}
use Rattle.catalogue_rows.proofs.FaultLemmas.{no_row_fault, first_row_fault_at}
use Rattle.arc_tables.specs.ArcTables.{arc_fault, stated_arc}
use Rattle.arc_tables.proofs.ArcLemmas.{below_most_arcs}
use Rattle.arc_tables.proofs.ArcStepLemmas.{from_in, to_in, sum_below_scale, seen_more}
use Rattle.arc_tables.proofs.chains.read_rows.Goals as goal

pub returns-in-Err-clause-fault : goal.returns-in-Err-clause-fault
returns-in-Err-clause-fault c =
    let rows = c.args.rows.now in
    let table = c.args.table.now in
    first_row_fault_at Arcs (arc_fault rows c.args.scale table) (length table.records) c.rows.k c.in-Err.code (omega arith) c.rows.invariant.clean
    (subst (λ products. arc_fault products c.args.scale table c.rows.k ≡ Some c.in-Err.code) c.in_ok-products.ensures c.in-Err.ensures.fault)

pub put-requires : goal.put-requires
put-requires c =
    let rows = c.args.rows.now in
    let table = c.args.table.now in
    let k = c.rows.k in
    let clean : arc_fault rows c.args.scale table k ≡ None
    = subst (λ products. arc_fault products c.args.scale table k ≡ None) c.in_ok-products.ensures c.in-Ok.ensures.sound in
    let stated : c.in-Ok.arc ≡ stated_arc rows table k
    = c.in-Ok.ensures.arc ∙ ap (λ products. stated_arc products table k) c.in_ok-products.ensures in
    let was = c.rows.invariant.seen in
    record {
      count = search rules;
      from = omega (arith, from_in rows c.args.scale table k c.rows.seen was clean c.in-Ok.arc stated, was.count);
      to = omega (arith, to_in rows c.args.scale table k c.rows.seen was clean c.in-Ok.arc stated, was.count);
      pairs = search rules;
      parts = search rules;
      spare = omega (arith, c.rows.invariant.room, below_most_arcs rows c.args.scale table k clean);
      small = omega (arith, sum_below_scale rows c.args.scale table k c.rows.seen was clean c.in-Ok.arc stated);
    }

pub rows-preserved : goal.rows-preserved
rows-preserved c =
    let rows = c.args.rows.now in
    let table = c.args.table.now in
    let k = c.rows.k in
    let clean : arc_fault rows c.args.scale table k ≡ None
    = subst (λ products. arc_fault products c.args.scale table k ≡ None) c.in_ok-products.ensures c.in-Ok.ensures.sound in
    let stated : c.in-Ok.arc ≡ stated_arc rows table k
    = c.in-Ok.ensures.arc ∙ ap (λ products. stated_arc products table k) c.in_ok-products.ensures in
    let below : k < MOST_ARCS = below_most_arcs rows c.args.scale table k clean in
    record {
      few = omega arith;
      clean = below_more _ _ c.rows.invariant.clean clean;
      seen = seen_more rows c.args.scale table k c.rows.seen c.rows.invariant.seen clean c.in-Ok.arc stated c.put.new.self
          c.put.ensures.count c.put.ensures.arcs c.put.ensures.pairs c.put.ensures.parts;
      room = omega (arith, c.rows.invariant.room, c.put.ensures.spare);
    }

pub returns-clause-sound : goal.returns-clause-sound
returns-clause-sound c =
    let table = c.args.table.now in
    no_row_fault Arcs (arc_fault c.args.rows.now c.args.scale table) (length table.records) (λ k inside. c.rows.invariant.clean k (omega arith))

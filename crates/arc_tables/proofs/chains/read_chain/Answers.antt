use Rattle.std.proofs.Common.{◌≡◌, subst, None, length}
use Rattle.catalogue_rows.specs.declared.faults.FileName.TheVariants.{Arcs}
use Rattle.catalogue_rows.specs.Faults.{first_row_fault}
use Rattle.catalogue_rows.proofs.FaultLemmas.{row_is_clean}
use Rattle.arc_tables.specs.ArcTables.{arc_fault}
use Rattle.arc_tables.proofs.ArcChainLemmas.{rows_make_chain}
use Rattle.arc_tables.proofs.chains.read_chain.Goals as goal

pub new-requires : goal.new-requires
new-requires c =
    let rows = c.args.c.now in
    let table = c.in-Ok.table in
    let n = length table.records in
    let sound : first_row_fault Arcs (arc_fault rows c.args.scale table) 0 n ≡ None
    = subst (λ found. first_row_fault Arcs (arc_fault found c.args.scale table) 0 n ≡ None) c.rows.ensures.value c.in_ok-arcs.ensures.sound in
    rw (c.in_ok-arcs.ensures.arcs, c.in_ok-margins.ensures, c.in_ok-arrivals.ensures, c.rows.ensures.value, c.rows-2.ensures.value, c.rows-3.ensures.value)
    (rows_make_chain rows c.args.scale table n (λ k inside. row_is_clean Arcs (arc_fault rows c.args.scale table) n k sound inside) c.args.away
    c.rows.ensures.valid c.requires.scale.0 c.requires.scale.1 c.requires.away c.requires.arrive)

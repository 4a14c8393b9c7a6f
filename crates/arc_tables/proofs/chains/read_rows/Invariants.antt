use Rattle.std.proofs.Common.{◌≡◌, ◌+◌, ◌≤◌, ◌<◌, ℕ, None, length, min}
use Rattle.offer_model.specs.declared.ranges.TheConstants.{MOST_ARCS}
use Rattle.arc_tables.specs.ArcTables.{arc_fault}
use Rattle.arc_tables.specs.SeenArcs.{HasSeenArcs}
use Rattle.arc_tables.proofs.chains.read_rows.Given as goal

-- no row so far has a fault, and what they say is seen
abbrev pub invariant-rows : goal.invariant-rows
invariant-rows l = record {
  few : l.k ≤ MOST_ARCS;
  clean : (j : ℕ) → j < l.k → arc_fault l.rows l.scale l.table j ≡ None;
  seen : HasSeenArcs l.rows l.scale l.table l.k l.seen;
  room : min (length l.table.records) MOST_ARCS ≤ l.seen.spare + l.k;
}

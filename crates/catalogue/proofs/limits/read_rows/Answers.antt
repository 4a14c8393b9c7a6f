use Rattle.std.proofs.Common.{◌≡◌, ◌∙◌, refl, sym, ◌<◌, ◌++◌, ◌∷◌, [], length, None, below_more, arith}
use Rattle.offer_model.specs.declared.ranges.TheConstants.{MOST_LIMITS}
use Rattle.catalogue_rows.specs.declared.faults.FileName.TheVariants.{Limits}
use Rattle.catalogue.specs.LimitTables.{limit_fault}
use Rattle.catalogue_rows.proofs.FaultLemmas.{no_row_fault, first_row_fault_at}
use Rattle.catalogue.proofs.LimitLemmas.{below_most, limits_more, requires_more}
use Rattle.catalogue.proofs.limits.read_rows.Goals as goal
use Rattle.catalogue.proofs.limits.read_rows.Goals.{then-is_requires, else-is_requires}

pub rows-preserved : goal.rows-preserved
rows-preserved c =
    let rows = c.args.rows.now in
    let table = c.args.table.now in
    let k = c.rows.k in
    let was = c.rows.invariant in
    let clean : limit_fault rows table k ≡ None = c.in-Ok.ensures.sound in
    let below : k < MOST_LIMITS = below_most rows table k clean in
    let pushed : c.push.new.self.items ≡ c.rows.limits.items ++ c.in-Ok.limit ∷ [] = c.push.ensures.items in
    record {
      few = omega arith;
      clean = below_more _ _ was.clean clean;
      limits = pushed ∙ (λ i. was.limits i ++ c.in-Ok.ensures.limit i ∷ []) ∙ sym (limits_more rows table k);
      pairs = rw (pushed, requires_more c.rows.limits.items c.in-Ok.limit, ← was.pairs)
          (elim c.if-is_requires.branch [
            | then-is_requires w ↦ w.pairs-is ∙ rw (← c.is_requires.ensures, w.if-is_requires.true) refl
            | else-is_requires w ↦ w.pairs-is ∙ rw (← c.is_requires.ensures, w.if-is_requires.false) (omega arith)
          ]);
      room = omega arith;
    }

pub returns-in-Err-clause-fault : goal.returns-in-Err-clause-fault
returns-in-Err-clause-fault c =
    let rows = c.args.rows.now in
    let table = c.args.table.now in
    first_row_fault_at Limits (limit_fault rows table) (length table.records) c.rows.k c.in-Err.code (omega arith) c.rows.invariant.clean
    c.in-Err.ensures.fault

pub returns-clause-sound : goal.returns-clause-sound
returns-clause-sound c =
    let table = c.args.table.now in
    no_row_fault Limits (limit_fault c.args.rows.now table) (length table.records) (λ k inside. c.rows.invariant.clean k (omega arith))

use Rattle.std.proofs.Common.{sym, ap, Err}
use Rattle.assort_core.specs.Outputs.{file_of, texts_of}
use Rattle.assort_core.proofs.OutputLemmas.{output_whole, output_part, why_unwritten}
use Rattle.assort_core.proofs.output_file.write_named.Goals as goal

pub returns-in-Err-clause-part : goal.returns-in-Err-clause-part
returns-in-Err-clause-part g c =
    output_part c.args.task.now (g.S.Store.view c.args.store.now) (g.S.Store.view c.write_file.new.store) (file_of c.args.output.now) (texts_of c.args.output.now) c.args.name.now c.in-Err.stop
    (sym c.requires.name) c.requires.may c.in-Err.ensures.stops c.write_file.ensures.others c.in-Err.ensures.part c.write_file.ensures.endures

pub returns-in-Err-clause-stopped : goal.returns-in-Err-clause-stopped
returns-in-Err-clause-stopped g c =
    why_unwritten c.args.task.now (g.S.Store.view c.args.store.now) (g.S.Store.view c.write_file.new.store) (file_of c.args.output.now) (texts_of c.args.output.now) c.args.name.now c.in-Err.stop
    (sym c.requires.name) c.requires.may c.in-Err.ensures.stops (λ e. c.in-Err.ensures.cause (ap Err e)) (λ e steady. c.in-Err.ensures.ready steady (ap Err e))

pub returns-in-Ok-clause-whole : goal.returns-in-Ok-clause-whole
returns-in-Ok-clause-whole g c =
    output_whole c.args.task.now (g.S.Store.view c.args.store.now) (g.S.Store.view c.write_file.new.store) (file_of c.args.output.now) (texts_of c.args.output.now) c.args.name.now
    (sym c.requires.name) c.requires.may c.write_file.ensures.others c.in-Ok.ensures.written c.in-Ok.ensures.sealed c.write_file.ensures.endures

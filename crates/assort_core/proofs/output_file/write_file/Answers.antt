use Rattle.std.proofs.Common.{sym, ap, Err}
use Rattle.assort_core.specs.Outputs.{texts_of}
use Rattle.assort_core.proofs.OutputFileLemmas.{part_in_file, whole_in_file}
use Rattle.assort_core.proofs.output_file.write_file.Goals as goal

pub returns-in-Err-WriteFault-clause-part : goal.returns-in-Err-WriteFault-clause-part
returns-in-Err-WriteFault-clause-part g c =
    part_in_file (texts_of c.args.output.now) c.args.name.now (g.S.Store.view c.args.store.now) (g.S.Store.view c.create.new.self) (g.S.Store.view c.write.new.store)
    c.create.result c.create.ensures (sym c.if-is_err.ensures.value) (c.in-Err-WriteFault.ensures.part (ap Err c.in-Err-WriteFault.field-0-is))

pub returns-then-is_err-2-clause-part : goal.returns-then-is_err-2-clause-part
returns-then-is_err-2-clause-part g c =
    whole_in_file (texts_of c.args.output.now) c.args.name.now (g.S.Store.view c.args.store.now) (g.S.Store.view c.create.new.self) (g.S.Store.view c.write.new.store)
    (g.S.Store.view c.seal.new.self) c.create.result c.seal.result c.create.ensures (sym c.if-is_err.ensures.value) c.in-Ok.ensures.written c.seal.ensures

use Rattle.assort_core.proofs.OutputFileLemmas.{appended, appended_part}
use Rattle.assort_core.proofs.output_file.Output.write.Goals as goal

pub returns-in-Err-clause-part : goal.returns-in-Err-clause-part
returns-in-Err-clause-part g c = λ failed.
    rw c.in-Catalogue.is (appended_part (g.S.Store.view c.args.store.now) c.as_slice.result.now c.in-Catalogue.text.items c.append.result c.in-Err.field-0
    (g.S.Store.view c.append.new.self) c.as_slice.ensures c.in-Err.is c.append.ensures)

pub returns-in-Ok-clause-written : goal.returns-in-Ok-clause-written
returns-in-Ok-clause-written g c =
    rw c.in-Catalogue.is (appended (g.S.Store.view c.args.store.now) c.as_slice.result.now c.in-Catalogue.text.items c.append.result c.in-Ok.field-0
    (g.S.Store.view c.append.new.self) c.as_slice.ensures c.in-Ok.is c.append.ensures)

use Rattle.std.proofs.Common.{◌∙◌, sym, ap}
use Rattle.std.specs.Option.{option_copied}
use Rattle.assort_core.proofs.OutputLemmas.{unasked_whole}
use Rattle.assort_core.proofs.output_file.write_output.Goals as goal

pub write_named-requires-clause-name : goal.write_named-requires-clause-name
write_named-requires-clause-name g c = sym (ap option_copied c.in-Some.is) ∙ c.requires.name

pub returns-in_default-clause-whole : goal.returns-in_default-clause-whole
returns-in_default-clause-whole g c =
    unasked_whole c.args.task.now (g.S.Store.view c.args.store.now) (sym c.requires.name ∙ ap option_copied c.in_default.is)

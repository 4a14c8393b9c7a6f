use Rattle.std.proofs.Common.{◌≤◌, length, sym, arith}
use Rattle.catalogue_rows.proofs.NameLemmas.{read_as_name, refused_as_name}
use Rattle.catalogue_rows.proofs.names.read_name.Goals as goal

pub returns-clause-name : goal.returns-clause-name
returns-clause-name c =
    let some : 1 ≤ length c.args.field.now = grind arith in
    rw c.ok.ensures.value
    (read_as_name c.args.field.now some (omega arith) (sym c.if-not-are_name_bytes.ensures) _ c.from_utf8.result c.from_utf8.ensures.cases)

pub returns-clause-refused : goal.returns-clause-refused
returns-clause-refused c =
    let some : 1 ≤ length c.args.field.now = grind arith in
    rw c.ok.ensures.value
    (refused_as_name c.args.field.now some (omega arith) (sym c.if-not-are_name_bytes.ensures) _ c.from_utf8.result c.from_utf8.ensures.cases)

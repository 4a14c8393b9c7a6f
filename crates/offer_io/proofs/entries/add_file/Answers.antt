use Rattle.std.proofs.Common.{rules}
use Rattle.offer_io.proofs.entries.add_file.Goals as goal

pub returns-clause-ok : goal.returns-clause-ok
returns-clause-ok c = record { file = record { name = c.in_ok-name.name; content = c.args.content }; called = search rules; content = search rules; files = search rules }

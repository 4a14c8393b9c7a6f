use Rattle.std.proofs.Common.{codes, append_assoc}
use Rattle.assort_words.specs.Keys.{text_of}
use Rattle.assort_core.proofs.lines.usage_line.push_place.Goals as goal

pub returns-in-UnusedOption-clause-bytes : goal.returns-in-UnusedOption-clause-bytes
returns-in-UnusedOption-clause-bytes c =
    rw (c.in-UnusedOption.is, c.push_str-in-UnusedOption-2.ensures.bytes, c.push_str-in-UnusedOption.ensures.bytes, c.text-in-UnusedOption.ensures.text)
    (append_assoc c.args.line.now.bytes (text_of c.args.fault.now.key) (codes " is not for this model"))

use Rattle.std.proofs.Common.{◌≡◌, ◌≤◌, length, arith, rules}
use Rattle.offer_model.specs.declared.ranges.TheConstants.{MOST_PRODUCTS}
use Rattle.proof_lines.specs.Acceptance.{value_numbers}
use Rattle.proof_tree.specs.Pens.{lines_data}
use Rattle.proof_write.specs.HeaderLines.{header_lines}
use Rattle.proof_write.proofs.LineLemmas.{header_writable}
use Rattle.proof_write.proofs.header.header_of.Goals as goal

pub returns-clause-writable : goal.returns-clause-writable
returns-clause-writable c =
    let few : length c.args.x.now ≤ MOST_PRODUCTS = (let most = c.model-model.ensures.valid.few in let same = c.requires.length in omega arith) in
    let is : lines_data c.push_reserved-4.new.self.items ≡ header_lines c.args.p.now.model c.args.x.now (value_numbers c.args.p.now c.args.x.now) = search rules in
    header_writable c.push_reserved-4.new.self.items c.args.p.now.model c.args.x.now (value_numbers c.args.p.now c.args.x.now) is few c.requires.value.grammar
    (let short = c.requires.value.short in omega arith)

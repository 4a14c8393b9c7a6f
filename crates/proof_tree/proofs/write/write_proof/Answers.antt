use Rattle.std.proofs.Common.{◌∷◌, []}
use Rattle.proof_lines.specs.Lines.{text_of}
use Rattle.proof_tree.specs.Feeding.{joined}
use Rattle.proof_tree.specs.Pens.{lines_data}
use Rattle.proof_tree.specs.Trees.{tree_texts, end_text}
use Rattle.proof_tree.proofs.PutLemmas.{puts_stop}
use Rattle.proof_tree.proofs.RuleLemmas.{stops_in_tree, ends_after_tree}
use Rattle.proof_tree.proofs.write.write_proof.Goals as goal

pub returns-in_err-write_lines : goal.returns-in_err-write_lines
returns-in_err-write_lines g c = λ tree h.
    puts_stop _ _ (text_of (lines_data c.args.header.now)) (joined (tree_texts tree (end_text ∷ []))) _ c.from_residual.result c.from_residual.ensures.0 c.in_err-write_lines.ensures

pub returns-in_err-write_tree : goal.returns-in_err-write_tree
returns-in_err-write_tree g c = λ tree h.
    stops_in_tree _ _ _ (text_of (lines_data c.args.header.now)) tree _ c.from_residual-in_err-write_tree.result c.from_residual-in_err-write_tree.ensures.0
    c.in_ok-write_lines.ensures (c.in_err-write_tree.ensures.lines tree h)

pub returns : goal.returns
returns g c = λ tree h.
    ends_after_tree _ _ _ _ (text_of (lines_data c.args.header.now)) tree c.put_end.new.self _ c.put_end.ensures c.in_ok-write_lines.ensures (c.in_ok-write_tree.ensures.lines tree h) c.send.ensures

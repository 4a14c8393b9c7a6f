use Rattle.std.proofs.Common.{◌++◌, ◌<◌, length, arith}
use Rattle.proof_lines.specs.Lines.{spaced}
use Rattle.proof_lines.proofs.SpacedLemmas.{spaced-push, length-spaced_drop, spaced_drop-some}
use Rattle.proof_lines.proofs.print.push_spaced.Goals as goal

pub push-requires : goal.push-requires
push-requires c =
    let inside : c.loop-k.k < length c.args.numbers.now.items = omega arith in
    let some = spaced_drop-some c.args.numbers.now.items c.loop-k.k inside in
    omega arith

pub push_number-requires : goal.push_number-requires
push_number-requires c =
    let inside : c.loop-k.k < length c.args.numbers.now.items = omega arith in
    let len = length-spaced_drop c.args.numbers.now.items c.loop-k.k c.get.result.now inside c.get.ensures in
    omega arith

pub loop-k-preserved : goal.loop-k-preserved
loop-k-preserved c =
    let inside : c.loop-k.k < length c.args.numbers.now.items = omega arith in
    let len = length-spaced_drop c.args.numbers.now.items c.loop-k.k c.get.result.now inside c.get.ensures in
    record {
      items = rw (c.push_number.ensures.items, c.push.ensures.items)
          (spaced-push c.loop-k.out.items (c.args.out.now.items ++ spaced c.args.numbers.now.items) c.args.numbers.now.items c.loop-k.k c.get.result.now inside c.get.ensures c.loop-k.invariant.items);
      spare = omega arith;
    }

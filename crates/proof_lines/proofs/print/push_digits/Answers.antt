use Rattle.std.proofs.Common.{◌+◌, ◌<◌, [], ◌∷◌, length, map, take, arith, append_assoc}
use Rattle.std.proofs.lemmas.List.{map_more}
use Rattle.std.proofs.lemmas.Option.{get_or_from_slice_get}
use Rattle.proof_lines.proofs.print.push_digits.Goals as goal

pub loop-k-preserved : goal.loop-k-preserved
loop-k-preserved c =
    let inside : c.loop-k.k < length c.args.digits.now.items = omega arith in
    let more = map_more (λ d. 48 + d) c.args.digits.now.items c.loop-k.k 0 inside in
    let same = get_or_from_slice_get c.args.digits.now.items c.loop-k.k c.get.result.now 0 c.get.ensures in
    record {
      items = rw (c.push.ensures.items, c.byte_of_digit.ensures, more, same, c.loop-k.invariant.items)
          (append_assoc c.args.out.now.items (map (λ d. 48 + d) (take c.loop-k.k c.args.digits.now.items)) ((48 + c.get.result.now) ∷ []));
      spare = omega arith;
    }

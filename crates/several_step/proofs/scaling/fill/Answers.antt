use Rattle.std.proofs.Common.{rules, arith, ◌≡◌, ℕ, zero, suc, ◌+◌, List, ◌++◌, ◌∷◌, [], length, ap}
use Rattle.std.specs.Prelude.{pos, ℤ}
use mir.Val.{SFits}
use mir.Syntax.{w128}
use Rattle.std.proofs.lemmas.Int.{to_z-of_z}
use Rattle.offer_model.proofs.ListLemmas.{pushed_more}
use Rattle.linear_weights.specs.Weights.{weight_at}
use Rattle.several_step.specs.Scales.{times}
use Rattle.several_step.proofs.ScaleLemmas.{times_price, times_constant}
use Rattle.several_step.proofs.scaling.fill.Goals as goal

longer : (xs : List ℤ) (z : ℤ) (i : ℕ) → length xs ≡ i → length (xs ++ z ∷ []) ≡ i + 1
longer [] z i e = omega arith
longer (x ∷ xs) z zero e = absurd (omega arith)
longer (x ∷ xs) z (suc i) e = let rest = longer xs z i (omega arith) in omega arith

pub loop-i-preserved : goal.loop-i-preserved
loop-i-preserved c =
    let inv = c.loop-i.invariant in
    let z = c.times-in-loop-i.result in
    let fits : SFits w128 z = search rules in
    let is = rw (to_z-of_z w128 z fits) at c.push.ensures in
    rw is (record {
      long = longer c.loop-i.out.items z c.loop-i.i inv.long;
      each = pushed_more (λ k y. y ≡ times c.args.up (weight_at c.args.weights.now k))
          c.loop-i.out.items (c.loop-i.out.items ++ z ∷ []) z (pos 0) c.loop-i.i (search rules) inv.long inv.each (search rules);
      constant = inv.constant;
      room = inv.room;
    })

pub returns-clause-weights : goal.returns-clause-weights
returns-clause-weights c =
    let inv = c.loop-i.invariant in
    record {
      each = search rules;
      small = λ k l. rw (inv.each k (search rules)) (times_price c.args.up (weight_at c.args.weights.now k) (c.requires.weights.small k l) (λ u. (c.requires.small u).prices k l));
      constant = rw inv.constant (times_constant c.args.up c.args.weights.now.constant c.requires.weights.constant (λ u. (c.requires.small u).constant));
    }

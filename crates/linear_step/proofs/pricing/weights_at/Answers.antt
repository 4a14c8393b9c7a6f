use Rattle.std.proofs.Common.{rules, arith, ◌≡◌, ℕ, zero, suc, ◌+◌, List, ◌++◌, ◌∷◌, [], length, refl, ap}
use Rattle.std.specs.Prelude.{pos, ℤ}
use mir.Val.{SFits}
use mir.Syntax.{w128}
use Rattle.std.proofs.lemmas.Int.{to_z-of_z}
use Rattle.offer_model.specs.Problems.{product_count}
use Rattle.offer_model.specs.Prices.{prices_at}
use Rattle.offer_model.proofs.ListLemmas.{pushed_more}
use Rattle.linear_weights.specs.Weights.{price_bound, IsWithin}
use Rattle.linear_step.proofs.SameLemmas.{AreAt-from_each}
use Rattle.linear_step.proofs.pricing.weights_at.Goals as goal

pub loop-i-init : goal.loop-i-init
loop-i-init c =
    let fits : SFits w128 c.constant.result = search rules in
    let e = to_z-of_z w128 c.constant.result fits in
    let is = rw e at c.restart.ensures in
    rw is (record {
      long = refl;
      each = λ k l. absurd (omega arith);
      small = λ k l. absurd (omega arith);
      constant = c.constant.ensures.value c.args.den;
      bounded = c.constant.ensures.small;
      room = refl;
    })

longer : (xs : List ℤ) (z : ℤ) (i : ℕ) → length xs ≡ i → length (xs ++ z ∷ []) ≡ i + 1
longer [] z i e = omega arith
longer (x ∷ xs) z zero e = absurd (omega arith)
longer (x ∷ xs) z (suc i) e = let rest = longer xs z i (omega arith) in omega arith

pub loop-i-preserved : goal.loop-i-preserved
loop-i-preserved c =
    let inv = c.loop-i.invariant in
    let fits : SFits w128 c.price.result = search rules in
    let e = to_z-of_z w128 c.price.result fits in
    let is = rw e at c.push.ensures in
    let long : length (c.loop-i.out.items ++ c.price.result ∷ []) ≡ c.loop-i.i + 1 = longer c.loop-i.out.items c.price.result c.loop-i.i inv.long in
    rw is (record {
      long = long;
      each = pushed_more (λ k z. z ≡ (prices_at c.args.p.now c.args.num c.args.den).price k)
          c.loop-i.out.items (c.loop-i.out.items ++ c.price.result ∷ []) c.price.result (pos 0) c.loop-i.i refl inv.long inv.each c.price.ensures.value;
      small = pushed_more (λ k z. IsWithin price_bound z)
          c.loop-i.out.items (c.loop-i.out.items ++ c.price.result ∷ []) c.price.result (pos 0) c.loop-i.i refl inv.long inv.small c.price.ensures.small;
      constant = inv.constant;
      bounded = inv.bounded;
      room = inv.room;
    })

pub returns-clause-weights : goal.returns-clause-weights
returns-clause-weights c =
    let inv = c.loop-i.invariant in
    let count : length c.products.result.now.items ≡ product_count c.args.p.now = ap length c.products.ensures.value in
    record {
      each = omega arith;
      small = λ k l. inv.small k (omega arith);
      constant = inv.bounded;
    }

pub returns-clause-at : goal.returns-clause-at
returns-clause-at c =
    let inv = c.loop-i.invariant in
    let count : length c.products.result.now.items ≡ product_count c.args.p.now = ap length c.products.ensures.value in
    AreAt-from_each c.args.p.now c.args.num c.args.den c.loop-i.out
    c.products.ensures.valid (search rules) (omega arith) inv.constant (λ k l. inv.each k (omega arith))

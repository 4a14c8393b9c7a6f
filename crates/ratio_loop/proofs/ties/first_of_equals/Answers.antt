use Rattle.std.proofs.Common.{◌≡◌, ap, length, arith}
use Rattle.offer_model.specs.Problems.{product_count}
use Rattle.ratio_loop.proofs.MarkLemmas.{Leads-first, Leads-out, Leads-left_out, Leads-in, IsBest-leads}
use Rattle.ratio_loop.proofs.ties.first_of_equals.Goals as goal
use Rattle.ratio_loop.proofs.ties.first_of_equals.Goals.{then-offers+in_ok-other+in-Some, then-offers+in_ok-other+in-None, else-offers}

pub loop-i-init : goal.loop-i-init
loop-i-init g c = record {
  count = omega arith;
  leads = Leads-first c.args.p.now c.revenue-at.result c.args.root c.args.top c.requires.most c.revenue-at.ensures.value c.requires.root;
  fits = λ q. (λ h. h, λ h. h);
}

pub loop-i-preserved : goal.loop-i-preserved
loop-i-preserved g c =
    let inv = c.loop-i.invariant in
    let p = c.args.p.now in
    let at = c.revenue-at.result in
    let i = c.loop-i.i in
    let count : length c.products.result.now.items ≡ product_count p = ap length c.products.ensures.value in
    elim c.if-offers.branch [
      | then-offers+in_ok-other+in-Some w ↦
          let e = w.in_ok-other.ensures in
          record {
            count = rw w.steps-is (omega arith);
            leads = rw (w.node-is, w.found-is, c.set.ensures)
                (Leads-out p at i c.loop-i.node c.loop-i.found w.in-Some.other (omega arith) inv.leads (rw (w.in-Some.is, c.set.ensures) at e.answer));
            fits = λ q. rw w.step-is (λ h. (e.fits q).0 ((inv.fits q).0 h), λ h. (inv.fits q).1 ((e.fits q).1 h));
          }
      | then-offers+in_ok-other+in-None w ↦
          let e = w.in_ok-other.ensures in
          record {
            count = rw w.steps-is (omega arith);
            leads = rw (w.node-is, w.found-is, w.set-in-None.ensures, c.set.ensures)
                (Leads-in p at i c.loop-i.node c.loop-i.found (omega arith) inv.leads (rw c.offers.ensures at w.if-offers.true) (rw (w.in-None.is, c.set.ensures) at e.answer));
            fits = λ q. rw w.step-is (λ h. (e.fits q).0 ((inv.fits q).0 h), λ h. (inv.fits q).1 ((e.fits q).1 h));
          }
      | else-offers w ↦
          record {
            count = rw w.steps-is (omega arith);
            leads = rw (w.node-is, w.found-is, c.set.ensures)
                (Leads-left_out p at i c.loop-i.node c.loop-i.found (omega arith) inv.leads (rw c.offers.ensures at w.if-offers.false));
            fits = λ q. rw w.step-is (inv.fits q);
          }
    ]

pub returns-clause-best : goal.returns-clause-best
returns-clause-best g c =
    let count : length c.products.result.now.items ≡ product_count c.args.p.now = ap length c.products.ensures.value in
    IsBest-leads c.args.p.now c.revenue-at.result c.loop-i.i c.loop-i.node c.args.top c.loop-i.found c.products.ensures.valid c.requires.model
    c.requires.most c.revenue-at.ensures.value (omega arith) c.loop-i.invariant.leads

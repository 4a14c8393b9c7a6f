use Rattle.std.proofs.Common.{◌≡◌, ℕ, suc, ◌+◌, ◌<◌, List, ◌∷◌, length, drop, get_or, sym, ap, ◌∙◌, add-one, arith}
use Rattle.std.proofs.Math.Seq.{drop-cons}
use Rattle.std.proofs.lemmas.Option.{get_or_from_slice_get}
use Rattle.offer_model.specs.declared.products.Limit.{Limit}
use Rattle.segment_bound.specs.Tangents.{total_cap}
use Rattle.segment_bound.proofs.caps.total_cap.Goals as goal

-- One more limit.
next : (limits : List Limit) (k cap after n : ℕ) (limit : Limit) → k < length limits → get_or limits k limit ≡ limit → ((rest : List Limit) → total_cap (limit ∷ rest) cap ≡ total_cap rest after)
    → total_cap (drop k limits) cap ≡ n → total_cap (drop (k + 1) limits) after ≡ n
next limits k cap after n limit l e h before =
    rw add-one (sym (h (drop (suc k) limits)) ∙ (ap (λ (first : Limit). total_cap (first ∷ drop (suc k) limits) cap) (sym e) ∙ (ap (λ (ls : List Limit). total_cap ls cap) (sym (drop-cons limits k limit l)) ∙ before)))

pub loop-k-preserved : goal.loop-k-preserved
loop-k-preserved c =
    let inside : c.loop-k.k < length c.args.limits.now.items = omega arith in
    next c.args.limits.now.items c.loop-k.k c.loop-k.cap c.capped-cap.result (total_cap c.args.limits.now.items c.args.n) c.get.result.now inside
    (get_or_from_slice_get c.args.limits.now.items c.loop-k.k c.get.result.now c.get.result.now c.get.ensures) c.capped-cap.ensures c.loop-k.invariant

use Rattle.std.proofs.Common.{◌≡◌, ◌∙◌, sym, ap, arith, rules, ℕ, ◌≤◌, ◌<◌, ◌↔◌, List, [], ◌++◌, length, take, length-append, length-take}
use Rattle.offer_io.proofs.pieces.next_piece.Goals as goal

-- No byte came exactly where nothing was left.
at_end : (n : ℕ) (piece old new : List ℕ) → 0 < length piece → n ≤ length piece → old ≡ take n piece ++ new
    → (n ≡ 0 → 0 < length piece → new ≡ [])
    → n ≡ 0 ↔ old ≡ []
at_end n piece old new room count bytes end = (λ none. nothing none (end none room), λ empty. omega (arith, simp (length-append, length-take) at (ap length (sym bytes ∙ empty))))
  where
    nothing : n ≡ 0 → new ≡ [] → old ≡ []
    nothing none done = rw (none, done) at bytes

pub returns-clause-end : goal.returns-clause-end
returns-clause-end g c =
    λ told. at_end c.in-Ok.count c.read.new.piece (g.S.Store.view c.args.store.now).left (g.S.Store.view c.read.new.self).left
    (search rules) (search rules) (search rules) (search rules)

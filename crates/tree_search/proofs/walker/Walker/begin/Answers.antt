use Rattle.std.proofs.Common.{rules, ap, sym, ◌≡◌, ◌∙◌, List, [], length}
use Rattle.std.specs.Prelude.{reverse}
use Rattle.offer_model.specs.declared.node.Mark.{Mark}
use Rattle.tree_search.specs.Turns.{Walk}
use Rattle.tree_search.proofs.StackLemmas.{long_last, long_put, start_rooms}
use Rattle.tree_search.proofs.walker.Walker.begin.Goals as goal

pub copy_from-requires : goal.copy_from-requires
copy_from-requires c =
    (long_last _ _ _ _ c.in-Some.ensures.items c.self.invariant.1).1 ∙ (ap (λ (w : Walk). w.products) c.self.view_is ∙ sym c.requires.long)

pub invariant_of-self : goal.invariant_of-self
invariant_of-self c =
    let t = long_last _ _ _ _ c.in-Some.ensures.items c.self.invariant.1 in
    let root : length c.args.root.now ≡ c.self.inside.products = c.requires.long ∙ sym (ap (λ (w : Walk). w.products) c.self.view_is) in
    let l : length c.copy_from.new.self ≡ c.self.inside.products = ap (λ (m : List Mark). length m) c.copy_from.ensures ∙ root in
    let e : reverse c.self.inside.stack.items ≡ [] = ap (λ (w : Walk). w.stack) c.self.view_is ∙ c.requires.idle in (
      long_put _ _ _ _ c.push_reserved.ensures.items c.self.invariant.0 l,
      t.0,
      search rules,
      search rules,
      search rules,
      start_rooms _ _ _ _ e c.push_reserved.ensures.items l,
      c.self.invariant.6,
      c.self.invariant.7,
      c.self.invariant.8,
    )

use Rattle.std.proofs.Common.{◌≡◌, ◌++◌, refl, sym, ap, List, ℕ, Bool, true, false, if◌then◌else◌, []}
use Rattle.std.specs.Result.{is_ok}
use Rattle.std.proofs.lemmas.Grind.{common_steps}
use Rattle.std.proofs.Common.{arith, ◌∙◌}
use Rattle.offer_io.specs.Entries.{content_at}
use Rattle.offer_io.proofs.EntryLemmas.{grown, content_there}
use Rattle.offer_io.proofs.entries.grow_at.Goals as goal

either : (b : Bool) (old piece new : List ℕ) → new ≡ (if b then old ++ piece else old) → new ≡ old ++ (if b then piece else [])
either true old piece new e = e
either false old piece new e = grind (arith, common_steps)

pub returns : goal.returns
returns c =
    let at : content_at c.args.files.now.items c.args.at ≡ c.index_mut.result.now.content.items =
    content_there _ _ c.index_mut.result.now c.requires ∙ ap (λ (t : _). t.content.items) (sym c.index_mut.ensures.value) in
    grown _ _ c.index_mut.result.now _ _ c.requires c.index_mut.ensures.value refl (rw at (either (is_ok c.extend_from_slice.result) _ _ _ c.extend_from_slice.ensures.items))

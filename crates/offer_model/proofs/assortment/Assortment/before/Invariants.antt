use Rattle.std.proofs.Common.{◌↔◌, drop}
use Rattle.offer_model.specs.Assortments.{IsBefore}
use Rattle.offer_model.proofs.assortment.Assortment.before.Given as goal

abbrev pub invariant-loop-i : goal.invariant-loop-i
invariant-loop-i l = IsBefore (drop l.i l.self-inside.places.items) (drop l.i l.other-inside.places.items) ↔ IsBefore l.self l.other

-- A dive from the root loses no feasible assortment, and what it ends with is feasible.
use Rattle.std.proofs.Common.{◌≡◌, ◌≢◌, Bool, Option, Some, None, List, [], ◌∷◌, refl, sym, ◌∙◌, subst, inl, ⊎_elim}
use Rattle.offer_model.specs.declared.node.Mark.{Mark}
use Rattle.offer_model.specs.Nodes.{open_node}
use Rattle.offer_model.proofs.CompletionLemmas.{Completes-open}
use Rattle.tree_search.specs.Goals.{Rules, IsLawful, IsFeasibleFor, IsFoundOf}
use Rattle.tree_search.specs.Turns.{Walk, Turn, IsSound, least, HasBoundInRange}
use Rattle.tree_search.specs.Progress.{CompletesSome, Covers, Has, IsFeasibleBest, IsOwn}
use Rattle.tree_search.proofs.CoverLemmas.{turn_has, turn_feasible}

module _ (r : Rules) where
  -- Each feasible assortment completes the root.
  pub root_has : (w : Walk) → w.products ≡ r.products → w.stack ≡ open_node w.products ∷ [] → (y : List Bool) → IsFeasibleFor r y → Has r w y
  root_has w p e y f = inl (subst (λ (st : List (List Mark)). CompletesSome st y) (sym e)
      (inl (Completes-open w.products y (f.0 ∙ sym p))))

  -- Where the stack is empty and there is no best, nothing is feasible.
  pub emptied_found : (w : Walk) → w.stack ≡ [] → w.best ≡ None → ((y : List Bool) → IsFeasibleFor r y → Has r w y) → IsFoundOf r w.best
  emptied_found w e n left = subst (IsFoundOf r) (sym n) (λ y f. ⊎_elim
      (λ c. subst (λ (st : List (List Mark)). CompletesSome st y) e c)
      (λ c. subst (λ (o : Option (List Bool)). Covers r o y) n c)
      (left y f))

  -- A feasible best is found.
  pub feasible_found : (o : Option (List Bool)) → IsFeasibleBest r o → o ≢ None → IsFoundOf r o
  feasible_found None f n = absurd (n refl)
  feasible_found (Some x) f n = f

  module _ (law : IsLawful r) (old new : Walk) (turn : Turn r least old new) (p : old.products ≡ r.products) (sound : IsSound old) (none : old.best ≡ None) where
    feasible : IsFeasibleBest r old.best
    feasible = subst (IsFeasibleBest r) (sym none) tt

    -- A turn that sees the least number, before there is a best, loses none.
    pub kept_by : HasBoundInRange r old.stack → ((y : List Bool) → IsFeasibleFor r y → Has r old y) → (y : List Bool) → IsFeasibleFor r y → Has r new y
    kept_by range left y f = turn_has r law least old new turn p sound feasible y f.1
        (subst (λ (o : Option (List Bool)). IsOwn r o least) (sym none) refl) range (left y f)

    -- A best that a turn finds is feasible.
    pub turn_found : new.best ≢ old.best → IsFoundOf r new.best
    turn_found changed = feasible_found new.best (turn_feasible r law least old new turn p sound feasible) (λ e. changed (e ∙ sym none))

-- Whether a claim is a task's.
use Rattle.std.proofs.Common.{◌≡◌, ℕ, ◌<◌, ◌≤◌, true, false, not, nat_lt, sym, ap, ◌∙◌, arith}
use Rattle.std.proofs.lemmas.Bool.Decides.{nat_tests}
use Rattle.shared_best.specs.declared.view.View.{View}
use Rattle.shared_best.specs.Views.{is_done, with_claim}
use Rattle.shared_best.proofs.ClaimLemmas.{any_past-push}

late_is : (n tasks : ℕ) → not (nat_lt n tasks) ≡ true → tasks ≤ n
late_is n tasks e = grind (arith, nat_tests)

early_is : (n tasks : ℕ) → not (nat_lt n tasks) ≡ false → n < tasks
early_is n tasks e = grind (arith, nat_tests)

-- A claim after which the place is done is no task's.
pub claim_late : (v u : View) (n : ℕ) → u ≡ with_claim v n → is_done v ≡ false → is_done u ≡ true → v.tasks ≤ n
claim_late v u n is free done = late_is n v.tasks (sym (any_past-push v.tasks v.claims n free) ∙ ap is_done (sym is) ∙ done)

-- A claim after which it isn't done is a task's.
pub claim_early : (v u : View) (n : ℕ) → u ≡ with_claim v n → is_done v ≡ false → is_done u ≡ false → n < v.tasks
claim_early v u n is free still = early_is n v.tasks (sym (any_past-push v.tasks v.claims n free) ∙ ap is_done (sym is) ∙ still)

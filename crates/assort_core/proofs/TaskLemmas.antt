-- What is there of a request that is complete, by its command and its model.
use Rattle.std.proofs.Common.{◌≡◌, ◌≢◌, ℕ, List, Option, Some, None, IsSome, IsTrue, IfSome, Bor, unwrap_or, refl, arith}
use Rattle.std.specs.Option.{option_copied}
use Rattle.offer_model.specs.declared.products.ModelName.{ModelName}
use Rattle.offer_model.specs.declared.products.ModelName.TheVariants.{Logit, Attract, Mixed, Chain}
use Rattle.offer_model.specs.Validity.{IsPositiveAmount}
use Rattle.assort_words.specs.declared.keys.Group.TheVariants as G
use Rattle.assort_words.specs.declared.usage.Command.{Command}
use Rattle.assort_words.specs.declared.usage.Command.TheVariants.{Solve, Check, Eval, Trial}
use Rattle.assort_words.specs.Keys.{use_of, is_among, is_asked_of, is_used}
use Rattle.assort_words.specs.declared.usage.Key.{Key}
use Rattle.assort_words.specs.declared.usage.Key.TheVariants.{Model, Products, Limits, Segments, Arcs, NoKey}
use Rattle.assort_words.specs.Asked.{RequestData, IsComplete, word_of, asked_model, asked_products, asked_limits, asked_segments, asked_arcs}
use Rattle.assort_core.specs.Stages.{model_asked, NamesNoTable}

-- A chain is asked for by its name.
pub chain_asked : (o : Option ModelName) → unwrap_or o Logit ≡ Chain → IsTrue (is_asked_of G.Chain o)
chain_asked None e = cc
chain_asked (Some Chain) e = refl
chain_asked (Some Logit) e = cc
chain_asked (Some Attract) e = cc
chain_asked (Some Mixed) e = cc

-- A model with limits isn't one.
pub limited_known : (o : Option ModelName) → IsTrue (is_asked_of G.Limited o) → unwrap_or o Logit ≢ Chain
limited_known None limited e = cc
limited_known (Some Chain) limited e = cc
limited_known (Some Logit) limited e = cc
limited_known (Some Attract) limited e = cc
limited_known (Some Mixed) limited e = cc

-- ---- What a command or a model doesn't use isn't given.

not_given : (o : Option (List ℕ)) → (IsSome o → ⊥) → o ≡ None
not_given None h = refl
not_given (Some w) h = absurd (h refl)

not_chain : (m : ModelName) → m ≢ Chain → IsTrue (is_among G.Chain m) → ⊥
not_chain Logit known e = cc
not_chain Attract known e = cc
not_chain Mixed known e = cc
not_chain Chain known e = absurd (known refl)

arcs_unused : (c : Command) (m : ModelName) → m ≢ Chain → IsTrue (is_used (use_of Arcs c) m) → ⊥
arcs_unused Solve m known e = not_chain m known e
arcs_unused Check m known e = not_chain m known e
arcs_unused Eval m known e = cc
arcs_unused Trial m known e = cc

limits_unused : (c : Command) → IsTrue (is_used (use_of Limits c) Chain) → ⊥
limits_unused Solve e = cc
limits_unused Check e = cc
limits_unused Eval e = cc
limits_unused Trial e = cc

segments_unused : (c : Command) → IsTrue (is_used (use_of Segments c) Chain) → ⊥
segments_unused Solve e = cc
segments_unused Check e = cc
segments_unused Eval e = cc
segments_unused Trial e = cc

-- Arcs aren't given where the model isn't a chain.
pub no_arcs : (r : RequestData) → IsComplete r → model_asked r ≢ Chain → asked_arcs r ≡ None
no_arcs r h known = not_given (asked_arcs r) (λ some. arcs_unused r.command (model_asked r) known (h.used Arcs (λ e. cc) some))

-- Limits and segments aren't given where it is.
pub no_limits : (r : RequestData) → IsComplete r → model_asked r ≡ Chain → asked_limits r ≡ None
no_limits r h chain = not_given (asked_limits r) (λ some. limits_unused r.command (rw chain at h.used Limits (λ e. cc) some))

pub no_segments : (r : RequestData) → IsComplete r → model_asked r ≡ Chain → asked_segments r ≡ None
no_segments r h chain = not_given (asked_segments r) (λ some. segments_unused r.command (rw chain at h.used Segments (λ e. cc) some))

-- What is offered is judged under a model with limits.
pub eval_known : (r : RequestData) → IsComplete r → r.command ≡ Eval → model_asked r ≢ Chain
eval_known r h eval = limited_known (asked_model r) (h.limited eval)

-- Of these keys the command that makes its inputs has none.
trial_unused : (r : RequestData) (k : Key) → IsComplete r → r.command ≡ Trial → k ≢ NoKey → ((m : ModelName) → IsTrue (is_used (use_of k Trial) m) → ⊥)
    → word_of r k ≡ None
trial_unused r k h trial is never = not_given (word_of r k) (λ some. never (model_asked r) (rw trial at h.used k is some))

-- Trial inputs are read from no file.
pub trial_alone : (r : RequestData) → IsComplete r → r.command ≡ Trial → NamesNoTable r
trial_alone r h trial = record {
  products = trial_unused r Products h trial (λ e. cc) (λ m e. cc);
  limits = trial_unused r Limits h trial (λ e. cc) (λ m e. cc);
  segments = trial_unused r Segments h trial (λ e. cc) (λ m e. cc);
  arcs = trial_unused r Arcs h trial (λ e. cc) (λ m e. cc);
}

-- They are made under no model of the request.
trial_unchained : (r : RequestData) → IsComplete r → r.command ≡ Trial → model_asked r ≡ Chain → ⊥
trial_unchained r h trial chain =
    let none : word_of r Model ≡ None = trial_unused r Model h trial (λ e. cc) (λ m e. cc) in
    let logit : Logit ≡ Chain = rw none at chain in cc

-- A text that is borrowed is there where its copy is.
pub copied_some : (o : Option (Bor (List ℕ))) (p : Option (List ℕ)) → option_copied o ≡ p → IsSome p → IsSome o
copied_some (Some t) p e some = refl
copied_some None p e some = cc

-- A command that reads a chain has its products.
pub chain_products : (r : RequestData) → IsComplete r → model_asked r ≡ Chain → IsSome (asked_products r)
chain_products r h chain = by_command r.command refl
  where
    by_command : (c : Command) → r.command ≡ c → IsSome (asked_products r)
    by_command Solve is = h.products (rw is refl)
    by_command Check is = h.products (rw is refl)
    by_command Eval is = h.products (rw is refl)
    by_command Trial is = absurd (trial_unchained r h is chain)

-- A number that is given is in its range, and 1 is where none is.
pub given_positive : (o : Option ℕ) → IfSome o IsPositiveAmount → IsPositiveAmount (unwrap_or o 1)
given_positive (Some n) positive = positive
given_positive None positive = (omega arith, omega arith)

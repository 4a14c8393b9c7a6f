-- What the words of a command line ask for, or the first thing in them that is refused. Own.
use Rattle.std.specs.Prelude.{◌≡◌, ◌≢◌, ℕ, ◌+◌, List, [], ◌∷◌, Option, Some, None, is_some, unwrap_or, slice_index_or, slice_set, replicate, Result, Ok, Err, IsSome, IfSome, IsTrue, Bool, false, not, codes, if◌then◌else◌, ◌&&◌, ◌||◌}
use Rattle.std.specs.Option.{option_and_then}
use Rattle.std.specs.List.{find}
use Rattle.std.specs.Str.{bytes_eq}
use Rattle.offer_model.specs.declared.products.ModelName.{ModelName}
use Rattle.offer_model.specs.declared.products.ModelName.TheVariants.{Logit}
use Rattle.offer_model.specs.declared.ranges.TheConstants.{MOST_AMOUNT, MOST_SCALE}
use Rattle.assort_words.specs.declared.keys.TheConstants.{KEY_SLOTS}
use Rattle.assort_words.specs.declared.usage.Command.{Command}
use Rattle.assort_words.specs.declared.usage.Command.TheVariants.{Solve, Check, Eval, Trial}
use Rattle.assort_words.specs.declared.usage.Key.{Key}
use Rattle.assort_words.specs.declared.usage.Key.TheVariants.{Model, Products, Limits, Segments, Arcs, NoneWeight, Away, Unit, Scale, Proof, Workers, Offer, Seed, Count, Save, NoKey}
use Rattle.assort_words.specs.declared.usage.UsageFault.{UsageFault}
use Rattle.assort_words.specs.declared.usage.UsageCode.{UsageCode}
use Rattle.assort_words.specs.declared.usage.UsageCode.TheVariants.{NoCommand, UnknownCommand, UnknownOption, RepeatedOption, MissingValue, Nested, BadValue, MissingOption, UnusedOption, ProofIsInput}
use Rattle.assort_words.specs.declared.keys.Domain.{Domain}
use Rattle.assort_words.specs.declared.keys.Domain.TheVariants.{Models, Files, Assortments, Numbers}
use Rattle.assort_words.specs.declared.keys.Group.{Group}
use Rattle.assort_words.specs.declared.keys.Group.TheVariants as G
use Rattle.assort_words.specs.Keys.{keys, index_of, text_of, domain_of, use_of, model_of, number_within, most_seed, is_in_domain, is_asked_of, is_known, is_needed, is_used}

-- A command, and for each key the word that is given, or none.
pub record RequestData : Type 0 where
  pub command : Command
  pub words : List (Option (List ℕ))

-- The word that is given for a key.
abbrev pub word_of : RequestData → Key → Option (List ℕ)
word_of r k = slice_index_or r.words (index_of k) None

abbrev pub with_word : RequestData → Key → List ℕ → RequestData
with_word r k word = record r { words = slice_set r.words (index_of k) (Some word) }

-- A command, and no key yet.
abbrev pub bare_request : Command → RequestData
bare_request c = record { command = c; words = replicate KEY_SLOTS None }

abbrev pub is_given : RequestData → Key → Bool
is_given r k = is_some (word_of r k)

-- Each word that is given is one of its key's values in the command.
abbrev pub IsInDomains : RequestData → Type 0
IsInDomains r = (k : Key) → IfSome (word_of r k) (λ word. IsTrue (is_in_domain (domain_of k r.command) word))

-- ---- What each key asks for.

abbrev pub asked_model : RequestData → Option ModelName
asked_model r = option_and_then model_of (word_of r Model)

abbrev pub asked_products : RequestData → Option (List ℕ)
asked_products r = word_of r Products

abbrev pub asked_limits : RequestData → Option (List ℕ)
asked_limits r = word_of r Limits

abbrev pub asked_segments : RequestData → Option (List ℕ)
asked_segments r = word_of r Segments

abbrev pub asked_arcs : RequestData → Option (List ℕ)
asked_arcs r = word_of r Arcs

abbrev pub asked_none : RequestData → Option ℕ
asked_none r = option_and_then (number_within 1 MOST_AMOUNT) (word_of r NoneWeight)

abbrev pub asked_away : RequestData → Option ℕ
asked_away r = option_and_then (number_within 0 MOST_AMOUNT) (word_of r Away)

abbrev pub asked_unit : RequestData → Option ℕ
asked_unit r = option_and_then (number_within 1 MOST_AMOUNT) (word_of r Unit)

abbrev pub asked_scale : RequestData → Option ℕ
asked_scale r = option_and_then (number_within 1 MOST_SCALE) (word_of r Scale)

abbrev pub asked_proof : RequestData → Option (List ℕ)
asked_proof r = word_of r Proof

abbrev pub asked_workers : RequestData → Option ℕ
asked_workers r = option_and_then (number_within 1 64) (word_of r Workers)

abbrev pub asked_offer : RequestData → Option (List ℕ)
asked_offer r = word_of r Offer

abbrev pub asked_seed : RequestData → Option ℕ
asked_seed r = option_and_then (number_within 0 most_seed) (word_of r Seed)

abbrev pub asked_count : RequestData → Option ℕ
asked_count r = option_and_then (number_within 0 256) (word_of r Count)

abbrev pub asked_save : RequestData → Option (List ℕ)
asked_save r = word_of r Save

-- A model is asked for, and it is one of the group's.
abbrev pub IsAskedOf : Group → RequestData → Type 0
IsAskedOf g r = IsTrue (is_asked_of g (asked_model r))

-- The command reads a problem, which has a model and products: all do but the one that makes its problem.
abbrev pub has_model : Command → Bool
has_model c = is_known (use_of Model c)

-- All that the command and the model need is given, and nothing that they don't use.
pub record IsComplete (r : RequestData) : Type 0 where
  pub model : IsTrue (has_model r.command) → IsSome (asked_model r)
  pub products : IsTrue (has_model r.command) → IsSome (asked_products r)
  pub segments : IsAskedOf G.Mixed r → IsSome (asked_segments r)
  pub arcs : IsAskedOf G.Chain r → IsSome (asked_arcs r)
  pub none : IsAskedOf G.Ratio r → IsSome (asked_none r)
  pub scale : IsAskedOf G.Chain r → IsSome (asked_scale r)
  pub proof : r.command ≡ Check → IsSome (asked_proof r)
  pub limited : r.command ≡ Eval → IsAskedOf G.Limited r
  pub offer : r.command ≡ Eval → IsSome (asked_offer r)
  pub seed : r.command ≡ Trial → IsSome (asked_seed r)
  pub count : r.command ≡ Trial → IsSome (asked_count r)
  pub used : (k : Key) → k ≢ NoKey → IsSome (word_of r k) → IsTrue (is_used (use_of k r.command) (unwrap_or (asked_model r) Logit))

-- ---- Words, in pairs of a key and its word.

abbrev pub command_of : List ℕ → Option Command
command_of word =
    if bytes_eq word (codes "solve") then Some Solve
    else (if bytes_eq word (codes "check") then Some Check
    else (if bytes_eq word (codes "eval") then Some Eval
    else (if bytes_eq word (codes "trial") then Some Trial
    else None)))

-- The key of the command that a word names.
abbrev pub key_of : Command → List ℕ → Option Key
key_of c word = find (λ k. is_known (use_of k c) && bytes_eq (text_of k) word) keys

-- A refusal at a word.
abbrev pub refused_at : UsageCode → ℕ → UsageFault
refused_at code p = record { code = code; word = p; key = NoKey }

-- A refusal for want of a key, or for one.
abbrev pub refused_for : UsageCode → Key → UsageFault
refused_for code k = record { code = code; word = 0; key = k }

-- Whether nested logit is asked for, in the place of a model.
abbrev pub asks_nested : Domain → List ℕ → Bool
asks_nested (Models g) word = bytes_eq word (codes "nested")
asks_nested Files word = false
asks_nested Assortments word = false
asks_nested (Numbers low high) word = false

-- The key of the word at place p, which is new.
abbrev pub new_key : RequestData → ℕ → List ℕ → Result Key UsageFault
new_key r p word = known (key_of r.command word)
  where
    known : Option Key → Result Key UsageFault
    known None = Err (refused_at UnknownOption p)
    known (Some k) = if is_given r k then Err (refused_at RepeatedOption p) else Ok k

-- The request with the word at place p for the key.
abbrev pub new_word : RequestData → Key → ℕ → List ℕ → Result RequestData UsageFault
new_word r k p word =
    if asks_nested (domain_of k r.command) word then Err (refused_at Nested p)
    else (if is_in_domain (domain_of k r.command) word then Ok (with_word r k word)
    else Err (refused_at BadValue p))

-- What comes of the first step, and then of the second.
abbrev pub and_then : {A B : Type 0} → Result A UsageFault → (A → Result B UsageFault) → Result B UsageFault
and_then (Ok a) f = f a
and_then (Err e) f = Err e

-- The words from place p on, in pairs of a key and its word.
abbrev pub with_pairs : RequestData → ℕ → List (List ℕ) → Result RequestData UsageFault
with_pairs r p [] = Ok r
with_pairs r p (key ∷ []) = and_then (new_key r p key) (λ k. Err (refused_at MissingValue p))
with_pairs r p (key ∷ word ∷ rest) =
    and_then (new_key r p key) (λ k. and_then (new_word r k (p + 1) word) (λ s. with_pairs s (p + 2) rest))

-- ---- The request as a whole.

-- Whether the command and the model need a key that isn't given. Without a model the first key is missing.
abbrev pub is_missing : RequestData → Key → Bool
is_missing r k = is_needed (use_of k r.command) (unwrap_or (asked_model r) Logit) && not (is_given r k)

-- Whether a key is given that the model doesn't use.
abbrev pub is_unused : RequestData → Key → Bool
is_unused r k = is_given r k && not (is_used (use_of k r.command) (unwrap_or (asked_model r) Logit))

-- Whether a file of this name is asked for.
abbrev pub is_named : List ℕ → Option (List ℕ) → Bool
is_named name None = false
is_named name (Some other) = bytes_eq name other

-- Whether the proof has the name of a file that is read.
abbrev pub proof_is_input : RequestData → Bool
proof_is_input r = named (asked_proof r)
  where
    named : Option (List ℕ) → Bool
    named None = false
    named (Some name) = is_named name (asked_products r) || is_named name (asked_limits r) || is_named name (asked_segments r) || is_named name (asked_arcs r)

-- A request that has all that its command and model need and nothing else, and whose proof is none of its inputs.
abbrev pub completed : RequestData → Result RequestData UsageFault
completed r = missing (find (is_missing r) keys)
  where
    unused : Option Key → Result RequestData UsageFault
    unused None = if proof_is_input r then Err (refused_at ProofIsInput 0) else Ok r
    unused (Some k) = Err (refused_for UnusedOption k)

    missing : Option Key → Result RequestData UsageFault
    missing None = unused (find (is_unused r) keys)
    missing (Some k) = Err (refused_for MissingOption k)

-- The request of the words, or their first refusal. Words are counted from 1.
abbrev pub asked_of : List (List ℕ) → Result RequestData UsageFault
asked_of [] = Err (refused_at NoCommand 0)
asked_of (word ∷ rest) = begun (command_of word)
  where
    begun : Option Command → Result RequestData UsageFault
    begun None = Err (refused_at UnknownCommand 1)
    begun (Some c) = and_then (with_pairs (bare_request c) 2 rest) completed

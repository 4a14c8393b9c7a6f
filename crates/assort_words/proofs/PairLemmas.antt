-- Words read in pairs of a key and its value: what comes of the next pair.
use Rattle.std.proofs.Common.{◌≡◌, ◌∙◌, ℕ, ◌+◌, ◌<◌, List, [], ◌∷◌, length, drop, slice_get, Some, Ok, Err, refl, arith, get_or, sym}
use Rattle.std.proofs.lemmas.List.{drop_more, drop_all}
use Rattle.std.proofs.lemmas.Option.{slice_get-get_or}
use Rattle.assort_words.specs.declared.usage.Command.{Command}
use Rattle.assort_words.specs.declared.usage.Key.{Key}
use Rattle.assort_words.specs.declared.usage.UsageFault.{UsageFault}
use Rattle.assort_words.specs.declared.usage.UsageCode.TheVariants.{MissingValue}
use Rattle.assort_words.specs.Asked.{RequestData, refused_at, new_key, new_word, with_pairs, bare_request, command_of, completed, asked_of}

-- the word at a place is the first of those from there on
pub word_at : (words : List (List ℕ)) (at : ℕ) (word : List ℕ) → at < length words → slice_get words at ≡ Some word
    → drop at words ≡ word ∷ drop (at + 1) words
word_at words at word inside there =
    let same : Some (get_or words at word) ≡ Some word = sym (slice_get-get_or words at word inside) ∙ there in
    let e : get_or words at word ≡ word = cc in
    rw (drop_more words at word inside, e) refl

key_refused : (r : RequestData) (p : ℕ) (key : List ℕ) (rest : List (List ℕ)) (fault : UsageFault)
    → new_key r p key ≡ Err fault → with_pairs r p (key ∷ rest) ≡ Err fault
key_refused r p key [] fault e = rw e refl
key_refused r p key (value ∷ rest) fault e = rw e refl

-- a key that is refused
pub at_bad_key : (r : RequestData) (words : List (List ℕ)) (at : ℕ) (key : List ℕ) (fault : UsageFault) → at < length words
    → slice_get words at ≡ Some key → new_key r (at + 1) key ≡ Err fault → with_pairs r (at + 1) (drop at words) ≡ Err fault
at_bad_key r words at key fault inside there e =
    rw (word_at words at key inside there) (key_refused r (at + 1) key (drop (at + 1) words) fault e)

-- a key without a value
pub at_last_key : (r : RequestData) (words : List (List ℕ)) (at : ℕ) (key : List ℕ) (k : Key) → at + 1 ≡ length words
    → slice_get words at ≡ Some key → new_key r (at + 1) key ≡ Ok k
    → with_pairs r (at + 1) (drop at words) ≡ Err (refused_at MissingValue (at + 1))
at_last_key r words at key k last there e =
    rw (word_at words at key (omega arith) there, drop_all (at + 1) words (omega arith), e) refl

-- the two words of a pair
pair_at : (words : List (List ℕ)) (at : ℕ) (key value : List ℕ) → at + 1 < length words → slice_get words at ≡ Some key
    → slice_get words (at + 1) ≡ Some value → drop at words ≡ key ∷ value ∷ drop (at + 2) words
pair_at words at key value inside first second =
    let e : at + 1 + 1 ≡ at + 2 = omega arith in
    rw (word_at words at key (omega arith) first, word_at words (at + 1) value inside second, e) refl

-- a value that is refused
pub at_bad_value : (r : RequestData) (words : List (List ℕ)) (at : ℕ) (key value : List ℕ) (k : Key) (fault : UsageFault) → at + 1 < length words
    → slice_get words at ≡ Some key → slice_get words (at + 1) ≡ Some value → new_key r (at + 1) key ≡ Ok k
    → new_word r k (at + 2) value ≡ Err fault → with_pairs r (at + 1) (drop at words) ≡ Err fault
at_bad_value r words at key value k fault inside first second e h =
    let same : at + 1 + 1 ≡ at + 2 = omega arith in
    rw (pair_at words at key value inside first second, e, same, h) refl

-- a pair that is taken
pub at_pair : (r : RequestData) (words : List (List ℕ)) (at : ℕ) (key value : List ℕ) (k : Key) (s : RequestData) → at + 1 < length words
    → slice_get words at ≡ Some key → slice_get words (at + 1) ≡ Some value → new_key r (at + 1) key ≡ Ok k
    → new_word r k (at + 2) value ≡ Ok s → with_pairs s (at + 2 + 1) (drop (at + 2) words) ≡ with_pairs r (at + 1) (drop at words)
at_pair r words at key value k s inside first second e h =
    let same : at + 1 + 1 ≡ at + 2 = omega arith in
    let next : at + 1 + 2 ≡ at + 2 + 1 = omega arith in
    rw (pair_at words at key value inside first second, e, same, h, next) refl

-- words that are taken, as a whole
pub at_end : (words : List (List ℕ)) (word : List ℕ) (c : Command) (r : RequestData) → slice_get words 0 ≡ Some word → command_of word ≡ Some c
    → with_pairs (bare_request c) 2 (drop 1 words) ≡ Ok r → asked_of words ≡ completed r
at_end [] word c r there named taken = absurd (cc)
at_end (w ∷ rest) word c r there named taken =
    let same : w ≡ word = cc in
    rw (same, named, taken) refl

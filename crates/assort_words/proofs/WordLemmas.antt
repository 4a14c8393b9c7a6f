-- The word that is given for each key, and what a request without a missing key has.
use Rattle.std.proofs.Common.{◌≡◌, ◌≢◌, refl, sym, subst, ℕ, zero, suc, ◌<◌, length, arith, List, [], ◌∷◌, slice_index_or, slice_set, Option, Some, None, is_some, unwrap_or, Bool, true, false, not, ◌&&◌, IsTrue, IsSome, IfSome, Bor, if◌then◌else◌}
use Rattle.std.specs.Prelude.{map}
use Rattle.std.specs.Option.{option_copied, option_and_then}
use Rattle.std.specs.List.{find}
use Rattle.std.proofs.Math.ListN.{get_or-map}
use Rattle.std.proofs.lemmas.List.{map-set}
use Rattle.offer_model.specs.declared.ranges.TheConstants.{MOST_AMOUNT, MOST_SCALE}
use Rattle.offer_model.specs.declared.products.ModelName.{ModelName}
use Rattle.offer_model.specs.declared.products.ModelName.TheVariants.{Logit, Attract, Mixed, Chain}
use Rattle.assort_words.specs.declared.usage.Command.{Command}
use Rattle.assort_words.specs.declared.usage.Command.TheVariants.{Solve, Check, Eval, Trial}
use Rattle.assort_words.specs.declared.usage.Key.{Key}
use Rattle.assort_words.specs.declared.usage.Key.TheVariants.{Model, Products, Limits, Segments, Arcs, NoneWeight, Away, Unit, Scale, Proof, Workers, Offer, Seed, Count, Save, NoKey}
use Rattle.assort_words.specs.declared.keys.Group.{Group}
use Rattle.assort_words.specs.declared.keys.Group.TheVariants as G
use Rattle.assort_words.specs.Keys.{keys, index_of, domain_of, use_of, is_in_domain, is_among, is_asked_of, is_needed, is_used, model_of, number_within, most_seed}
use Rattle.assort_words.specs.Asked.{RequestData, word_of, with_word, is_given, is_missing, is_unused, asked_model, has_model, IsInDomains, IsComplete}

-- the word that is read
pub word_read : (r : RequestData) (c : Command) (ws : List (Option (Bor (List ℕ)))) (i : ℕ) (k : Key) → i ≡ index_of k
    → r ≡ record { command = c; words = map option_copied ws } → option_copied (slice_index_or ws i None) ≡ word_of r k
word_read r c ws i k e v = rw (e, v) (sym (get_or-map option_copied ws (index_of k) None))

-- the request with one more word
pub word_set : (r : RequestData) (c : Command) (ws : List (Option (Bor (List ℕ)))) (i : ℕ) (k : Key) (w : Bor (List ℕ)) → i ≡ index_of k
    → r ≡ record { command = c; words = map option_copied ws }
    → (let s : RequestData = record { command = c; words = map option_copied (slice_set ws i (Some w)) } in s) ≡ with_word r k w.now
word_set r c ws i k w e v = rw (e, v, map-set option_copied ws (index_of k) (Some w)) refl

-- what holds of each word, by its index, holds after one more
each_word : (Q : ℕ → List ℕ → Type 0) (ws : List (Option (List ℕ))) (i j : ℕ) (w : List ℕ) → Q i w
    → IfSome (slice_index_or ws j None) (Q j) → IfSome (slice_index_or (slice_set ws i (Some w)) j None) (Q j)
each_word Q [] i j w q h = h
each_word Q (x ∷ xs) zero zero w q h = q
each_word Q (x ∷ xs) zero (suc j) w q h = h
each_word Q (x ∷ xs) (suc i) zero w q h = h
each_word Q (x ∷ xs) (suc i) (suc j) w q h = each_word (λ n. Q (suc n)) xs i j w q h

key_at : ℕ → Key
key_at n = slice_index_or keys n NoKey

key_at_index : (k : Key) → key_at (index_of k) ≡ k
unfolding key_at
key_at_index Model = refl
key_at_index Products = refl
key_at_index Limits = refl
key_at_index Segments = refl
key_at_index Arcs = refl
key_at_index NoneWeight = refl
key_at_index Away = refl
key_at_index Unit = refl
key_at_index Scale = refl
key_at_index Proof = refl
key_at_index Workers = refl
key_at_index Offer = refl
key_at_index Seed = refl
key_at_index Count = refl
key_at_index Save = refl
key_at_index NoKey = refl

-- a word of its key's domain keeps the request in its domains
pub domains_kept : (r : RequestData) (k : Key) (w : List ℕ) → IsInDomains r → IsTrue (is_in_domain (domain_of k r.command) w) → IsInDomains (with_word r k w)
domains_kept r k w each here = λ j.
    let Q : ℕ → List ℕ → Type 0 = λ n word. IsTrue (is_in_domain (domain_of (key_at n) r.command) word) in
    let new : Q (index_of k) w = subst (λ (z : Key). IsTrue (is_in_domain (domain_of z r.command) w)) (sym (key_at_index k)) here in
    let old : IfSome (word_of r j) (Q (index_of j)) = subst (λ (z : Key). IfSome (word_of r j) (λ word. IsTrue (is_in_domain (domain_of z r.command) word))) (sym (key_at_index j)) (each j) in
    subst (λ (z : Key). IfSome (word_of (with_word r k w) j) (λ word. IsTrue (is_in_domain (domain_of z r.command) word))) (key_at_index j)
    (each_word Q r.words (index_of k) (index_of j) w new old)

-- ---- Nothing is missing.

not_this : (b : Bool) (k : Key) (o : Option Key) → (if b then Some k else o) ≡ None → b ≡ false
not_this true k o e = absurd (cc)
not_this false k o e = refl

nor_later : (b : Bool) (k : Key) (o : Option Key) → (if b then Some k else o) ≡ None → o ≡ None
nor_later true k o e = absurd (cc)
nor_later false k o e = e

-- where nothing is found, no item of the list would do
none_found : (p : Key → Bool) (ks : List Key) (n : ℕ) → find p ks ≡ None → n < length ks → p (slice_index_or ks n NoKey) ≡ false
none_found p [] n e inside = absurd (omega arith)
none_found p (k ∷ ks) zero e inside = not_this (p k) k (find p ks) e
none_found p (k ∷ ks) (suc m) e inside = none_found p ks m (nor_later (p k) k (find p ks) e) (omega arith)

given_some : (o : Option (List ℕ)) → not (is_some o) ≡ false → IsSome o
given_some None e = absurd (cc)
given_some (Some w) e = refl

read_some : {T : Type 0} (o : Option (List ℕ)) (f : List ℕ → Option T) → not (is_some o) ≡ false
    → IfSome o (λ w. IsTrue (is_some (f w))) → IsSome (option_and_then f o)
read_some None f e h = absurd (cc)
read_some (Some w) f e h = h

-- a key that only a group's models need is given, where a model is asked for that is one of these
group_given : (m : Option ModelName) (g : Group) (given : Bool) → IsTrue (is_asked_of g m)
    → (is_among g (unwrap_or m Logit) && not given) ≡ false → not given ≡ false
group_given None g given asked e = cc
group_given (Some m) g given asked e = subst (λ (b : Bool). (b && not given) ≡ false) asked e

-- a word that names a model of a group
named_some : (o : Option (List ℕ)) (g : Group) → IsSome o → IfSome o (λ w. IsTrue (is_asked_of g (model_of w))) → IsTrue (is_asked_of g (option_and_then model_of o))
named_some None g some h = cc
named_some (Some w) g some h = h

asked_some : (m : Option ModelName) (g : Group) → IsTrue (is_asked_of g m) → IsSome m
asked_some None g e = cc
asked_some (Some m) g e = refl

-- no model is asked for, where no word is given for it
none_asked : (o : Option (List ℕ)) (g : Group) → (is_some o && not false) ≡ false → IsTrue (is_asked_of g (option_and_then model_of o)) → ⊥
none_asked None g e asked = cc
none_asked (Some w) g e asked = cc

-- no model is one of two groups that have none in common
never_chain : (m : Option ModelName) → IsTrue (is_asked_of G.Limited m) → IsTrue (is_asked_of G.Chain m) → ⊥
never_chain None limited chain = cc
never_chain (Some Logit) limited chain = cc
never_chain (Some Attract) limited chain = cc
never_chain (Some Mixed) limited chain = cc
never_chain (Some Chain) limited chain = cc

-- each key stands in the list of keys
key_listed : (k : Key) → k ≢ NoKey → index_of k < length keys
key_listed Model some = omega arith
key_listed Products some = omega arith
key_listed Limits some = omega arith
key_listed Segments some = omega arith
key_listed Arcs some = omega arith
key_listed NoneWeight some = omega arith
key_listed Away some = omega arith
key_listed Unit some = omega arith
key_listed Scale some = omega arith
key_listed Proof some = omega arith
key_listed Workers some = omega arith
key_listed Offer some = omega arith
key_listed Seed some = omega arith
key_listed Count some = omega arith
key_listed Save some = omega arith
key_listed NoKey some = absurd (some refl)

-- where no key is found, no key would do
no_key : (p : Key → Bool) (k : Key) → k ≢ NoKey → find p keys ≡ None → p k ≡ false
unfolding key_at
no_key p k some e = subst (λ (j : Key). p j ≡ false) (key_at_index k) (none_found p keys (index_of k) e (key_listed k some))

-- a key that is given and not unused is used
given_used : (o : Option (List ℕ)) (used : Bool) → (is_some o && not used) ≡ false → IsSome o → IsTrue used
given_used None used e some = absurd (cc)
given_used (Some w) true e some = refl
given_used (Some w) false e some = absurd (cc)

-- what holds of a word, of a copy of what is borrowed too
pub copied_valid : (o : Option (Bor (List ℕ))) (p : Option (List ℕ)) (f : List ℕ → Bool) → option_copied o ≡ p → IfSome p (λ w. IsTrue (f w)) → IfSome o (λ w. IsTrue (f w.now))
copied_valid None p f e h = tt
copied_valid (Some w) None f e h = cc
copied_valid (Some w) (Some v) f e h = let same : w.now ≡ v = cc in rw same h

-- ---- What a complete request has, by its command.

-- a request that is in its domains, without a missing key and without one that isn't used
record Checked (c : Command) (r : RequestData) : Type 0 where
  domains : (k : Key) → IfSome (word_of r k) (λ word. IsTrue (is_in_domain (domain_of k c) word))
  needed : (k : Key) → k ≢ NoKey → (is_needed (use_of k c) (unwrap_or (asked_model r) Logit) && not (is_given r k)) ≡ false
  used : (k : Key) → k ≢ NoKey → (is_given r k && not (is_used (use_of k c) (unwrap_or (asked_model r) Logit))) ≡ false

model_word : (c : Command) (r : RequestData) → Checked c r → IsTrue (has_model c) → IsSome (word_of r Model)
model_word Solve r h has = given_some (word_of r Model) (h.needed Model (λ eq. cc))
model_word Check r h has = given_some (word_of r Model) (h.needed Model (λ eq. cc))
model_word Eval r h has = given_some (word_of r Model) (h.needed Model (λ eq. cc))
model_word Trial r h has = cc

model_there : (c : Command) (r : RequestData) → Checked c r → IsTrue (has_model c) → IsSome (asked_model r)
model_there Solve r h has = asked_some (asked_model r) G.All (named_some (word_of r Model) G.All (model_word Solve r h has) (h.domains Model))
model_there Check r h has = asked_some (asked_model r) G.All (named_some (word_of r Model) G.All (model_word Check r h has) (h.domains Model))
model_there Eval r h has = asked_some (asked_model r) G.Limited (named_some (word_of r Model) G.Limited (model_word Eval r h has) (h.domains Model))
model_there Trial r h has = cc

products_there : (c : Command) (r : RequestData) → Checked c r → IsTrue (has_model c) → IsSome (word_of r Products)
products_there Solve r h has = given_some (word_of r Products) (h.needed Products (λ eq. cc))
products_there Check r h has = given_some (word_of r Products) (h.needed Products (λ eq. cc))
products_there Eval r h has = given_some (word_of r Products) (h.needed Products (λ eq. cc))
products_there Trial r h has = cc

limited_there : (r : RequestData) → Checked Eval r → IsTrue (is_asked_of G.Limited (asked_model r))
limited_there r h = named_some (word_of r Model) G.Limited (model_word Eval r h refl) (h.domains Model)

no_model : {A : Type 0} (r : RequestData) (g : Group) → Checked Trial r → IsTrue (is_asked_of g (asked_model r)) → A
no_model r g h asked = absurd (none_asked (word_of r Model) g (h.used Model (λ eq. cc)) asked)

segments_there : (c : Command) (r : RequestData) → Checked c r → IsTrue (is_asked_of G.Mixed (asked_model r)) → not (is_given r Segments) ≡ false
segments_there Solve r h asked = group_given (asked_model r) G.Mixed (is_given r Segments) asked (h.needed Segments (λ eq. cc))
segments_there Check r h asked = group_given (asked_model r) G.Mixed (is_given r Segments) asked (h.needed Segments (λ eq. cc))
segments_there Eval r h asked = group_given (asked_model r) G.Mixed (is_given r Segments) asked (h.needed Segments (λ eq. cc))
segments_there Trial r h asked = no_model r G.Mixed h asked

none_there : (c : Command) (r : RequestData) → Checked c r → IsTrue (is_asked_of G.Ratio (asked_model r)) → not (is_given r NoneWeight) ≡ false
none_there Solve r h asked = group_given (asked_model r) G.Ratio (is_given r NoneWeight) asked (h.needed NoneWeight (λ eq. cc))
none_there Check r h asked = group_given (asked_model r) G.Ratio (is_given r NoneWeight) asked (h.needed NoneWeight (λ eq. cc))
none_there Eval r h asked = group_given (asked_model r) G.Ratio (is_given r NoneWeight) asked (h.needed NoneWeight (λ eq. cc))
none_there Trial r h asked = no_model r G.Ratio h asked

arcs_there : (c : Command) (r : RequestData) → Checked c r → IsTrue (is_asked_of G.Chain (asked_model r)) → not (is_given r Arcs) ≡ false
arcs_there Solve r h asked = group_given (asked_model r) G.Chain (is_given r Arcs) asked (h.needed Arcs (λ eq. cc))
arcs_there Check r h asked = group_given (asked_model r) G.Chain (is_given r Arcs) asked (h.needed Arcs (λ eq. cc))
arcs_there Eval r h asked = absurd (never_chain (asked_model r) (limited_there r h) asked)
arcs_there Trial r h asked = no_model r G.Chain h asked

scale_there : (c : Command) (r : RequestData) → Checked c r → IsTrue (is_asked_of G.Chain (asked_model r)) → not (is_given r Scale) ≡ false
scale_there Solve r h asked = group_given (asked_model r) G.Chain (is_given r Scale) asked (h.needed Scale (λ eq. cc))
scale_there Check r h asked = group_given (asked_model r) G.Chain (is_given r Scale) asked (h.needed Scale (λ eq. cc))
scale_there Eval r h asked = absurd (never_chain (asked_model r) (limited_there r h) asked)
scale_there Trial r h asked = no_model r G.Chain h asked

-- a key that its command needs under each model
key_there : (c : Command) (r : RequestData) (k : Key) → Checked r.command r → r.command ≡ c → k ≢ NoKey
    → is_needed (use_of k c) (unwrap_or (asked_model r) Logit) ≡ true → not (is_given r k) ≡ false
key_there c r k h is some needed =
    let there : (is_needed (use_of k c) (unwrap_or (asked_model r) Logit) && not (is_given r k)) ≡ false =
    subst (λ (d : Command). (is_needed (use_of k d) (unwrap_or (asked_model r) Logit) && not (is_given r k)) ≡ false) is (h.needed k some) in
    subst (λ (b : Bool). (b && not (is_given r k)) ≡ false) needed there

-- a request in its domains without a missing key and without one that isn't used
pub has_all : (r : RequestData) → IsInDomains r → find (is_missing r) keys ≡ None → find (is_unused r) keys ≡ None → IsComplete r
has_all r each e f =
    let h : Checked r.command r = record {
      domains = each;
      needed = λ k some. no_key (is_missing r) k some e;
      used = λ k some. no_key (is_unused r) k some f;
    } in
    record {
      model = model_there r.command r h;
      products = products_there r.command r h;
      segments = λ mixed. given_some (word_of r Segments) (segments_there r.command r h mixed);
      arcs = λ chain. given_some (word_of r Arcs) (arcs_there r.command r h chain);
      none = λ ratio. read_some (word_of r NoneWeight) (number_within 1 MOST_AMOUNT) (none_there r.command r h ratio) (each NoneWeight);
      scale = λ chain. read_some (word_of r Scale) (number_within 1 MOST_SCALE) (scale_there r.command r h chain) (each Scale);
      proof = λ check. given_some (word_of r Proof) (key_there Check r Proof h check (λ eq. cc) refl);
      limited = λ eval. limited_there r (subst (λ (c : Command). Checked c r) eval h);
      offer = λ eval. given_some (word_of r Offer) (key_there Eval r Offer h eval (λ eq. cc) refl);
      seed = λ trial. read_some (word_of r Seed) (number_within 0 most_seed) (key_there Trial r Seed h trial (λ eq. cc) refl) (each Seed);
      count = λ trial. read_some (word_of r Count) (number_within 0 256) (key_there Trial r Count h trial (λ eq. cc) refl) (each Count);
      used = λ k known given. given_used (word_of r k) (is_used (use_of k r.command) (unwrap_or (asked_model r) Logit)) (no_key (is_unused r) k known f) given;
    }

-- The table of keys: for each its text, its domain, and its use by command and model. Own.
use Rattle.std.specs.Prelude.{ℕ, List, [], ◌∷◌, length, Option, Some, None, is_some, Bool, true, false, codes, if◌then◌else◌, nat_le, nat_lt, ◌&&◌}
use Rattle.std.specs.Option.{option_and_then}
use Rattle.std.specs.Str.{bytes_eq}
use Rattle.offer_model.specs.declared.products.ModelName.{ModelName}
use Rattle.offer_model.specs.declared.products.ModelName.TheVariants.{Logit, Attract, Mixed, Chain}
use Rattle.offer_model.specs.declared.ranges.TheConstants.{MOST_AMOUNT, MOST_SCALE}
use Rattle.offer_model.specs.Numerals.{number_of}
use Rattle.assort_words.specs.Offers.{is_assortment}
use Rattle.assort_words.specs.declared.usage.Command.{Command}
use Rattle.assort_words.specs.declared.usage.Command.TheVariants.{Solve, Check, Eval, Trial}
use Rattle.assort_words.specs.declared.usage.Key.{Key}
use Rattle.assort_words.specs.declared.usage.Key.TheVariants.{Model, Products, Limits, Segments, Arcs, NoneWeight, Away, Unit, Scale, Proof, Workers, Offer, Seed, Count, Save, NoKey}
use Rattle.assort_words.specs.declared.keys.Domain.{Domain}
use Rattle.assort_words.specs.declared.keys.Domain.TheVariants.{Models, Files, Assortments, Numbers}
use Rattle.assort_words.specs.declared.keys.Group.{Group}
use Rattle.assort_words.specs.declared.keys.Group.TheVariants as G
use Rattle.assort_words.specs.declared.keys.Use.{Use}
use Rattle.assort_words.specs.declared.keys.Use.TheVariants.{Never, May, Must, MayWith, MustWith}

-- The keys, in the order in which they are looked at.
abbrev pub keys : List Key
keys = Model ∷ Products ∷ Limits ∷ Segments ∷ Arcs ∷ NoneWeight ∷ Away ∷ Unit ∷ Scale ∷ Proof ∷ Workers ∷ Offer ∷ Seed ∷ Count ∷ Save ∷ []

-- The greatest seed: a seed has 64 bits.
abbrev pub most_seed : ℕ
most_seed = 18446744073709551615

-- A key's index in this list; that no key is given stands past the last.
abbrev pub index_of : Key → ℕ
index_of Model = 0
index_of Products = 1
index_of Limits = 2
index_of Segments = 3
index_of Arcs = 4
index_of NoneWeight = 5
index_of Away = 6
index_of Unit = 7
index_of Scale = 8
index_of Proof = 9
index_of Workers = 10
index_of Offer = 11
index_of Seed = 12
index_of Count = 13
index_of Save = 14
index_of NoKey = 15

-- A line of the table: the key as it is written, the values that it may have, and what a command makes of it.
pub record KeyRow : Type 0 where
  pub text : List ℕ
  pub domain_by : Command → Domain
  pub use_by : Command → Use

-- The models that a command knows.
abbrev pub models_of : Command → Group
models_of Solve = G.All
models_of Check = G.All
models_of Eval = G.Limited
models_of Trial = G.All

abbrev pub models_by : Command → Domain
models_by c = Models (models_of c)

-- The same values in each command.
abbrev pub in_all : Domain → Command → Domain
in_all d command = d

abbrev pub by_each : Use → Use → Use → Use → Command → Use
by_each solve check eval trial Solve = solve
by_each solve check eval trial Check = check
by_each solve check eval trial Eval = eval
by_each solve check eval trial Trial = trial

-- The table: what the four commands make of a key stands in the order solve, check, eval, trial.
abbrev pub row_of : Key → KeyRow
row_of Model = record { text = codes "--model"; domain_by = models_by; use_by = by_each Must Must Must Never }
row_of Products = record { text = codes "--products"; domain_by = in_all Files; use_by = by_each Must Must Must Never }
row_of Limits = record { text = codes "--limits"; domain_by = in_all Files; use_by = by_each (MayWith G.Limited) (MayWith G.Limited) (MayWith G.Limited) Never }
row_of Segments = record { text = codes "--segments"; domain_by = in_all Files; use_by = by_each (MustWith G.Mixed) (MustWith G.Mixed) (MustWith G.Mixed) Never }
row_of Arcs = record { text = codes "--arcs"; domain_by = in_all Files; use_by = by_each (MustWith G.Chain) (MustWith G.Chain) Never Never }
row_of NoneWeight = record { text = codes "--none"; domain_by = in_all (Numbers 1 MOST_AMOUNT); use_by = by_each (MustWith G.Ratio) (MustWith G.Ratio) (MustWith G.Ratio) Never }
row_of Away = record { text = codes "--away"; domain_by = in_all (Numbers 0 MOST_AMOUNT); use_by = by_each (MayWith G.Chain) (MayWith G.Chain) Never Never }
row_of Unit = record { text = codes "--unit"; domain_by = in_all (Numbers 1 MOST_AMOUNT); use_by = by_each (MayWith G.Mixed) (MayWith G.Mixed) (MayWith G.Mixed) Never }
row_of Scale = record { text = codes "--scale"; domain_by = in_all (Numbers 1 MOST_SCALE); use_by = by_each (MustWith G.Chain) (MustWith G.Chain) Never Never }
row_of Proof = record { text = codes "--proof"; domain_by = in_all Files; use_by = by_each May Must Never Never }
row_of Workers = record { text = codes "--workers"; domain_by = in_all (Numbers 1 64); use_by = by_each (MayWith G.Mixed) Never Never May }
row_of Offer = record { text = codes "--offer"; domain_by = in_all Assortments; use_by = by_each Never Never Must Never }
row_of Seed = record { text = codes "--seed"; domain_by = in_all (Numbers 0 most_seed); use_by = by_each Never Never Never Must }
row_of Count = record { text = codes "--count"; domain_by = in_all (Numbers 0 256); use_by = by_each Never Never Never Must }
row_of Save = record { text = codes "--save"; domain_by = in_all Files; use_by = by_each Never Never Never May }
row_of NoKey = record { text = []; domain_by = in_all Files; use_by = by_each Never Never Never Never }

abbrev pub text_of : Key → List ℕ
text_of k = (row_of k).text

-- The values that a key may have in a command.
abbrev pub domain_of : Key → Command → Domain
domain_of k c = (row_of k).domain_by c

abbrev pub use_of : Key → Command → Use
use_of k c = (row_of k).use_by c

-- ---- What the words of the table mean.

abbrev pub model_of : List ℕ → Option ModelName
model_of word =
    if bytes_eq word (codes "logit") then Some Logit
    else (if bytes_eq word (codes "attract") then Some Attract
    else (if bytes_eq word (codes "mixed") then Some Mixed
    else (if bytes_eq word (codes "chain") then Some Chain
    else None)))

abbrev pub within : ℕ → ℕ → ℕ → Option ℕ
within low high n = if nat_le low n && nat_le n high then Some n else None

-- A number between two bounds.
abbrev pub number_within : ℕ → ℕ → List ℕ → Option ℕ
number_within low high word = option_and_then (within low high) (number_of word)

-- Whether a model is one of a group.
abbrev pub is_among : Group → ModelName → Bool
is_among G.All m = true
is_among G.Ratio Logit = true
is_among G.Ratio Attract = true
is_among G.Ratio Mixed = false
is_among G.Ratio Chain = false
is_among G.Mixed Logit = false
is_among G.Mixed Attract = false
is_among G.Mixed Mixed = true
is_among G.Mixed Chain = false
is_among G.Chain Logit = false
is_among G.Chain Attract = false
is_among G.Chain Mixed = false
is_among G.Chain Chain = true
is_among G.Limited Logit = true
is_among G.Limited Attract = true
is_among G.Limited Mixed = true
is_among G.Limited Chain = false

-- Whether there is a model, and it is one of a group.
abbrev pub is_asked_of : Group → Option ModelName → Bool
is_asked_of g None = false
is_asked_of g (Some m) = is_among g m

-- Any text that isn't empty is a file's name.
abbrev pub is_in_domain : Domain → List ℕ → Bool
is_in_domain (Models g) word = is_asked_of g (model_of word)
is_in_domain Files word = nat_lt 0 (length word)
is_in_domain Assortments word = is_assortment word
is_in_domain (Numbers low high) word = is_some (number_within low high word)

-- Whether a command has such a key at all.
abbrev pub is_known : Use → Bool
is_known Never = false
is_known May = true
is_known Must = true
is_known (MayWith g) = true
is_known (MustWith g) = true

-- Whether the key has to be given with a model.
abbrev pub is_needed : Use → ModelName → Bool
is_needed Never m = false
is_needed May m = false
is_needed Must m = true
is_needed (MayWith g) m = false
is_needed (MustWith g) m = is_among g m

-- Whether the key may be given with a model.
abbrev pub is_used : Use → ModelName → Bool
is_used Never m = false
is_used May m = true
is_used Must m = true
is_used (MayWith g) m = is_among g m
is_used (MustWith g) m = is_among g m

-- What a request is about: a problem or a Markov chain over a catalogue. Own.
use Rattle.offer_model.specs.declared.products.ModelName.{ModelName}
use Rattle.offer_model.specs.declared.products.ModelName.TheVariants.{Logit, Attract, Mixed, Chain}
use Rattle.assort_words.specs.Asked.{RequestData}
use Rattle.assort_core.specs.declared.subject.Subject.{Subject}
use Rattle.assort_core.specs.declared.subject.Subject.TheVariants as S
use Rattle.assort_core.specs.Stages.{InputsData, tables, model_asked, asked_problem, asked_chain}
use Rattle.assort_core.specs.Judged.{GivesBefore}
use Rattle.offer_io.specs.Stores.{StoreView}
use Rattle.std.specs.Prelude.{◌≡◌, length}

-- By the model that is asked for.
abbrev pub subject_under : ModelName → RequestData → InputsData → Subject
subject_under Logit r i = S.Problem i.rows (asked_problem r i)
subject_under Attract r i = S.Problem i.rows (asked_problem r i)
subject_under Mixed r i = S.Problem i.rows (asked_problem r i)
subject_under Chain r i = S.Chain i.rows (asked_chain r i)

-- What a request is about, over what its files give.
abbrev pub asked_subject : RequestData → InputsData → Subject
asked_subject r i = subject_under (model_asked r) r i

-- The tables of a request are told and have no fault: they give this subject.
abbrev pub GivesSubject : RequestData → StoreView → Subject → Type 0
GivesSubject r store s = (i : InputsData) × GivesBefore (length tables) r store i × (s ≡ asked_subject r i)

use Rattle.assort_words.specs.declared.usage.Key.TheVariants.{Offer}
use Rattle.assort_words.proofs.WordLemmas.{copied_valid}
use Rattle.assort_words.specs.Offers.{is_assortment}
use Rattle.assort_words.proofs.request.Request.offer.Goals as goal

pub returns-clause-valid : goal.returns-clause-valid
returns-clause-valid c = copied_valid c.word.result _ is_assortment c.word.ensures.value (c.word.ensures.valid Offer)

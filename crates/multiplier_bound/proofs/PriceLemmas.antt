-- Sums of prices: the lemmas stand in offer_model and linear_weights, and have these names for callers too.
pub use Rattle.offer_model.proofs.SumLemmas.{int_sum_below-same as int_sum_same}
pub use Rattle.offer_model.proofs.ListLemmas.{get_or-any as get_or_any}
pub use Rattle.linear_weights.proofs.WeightLemmas.{greatest_worth-same as greatest_same}

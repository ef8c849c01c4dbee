pub mod SystemSpecLemmas
pub mod PlaceLemmas
pub mod MappedLemmas
pub mod ReverseLemmas

pub mod PathLemmas
pub mod TlvLemmas
pub mod GrammarLemmas
mod ReadingLemmas
pub mod WrittenLemmas

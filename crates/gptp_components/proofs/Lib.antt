pub mod ComponentLemmas
pub mod FoundLemmas
pub mod SpreadLemmas
pub mod ReachedLemmas
pub mod RankedLemmas

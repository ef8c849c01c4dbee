pub mod StatedLemmas
pub mod RoundLemmas
pub mod RouteLemmas
pub mod MarkingLemmas
pub mod MarkedLemmas
pub mod SettledLemmas

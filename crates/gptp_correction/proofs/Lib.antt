pub mod CarryLemmas
pub mod CarryLawProofs

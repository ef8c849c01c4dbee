pub mod ProductLemmas
pub mod FloorLemmas
mod RateLemmas
pub mod LawProofs
mod MachineLemmas
pub mod CountLemmas
pub mod TimeStampLemmas

pub mod SumLemmas
mod MachineLemmas
mod OptionLemmas
pub mod DelayLemmas
pub mod StandingLemmas
pub mod PassLemmas
mod EventLemmas
pub mod ReadingLemmas
pub mod ExactLemmas
mod TextLemmas
pub mod WayLemmas
pub mod OneLemmas
pub mod EveryLemmas

pub mod LaneLemmas
pub mod ExchangeLemmas
pub mod FactLemmas
pub mod BoundLemmas
pub mod PhaseLemmas
pub mod CountLemmas
pub mod InvariantLemmas
pub mod CapabilityLemmas
pub mod MeasuredLemmas
pub mod SilenceLemmas
pub mod FirstLemmas
pub mod OrderLemmas
mod ExampleLemmas
mod MeterExampleLemmas

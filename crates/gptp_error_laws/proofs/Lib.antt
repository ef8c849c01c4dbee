pub mod LinkLemmas
pub mod HopLemmas
pub mod CutLemmas
pub mod WayLemmas
pub mod LongerLemmas
mod ExampleLemmas

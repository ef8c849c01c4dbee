pub mod SizeLemmas
pub mod RightLemmas
pub mod ModestLemmas
pub mod FlowLemmas
pub mod FollowerLemmas
pub mod TellingLemmas
pub mod RunLemmas
pub mod TreeLemmas
mod ExampleLemmas

pub mod PlacedLemmas
pub mod PendingIndexLemmas
pub mod QueueLemmas
pub mod PendingLemmas
pub mod FlightLemmas
pub mod TrafficLemmas

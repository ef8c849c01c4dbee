pub mod Bounds
pub mod Draws
pub mod Fate
pub mod Flights
pub mod Queue
pub mod State

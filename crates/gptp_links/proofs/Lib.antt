pub mod DrawLemmas
pub mod FlightLemmas

pub mod Intervals
pub mod SettlingParams
pub mod Stamping

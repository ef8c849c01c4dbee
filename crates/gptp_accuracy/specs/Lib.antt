pub mod Ways
pub mod Readings
pub mod Sums
pub mod Passing
pub mod Settlings
pub mod TimeErrors
pub mod AccuracyText
pub mod Laws

pub mod Pair
pub mod Readings
pub mod Soon
pub mod Bounds
pub mod Ages

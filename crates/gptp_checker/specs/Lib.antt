pub mod Faults
pub mod LineTests
pub mod Places
pub mod Located

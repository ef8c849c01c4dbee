pub mod Pending
pub mod Numbers
pub mod Chain
pub mod Slots
pub mod Places
pub mod Wheel
pub mod Filed

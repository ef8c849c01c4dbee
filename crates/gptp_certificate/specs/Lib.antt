pub mod Stated
pub mod Stating
pub mod Rounds
pub mod Marking
pub mod Settled

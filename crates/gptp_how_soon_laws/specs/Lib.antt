pub mod Choice
pub mod Exact
pub mod Settled

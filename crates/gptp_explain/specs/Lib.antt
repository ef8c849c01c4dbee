pub mod Compared
pub mod Why
pub mod Ports
pub mod Ranks
pub mod Explained
pub mod Writing
pub mod Laws

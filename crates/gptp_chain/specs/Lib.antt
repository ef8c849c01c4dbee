pub mod Queues
pub mod Chain

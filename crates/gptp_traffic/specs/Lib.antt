pub mod Flight
pub mod Pending
pub mod PendingIndex
pub mod Traffic

pub mod SyncIn
pub mod Correction
pub mod Sum
pub mod Carry
pub mod CarryLaws

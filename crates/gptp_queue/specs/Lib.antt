pub mod Entry
pub mod MaybeEntry
pub mod Waiting
pub mod Order
pub mod Table
pub mod Queue
pub mod Slots

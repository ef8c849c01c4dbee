pub mod Qualification
pub mod Held
pub mod Span

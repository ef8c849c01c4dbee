pub mod Digits
pub mod Roles
pub mod Lines

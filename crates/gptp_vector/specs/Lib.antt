pub mod Vector
pub mod Trace

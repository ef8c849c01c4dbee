pub mod Certificate
pub mod Entries
pub mod CertificateText
pub mod Words
pub mod Forms
pub mod Lines
pub mod Faults
pub mod Parsing

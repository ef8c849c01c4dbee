pub mod LineLemmas
pub mod ReportLemmas
pub mod RunLemmas
pub mod FrameLemmas

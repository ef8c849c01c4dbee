pub mod LogLemmas
pub mod NetworkLemmas
pub mod SpanLemmas
pub mod OctetLemmas
pub mod AfterLemmas
pub mod InUseLemmas
pub mod SyncWaitLemmas

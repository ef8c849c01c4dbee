pub mod IntervalLemmas
pub mod SettlingParamsLemmas

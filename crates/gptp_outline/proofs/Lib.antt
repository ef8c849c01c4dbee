mod ValueLemmas
mod RowLemmas
pub mod OutlineLemmas
mod CounterLemmas
mod InlineLemmas

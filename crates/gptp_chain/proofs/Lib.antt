pub mod ChainLemmas
pub mod QueuesLemmas

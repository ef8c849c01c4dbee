pub mod ChoiceLemmas
pub mod EachLemmas
pub mod RoleLemmas
pub mod RestLemmas
pub mod SlaveLemmas

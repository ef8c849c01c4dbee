pub mod EachLemmas
pub mod KeptLemmas
pub mod RootLemmas
pub mod CaseLemmas
pub mod StayLemmas
pub mod TimesLemmas
pub mod RunLemmas
pub mod OutcomeLemmas
pub mod ProgressLemmas
pub mod RefusalLemmas
pub mod TextLemmas
pub mod AnswerLemmas
pub mod BoundsLemmas
pub mod RangeLemmas
pub mod MostLemmas
pub mod PlacedLemmas
mod EventsLemmas
mod DownLemmas
mod PlayableLemmas
mod ReturnLemmas
mod WellLemmas
mod LivedLemmas
mod SeededLemmas
mod FollowLemmas
mod WithinLemmas
pub mod OrderLemmas
pub mod OneLemmas
mod EveryRankingLemmas
mod EveryPlanLemmas
mod EveryOutcomeLemmas
pub mod EveryLemmas
pub mod BehindLemmas

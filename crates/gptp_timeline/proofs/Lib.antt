pub mod AmountLemmas
pub mod LineLemmas
pub mod PortLemmas
pub mod MeasureLemmas
pub mod ShownLemmas
pub mod PlaceLemmas
pub mod StandLemmas
pub mod EachLemmas
pub mod SameLemmas
pub mod StillLemmas
pub mod ActLemmas
pub mod MeasuredLemmas
pub mod ChainLemmas
pub mod TrackLemmas
pub mod StepLemmas
pub mod OwnLemmas
pub mod ReceiptLemmas
pub mod ActStepLemmas
pub mod EventLemmas
pub mod CountLemmas
pub mod RootLemmas
pub mod HeardLemmas
mod AtRestLemmas
mod ComparedLemmas
pub mod LeavingLemmas
pub mod LookLemmas
pub mod ChainStepLemmas
pub mod StretchesSoFarLemmas
pub mod CutLemmas
pub mod GoOnLemmas
pub mod PassLemmas
pub mod NameLemmas
mod ClockLemmas
mod LookedLemmas
mod JumpLemmas
mod NewReadingLemmas
mod PutLemmas
pub mod TimeSourceLemmas
pub mod SourceLemmas
mod SourceEndsLemmas
pub mod KeeperLemmas
pub mod AsideLemmas
pub mod AccountLemmas
pub mod ObservedLemmas
pub mod TimelineLemmas
pub mod UnfoldLemmas
pub mod TellingLemmas
pub mod ErrorLemmas
pub mod EndLemmas
pub mod BeginLemmas
pub mod ExactLemmas
pub mod DefaultEndLemmas
pub mod RestLemmas
pub mod BehindLemmas
pub mod PastLemmas
pub mod SettlingLemmas
pub mod FollowedLemmas
pub mod WayLemmas
pub mod WithinLemmas
pub mod RightLemmas
pub mod DifferenceLemmas

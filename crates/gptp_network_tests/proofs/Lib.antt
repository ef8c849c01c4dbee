mod DocumentLemmas
mod ExactLemmas
mod ReadingLemmas
mod HeardLemmas
mod PairLemmas
mod SoonLemmas
mod BoundsLemmas
mod AgeLemmas

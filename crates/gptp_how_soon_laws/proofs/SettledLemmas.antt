-- Each run has settled by the bounds that are told of a time.
use Rattle.std.proofs.Common.{ℕ, Option}
use Rattle.gptp_links.specs.declared.bounds.Bounds.{Bounds}
use Rattle.gptp_settling_time.proofs.ChoiceBoundLemmas.{choice_alone_bounds_hold, choice_bounds_hold}
use Rattle.gptp_how_soon_laws.specs.Settled.{ChoosesSoon, SettlesSoon}
use Rattle.gptp_how_soon_laws.proofs.ChoiceLemmas.{settlings_are_choice_bounds}

pub settles_soon : {F : Type 0} (answers : Bounds → ℕ → F → Option ℕ → F → Type 0) → SettlesSoon answers
settles_soon answers d time s next until fate first w ts t playable k member told is none late early =
    choice_bounds_hold answers d time.at s.roles next until fate first w ts t playable k member
    (settlings_are_choice_bounds d time s playable told is).0 none late early

pub chooses_soon : {F : Type 0} (answers : Bounds → ℕ → F → Option ℕ → F → Type 0) → ChoosesSoon answers
chooses_soon answers d time s next until fate first w ts t playable k member told is none late early =
    choice_alone_bounds_hold answers d time.at s.choice next until fate first w ts t playable k member
    (settlings_are_choice_bounds d time s playable told is).1 none late early

-- Ports beside failed systems that stay silent.
use Rattle.std.proofs.Common.{◌≡◌, ◌⊎◌, ℕ, true, List, Some, slice_get, inl, inr}
use Rattle.gptp_links.specs.Fate.{Draw}
use Rattle.gptp_setup.specs.SettlingParams.{SettlingParams}
use Rattle.gptp_scenario.specs.declared.change.Act.{Act}
use Rattle.gptp_model.specs.Acts.{Acts, at as at_time}
use Rattle.gptp_model.specs.World.{Channel, WorldState}
use Rattle.gptp_model.specs.declared.done.Done.{Done}
use Rattle.gptp_invariants.specs.ChoiceSeenLaws.{IsNoChange}
use Rattle.gptp_invariants.specs.ChoiceSettlesAsMachine.{IsWorld}
use Rattle.gptp_invariants.specs.DelayLinkView.{LinkPlace}
use Rattle.gptp_invariants.specs.DelayMeasured.{LinkIsMeasured}
use Rattle.gptp_invariants.specs.FailedUnanswered.{StandsUnanswered}
use Rattle.gptp_invariants.specs.WorldNews.{AreSilentBy, IsSilentBy}
use Rattle.gptp_invariants.specs.WorldStanding.{channel_is_used, live_stations}
use Rattle.gptp_invariants.proofs.DelayCapableKeptLemmas.{no_change}
use Rattle.gptp_invariants.proofs.FailedLastAnsweredLemmas.{last_acts, last_later}
use Rattle.gptp_invariants.proofs.FailedOffLemmas.{off_acts, off_later}
use Rattle.gptp_invariants.proofs.WorldBeforeLemmas.{none_anew, stood_earlier}

-- The port there was unanswered before too, and isn't capable from whatever time on it wasn't capable from then.
pub record StaysSilent (p : SettlingParams) (at : LinkPlace) (w w' : WorldState) : Type 0 where
  pub stood : StandsUnanswered at w
  pub silent : (start : ℕ) → IsSilentBy p start at w → IsSilentBy p start at w'

abbrev pub AllStaySilent : SettlingParams → WorldState → WorldState → Type 0
AllStaySilent p w w' = (at : LinkPlace) → StandsUnanswered at w' → StaysSilent p at w w'

-- so no port that is unanswered is capable from a time on
pub stay_silent : (p : SettlingParams) (start : ℕ) (w w' : WorldState) → AllStaySilent p w w' → AreSilentBy p start w
    → AreSilentBy p start w'
stay_silent p start w w' stays silent at s = let x = stays at s in x.silent start (silent at x.stood)

-- The link at this place was in use.
pub record WasUsedIn (w : WorldState) (link : ℕ) : Type 0 where
  pub channel : Channel
  pub here : slice_get w.net.channels link ≡ Some channel
  pub used : channel_is_used (live_stations w.stations) channel ≡ true

-- As something is taken away the port there is off from whatever time on, or stays silent, or its link was in use.
abbrev pub GoesSilent : SettlingParams → LinkPlace → WorldState → WorldState → Type 0
GoesSilent p at w w' = ((start : ℕ) → IsSilentBy p start at w') ⊎ (StaysSilent p at w w' ⊎ WasUsedIn w at.link)

-- time passes
pub silent_time : (p : SettlingParams) (time : ℕ) (w : WorldState) → AllStaySilent p w (at_time time w)
silent_time p time w at s = record {
  stood = stood_earlier at time w s;
  silent = λ start is. elim is [
    | inl off ↦ inl (off_later at time w off)
    | inr (sent, last, soon) ↦ inr (sent, last_later sent at time w last, soon)
  ];
}

-- an act is carried out that is no change
pub silent_acts : (p : SettlingParams) (act : Act) (w : WorldState) (draws : List Draw) (done : Done) (w' : WorldState)
    → IsNoChange act → Acts act w draws done w' → IsWorld p w → LinkIsMeasured w → AllStaySilent p w w'
silent_acts p act w draws done w' none k is measured at s = record {
  stood = none_anew at act w w' draws done (no_change act none) k s;
  silent = λ start so. elim so [
    | inl off ↦ inl (off_acts at act w draws done w' none k is.sound measured off)
    | inr (sent, last, soon) ↦ inr (sent, last_acts p sent at act w draws done w' none k is measured last, soon)
  ];
}

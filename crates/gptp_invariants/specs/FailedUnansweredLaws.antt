-- Laws: a world, seen at a port on a link whose other end has failed, is the machine of gptp_pdelay_machine.
use Rattle.std.specs.Prelude.{◌≡◌, ◌≢◌, ◌+◌, ◌≤◌, ℕ, false, List, Option, Some}
use Rattle.gptp_links.specs.declared.link.Direction.{Direction}
use Rattle.gptp_links.specs.Fate.{Draw}
use Rattle.gptp_pdelay.specs.Peer.{is_capable}
use Rattle.gptp_system.specs.declared.answer.Answer.{Answer}
use Rattle.gptp_system.specs.declared.port.Port.{Port}
use Rattle.gptp_setup.specs.declared.timer.Timer.{Timer}
use Rattle.gptp_setup.specs.declared.timer.Timer.TheVariants as timers
use Rattle.gptp_setup.specs.Intervals.{interval_of}
use Rattle.gptp_setup.specs.SettlingParams.{SettlingParams, largest_interval}
use Rattle.gptp_system.specs.State.{number}
use Rattle.gptp_scenario.specs.declared.change.Act.{Act}
use Rattle.gptp_scenario.specs.declared.change.Act.TheVariants.{Change as Changing}
use Rattle.gptp_scenario.specs.declared.change.Change.{Change}
use Rattle.gptp_model.specs.declared.done.Done.{Done}
use Rattle.gptp_model.specs.Act.{Delivers, TimerRunsOut}
use Rattle.gptp_model.specs.Acts.{Acts, at as at_time}
use Rattle.gptp_scenario.specs.SettlingTime.{capability_span}
use Rattle.gptp_model.specs.Sound.{IsSound}
use Rattle.gptp_model.specs.World.{WorldState, sender}
use Rattle.gptp_pdelay_machine.specs.Silence.{ActsInVain, AsksInVain, HearsOld, PassesInVain, TimerFacts}
use Rattle.gptp_invariants.specs.DelayMeasured.{LinkIsMeasured}
use Rattle.gptp_invariants.specs.DelayLinkView.{LinkPlace, other_direction}
use Rattle.gptp_invariants.specs.WorldKnown.{IsKnown}
use Rattle.gptp_invariants.specs.FailedUnanswered.{FailedNeighboursAreSilent, IsOldBy, IsSeenUnanswered, IsSilent, IsUnansweredAt, StandsUnanswered, silent_setting, silent_view}

-- where a live and a failed station stand at a link that is up, the machine is seen
abbrev pub PortsAreSeen : Type 0
PortsAreSeen = (at : LinkPlace) (w : WorldState) → IsSound w → LinkIsMeasured w → StandsUnanswered at w
    → IsUnansweredAt at w

-- the last request isn't in the future, and the request timer isn't late
abbrev pub TimersAreKnown : Type 0
TimersAreKnown = (at : LinkPlace) (p : SettlingParams) (w : WorldState) (l : IsUnansweredAt at w) → IsSound w
    → IsKnown p w
    → TimerFacts (silent_setting at w l) (silent_view at w l)

-- ---- acts

-- time passes at the port as it passes in the world
abbrev pub SilentTimePasses : Type 0
SilentTimePasses = (at : LinkPlace) (gone time : ℕ) (w : WorldState) (l : IsUnansweredAt at w) → w.time ≤ time
    → IsOldBy gone at w l
    → IsSeenUnanswered (λ k s s'. PassesInVain s s') gone at w (at_time time w) l

-- a timer that expires at any system is one act
abbrev pub SilentExpiriesAreActs : Type 0
SilentExpiriesAreActs = (at : LinkPlace) (gone place : ℕ) (timer : Timer) (w w' : WorldState) (draws : List Draw)
    (l : IsUnansweredAt at w)
    → IsSound w → IsOldBy gone at w l → TimerRunsOut place timer w draws w'
    → IsSeenUnanswered (λ k s s'. ActsInVain k gone s s') gone at w w' l

-- a frame that is delivered on any link is one act of the machine, seen at the port whose neighbour has failed
abbrev pub SilentDeliveriesAreActs : Type 0
SilentDeliveriesAreActs = (at : LinkPlace) (gone link : ℕ) (direction : Direction) (octets : List ℕ) (w w' : WorldState)
    (draws : List Draw) (answer : Option Answer) (l : IsUnansweredAt at w)
    → IsSound w → LinkIsMeasured w → IsOldBy gone at w l → Delivers link direction octets w draws answer w'
    → IsSeenUnanswered (λ k s s'. ActsInVain k gone s s') gone at w w' l

-- every act of a world but a change is one act
abbrev pub SilentActsAreActs : Type 0
SilentActsAreActs = (at : LinkPlace) (gone : ℕ) (act : Act) (w w' : WorldState) (draws : List Draw) (done : Done)
    (l : IsUnansweredAt at w)
    → IsSound w → LinkIsMeasured w → IsOldBy gone at w l → ((change : Change) → act ≢ Changing change)
    → Acts act w draws done w'
    → IsSeenUnanswered (λ k s s'. ActsInVain k gone s s') gone at w w' l

-- the port's Pdelay timer asks in vain
abbrev pub SilentRequestTimersAsk : Type 0
SilentRequestTimersAsk = (at : LinkPlace) (gone : ℕ) (w w' : WorldState) (draws : List Draw) (l : IsUnansweredAt at w)
    → IsSound w → IsOldBy gone at w l
    → TimerRunsOut at.asking (timers.Pdelay (sender at.direction l.channel).port) w draws w'
    → IsSeenUnanswered (λ k s s'. AsksInVain k s s') gone at w w' l

-- a frame that is delivered to the port whose neighbour has failed is an old one
abbrev pub SilentAskersHear : Type 0
SilentAskersHear = (at : LinkPlace) (gone : ℕ) (octets : List ℕ) (w w' : WorldState) (draws : List Draw)
    (answer : Option Answer) (l : IsUnansweredAt at w)
    → IsSound w → LinkIsMeasured w → IsOldBy gone at w l
    → Delivers at.link (other_direction at.direction) octets w draws answer w'
    → IsSeenUnanswered (λ k s s'. HearsOld gone s s') gone at w w' l

-- ---- from the last change on

-- just after a change old frames are gone the largest announce interval later, and no more requests are lost than may
-- be
abbrev pub SilenceBegins : Type 0
SilenceBegins = (at : LinkPlace) (p : SettlingParams) (w : WorldState)
    → IsSound w → IsKnown p w → IsUnansweredAt at w → w.last_change ≡ w.time
    → IsSilent (w.last_change + largest_interval p) at w

-- every act but a change leaves the port unanswered
abbrev pub SilenceIsKept : Type 0
SilenceIsKept = (at : LinkPlace) (gone : ℕ) (p : SettlingParams) (act : Act) (w w' : WorldState) (draws : List Draw)
    (done : Done)
    → IsSound w → LinkIsMeasured w → IsKnown p w → ((change : Change) → act ≢ Changing change)
    → Acts act w draws done w'
    → IsSilent gone at w
    → IsSilent gone at w'

-- as time passes the port whose neighbour has failed stays unanswered
abbrev pub SilenceGoesOn : Type 0
SilenceGoesOn = (at : LinkPlace) (gone time : ℕ) (w : WorldState) → IsSilent gone at w
    → IsSilent gone at (at_time time w)

-- the port isn't capable from L + 5 announce intervals after the last change on, where L is the number of requests that
-- may be lost
abbrev pub PortsBecomeIncapable : Type 0
PortsBecomeIncapable = (at : LinkPlace) (p : SettlingParams) (change : ℕ) (w : WorldState)
    → IsSound w → IsKnown p w → interval_of p.params.pdelay ≤ largest_interval p
    → (l : IsSilent (change + largest_interval p) at w)
    → change + capability_span p ≤ w.time
    → is_capable l.link.asking.state.peer ≡ false

-- ---- wherever all stands so

-- what stands so after an act that is no change stood so before it
abbrev pub NoneStandsAnew : Type 0
NoneStandsAnew = (at : LinkPlace) (act : Act) (w w' : WorldState) (draws : List Draw) (done : Done)
    → ((change : Change) → act ≢ Changing change) → Acts act w draws done w'
    → StandsUnanswered at w' → StandsUnanswered at w

-- just after a change each port of a live station whose link is up and leads to a failed one is unanswered
abbrev pub AreSilentAtFirst : Type 0
AreSilentAtFirst = (p : SettlingParams) (w : WorldState) → IsSound w → LinkIsMeasured w → IsKnown p w
    → w.last_change ≡ w.time
    → FailedNeighboursAreSilent p w

-- after every act but a change
abbrev pub ActsLeaveSilent : Type 0
ActsLeaveSilent = (p : SettlingParams) (act : Act) (w w' : WorldState) (draws : List Draw) (done : Done)
    → IsSound w → LinkIsMeasured w → IsKnown p w → ((change : Change) → act ≢ Changing change)
    → Acts act w draws done w'
    → FailedNeighboursAreSilent p w
    → FailedNeighboursAreSilent p w'

-- as time passes each port of a live station whose link is up and leads to a failed one stays unanswered
abbrev pub AreSilentLater : Type 0
AreSilentLater = (p : SettlingParams) (time : ℕ) (w : WorldState) → FailedNeighboursAreSilent p w
    → FailedNeighboursAreSilent p (at_time time w)

-- no port of a live station whose link is up and leads to a failed one is capable from L + 5 announce intervals after
-- the last change on, where L is the number of requests that may be lost
abbrev pub SilentPortsBecomeIncapable : Type 0
SilentPortsBecomeIncapable = (p : SettlingParams) (w : WorldState)
    → IsSound w → IsKnown p w → interval_of p.params.pdelay ≤ largest_interval p → FailedNeighboursAreSilent p w
    → w.last_change + capability_span p ≤ w.time
    → (at : LinkPlace) (s : StandsUnanswered at w) (q : Port)
    → number s.asking.station.system.ports (sender at.direction s.channel).port ≡ Some q
    → is_capable q.peer ≡ false

-- Laws: the acts of a world, seen at a link, are acts of the machine of gptp_pdelay_machine.
use Rattle.std.specs.Prelude.{◌≡◌, ◌≢◌, ◌<◌, ◌≤◌, ℕ, List, Option, Some, slice_get}
use Rattle.gptp_lists.specs.Members.{In}
use Rattle.gptp_links.specs.declared.link.Direction.{Direction}
use Rattle.gptp_links.specs.Fate.{Draw}
use Rattle.gptp_links.specs.Queue.{Frame}
use Rattle.gptp_system.specs.declared.answer.Answer.{Answer}
use Rattle.gptp_setup.specs.declared.timer.Timer.{Timer}
use Rattle.gptp_setup.specs.declared.timer.Timer.TheVariants as timers
use Rattle.gptp_scenario.specs.declared.change.Act.{Act}
use Rattle.gptp_scenario.specs.declared.change.Act.TheVariants.{Change as Changing}
use Rattle.gptp_scenario.specs.declared.change.Change.{Change}
use Rattle.gptp_model.specs.declared.done.Done.{Done}
use Rattle.gptp_scenario.specs.declared.network.LinkSpec.{LinkSpec}
use Rattle.gptp_model.specs.Act.{Delivers, TimerRunsOut}
use Rattle.gptp_model.specs.Acts.{Acts, at as at_time}
use Rattle.gptp_model.specs.Changing.{StartsAll}
use Rattle.gptp_model.specs.Initial.{initial}
use Rattle.gptp_scenario.specs.Network.{NetworkState}
use Rattle.gptp_scenario.specs.Prompt.{DelayFitsInterval}
use Rattle.gptp_model.specs.Pending.{NothingBefore}
use Rattle.gptp_model.specs.Sound.{IsSound}
use Rattle.gptp_model.specs.World.{WorldState, world_queue, receiver, sender}
use Rattle.gptp_pdelay_machine.specs.Acts.{AnswerTimerExpires, AnswererHears, AskerHears, RequestTimerExpires}
use Rattle.gptp_pdelay_machine.specs.Facts.{Facts, NothingIsDueBefore}
use Rattle.gptp_pdelay_machine.specs.Invariant.{IsJustChanged}
use Rattle.gptp_pdelay_machine.specs.Meter.{MeterPasses}
use Rattle.gptp_invariants.specs.WorldEncodableLaws.{SetsAnOctet}
use Rattle.gptp_invariants.specs.DelayLinkView.{IsLinkOf, LinkPlace, reads_as_request, other_direction, pair, reads_as_reply, link_setting}
use Rattle.gptp_invariants.specs.DelayLinkActs.{IsOneAct, IsSeenAtLink}
use Rattle.gptp_invariants.specs.DelayMeasured.{LinkIsMeasured, LinkStandsAt}
use Rattle.gptp_invariants.specs.WorldShort.{IsShort}

-- time passes at a link as it passes in the world
abbrev pub TimePasses : Type 0
TimePasses = (at : LinkPlace) (time : ℕ) (w : WorldState) (l : IsLinkOf at w) → w.time ≤ time
    → IsSeenAtLink (λ k m m'. MeterPasses m m') at w (at_time time w) l

-- a timer that expires at any system is one act
abbrev pub ExpiriesAreActs : Type 0
ExpiriesAreActs = (at : LinkPlace) (place : ℕ) (timer : Timer) (w w' : WorldState) (draws : List Draw)
    (l : IsLinkOf at w)
    → IsSound w → TimerRunsOut place timer w draws w'
    → IsOneAct at w w' l

-- a frame that is delivered on any link of the world is, seen at this link, one act of the machine of
-- gptp_pdelay_machine
abbrev pub DeliveriesAreActs : Type 0
DeliveriesAreActs = (at : LinkPlace) (link : ℕ) (direction : Direction) (octets : List ℕ) (w w' : WorldState)
    (draws : List Draw) (answer : Option Answer) (l : IsLinkOf at w)
    → IsSound w → Delivers link direction octets w draws answer w'
    → IsOneAct at w w' l

-- the Pdelay timer of the port that asks sends a request, and the Respond timer of the port that answers an
-- answer
abbrev pub RequestTimersAsk : Type 0
RequestTimersAsk = (at : LinkPlace) (w w' : WorldState) (draws : List Draw) (l : IsLinkOf at w)
    → IsSound w → TimerRunsOut at.asking (timers.Pdelay (sender at.direction l.channel).port) w draws w'
    → IsSeenAtLink (λ k m m'. RequestTimerExpires k reads_as_request reads_as_reply m.pair m'.pair) at w w' l

abbrev pub AnswerTimersAnswer : Type 0
AnswerTimersAnswer = (at : LinkPlace) (w w' : WorldState) (draws : List Draw) (l : IsLinkOf at w)
    → IsSound w → TimerRunsOut at.answering (timers.Respond (receiver at.direction l.channel).port) w draws w'
    → IsSeenAtLink (λ k m m'. AnswerTimerExpires k reads_as_request reads_as_reply m.pair m'.pair) at w w' l

-- a frame that is delivered on this link in this direction is heard by the port that answers, and one in the other by
-- the port that asks
abbrev pub AnswerersHear : Type 0
AnswerersHear = (at : LinkPlace) (octets : List ℕ) (w w' : WorldState) (draws : List Draw) (answer : Option Answer)
    (l : IsLinkOf at w)
    → IsSound w → Delivers at.link at.direction octets w draws answer w'
    → IsSeenAtLink (λ k m m'. AnswererHears k reads_as_request reads_as_reply m.pair m'.pair) at w w' l

abbrev pub AskersHear : Type 0
AskersHear = (at : LinkPlace) (octets : List ℕ) (w w' : WorldState) (draws : List Draw) (answer : Option Answer)
    (l : IsLinkOf at w)
    → IsSound w → Delivers at.link (other_direction at.direction) octets w draws answer w'
    → IsSeenAtLink (λ k m m'. AskerHears k reads_as_request reads_as_reply m.pair m'.pair) at w w' l

-- every act of a world but a change is one act
abbrev pub ActsAreActs : Type 0
ActsAreActs = (at : LinkPlace) (act : Act) (w w' : WorldState) (draws : List Draw) (done : Done) (l : IsLinkOf at w)
    → IsSound w → ((change : Change) → act ≢ Changing change) → Acts act w draws done w'
    → IsOneAct at w w' l

-- where two live stations stand at a link that is up, loses nothing and is good, the machine is seen
abbrev pub LinksAreSeen : Type 0
LinksAreSeen = (at : LinkPlace) (w : WorldState) → IsSound w → LinkIsMeasured w → LinkStandsAt at w → IsLinkOf at w

-- what must be known of the measuring is kept by every act, a change too
abbrev pub MeasuredIsKept : Type 0
MeasuredIsKept = (act : Act) (w w' : WorldState) (draws : List Draw) (done : Done)
    → IsSound w → LinkIsMeasured w → SetsAnOctet act → Acts act w draws done w'
    → LinkIsMeasured w'

-- by time that passes
abbrev pub MeasuredHoldsLater : Type 0
MeasuredHoldsLater = (time : ℕ) (w : WorldState) → w.time ≤ time → LinkIsMeasured w → LinkIsMeasured (at_time time w)

-- the start of all systems keeps what must be known of the measuring, which holds of the world of a network before that
abbrev pub StartsMeasured : Type 0
StartsMeasured = (places : List ℕ) (w w' : WorldState) (draws : List Draw)
    → IsSound w → LinkIsMeasured w → StartsAll places w draws w'
    → LinkIsMeasured w'

abbrev pub InitiallyMeasured : Type 0
InitiallyMeasured = (n : NetworkState) → LinkIsMeasured (initial n)

-- nothing at a link is due before anything is that is pending in the world
abbrev pub NothingIsLate : Type 0
NothingIsLate = (at : LinkPlace) (time : ℕ) (w : WorldState) (l : IsLinkOf at w)
    → IsSound w → NothingBefore time w.net.pending
    → NothingIsDueBefore (link_setting at w l) time (pair at w l)

-- what is in flight on the link is due by then
abbrev pub IsGoneBy : ℕ → (at : LinkPlace) (w : WorldState) → IsLinkOf at w → Type 0
IsGoneBy gone at w l = (direction : Direction) (f : Frame) → In f (world_queue direction l.channel) → f.due ≤ gone

-- where what is in flight is due by then, the facts of the machine hold, and the link is fresh as after a change
abbrev pub FactsBegin : Type 0
FactsBegin = (at : LinkPlace) (gone : ℕ) (w : WorldState) (l : IsLinkOf at w)
    → IsSound w → LinkIsMeasured w → IsGoneBy gone at w l
    → Facts (link_setting at w l) gone (pair at w l)

abbrev pub LinksAreFresh : Type 0
LinksAreFresh = (at : LinkPlace) (gone calm : ℕ) (w : WorldState) (l : IsLinkOf at w)
    → IsSound w → LinkIsMeasured w → IsGoneBy gone at w l → w.time ≤ gone → w.time < calm
    → IsJustChanged (link_setting at w l) gone calm (pair at w l)

-- every act that sets no longer delay leaves what is in flight due within the span from now, and so does time that
-- passes
abbrev pub ShortIsKept : Type 0
ShortIsKept = (span : ℕ) (act : Act) (w w' : WorldState) (draws : List Draw) (done : Done)
    → DelayFitsInterval span act → IsShort span w → Acts act w draws done w'
    → IsShort span w'

abbrev pub ShortHoldsLater : Type 0
ShortHoldsLater = (span time : ℕ) (w : WorldState) → w.time ≤ time → IsShort span w → IsShort span (at_time time w)

-- it holds in the world of a network with no longer delays before its systems start, and once they have
abbrev pub InitiallyShort : Type 0
InitiallyShort = (span : ℕ) (n : NetworkState)
    → ((link : ℕ) (wire : LinkSpec) → slice_get n.links link ≡ Some wire → wire.bounds.max ≤ span)
    → IsShort span (initial n)

abbrev pub StartsShort : Type 0
StartsShort = (span : ℕ) (places : List ℕ) (w w' : WorldState) (draws : List Draw)
    → IsShort span w → StartsAll places w draws w'
    → IsShort span w'

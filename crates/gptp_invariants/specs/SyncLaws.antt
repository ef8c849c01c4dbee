-- Laws on what systems tell of time.
use Rattle.std.specs.Prelude.{◌≡◌, ◌⊎◌, ◌<◌, ℕ, suc, true, List, Some, slice_get}
use Rattle.gptp_graph.specs.Snapshot.{PortIdentity}
use Rattle.gptp_bmca_machine.specs.Frame.{FollowUp, Sync, SyncId}
use Rattle.gptp_messages.specs.Frame.{PortFits}
use Rattle.gptp_receipt.specs.declared.held.Held.TheVariants.{Mine}
use Rattle.gptp_setup.specs.declared.setup.Setup.{Setup}
use Rattle.gptp_setup.specs.declared.timer.Timer.TheVariants as timers
use Rattle.gptp_system.specs.declared.answer.Answer.{Answer}
use Rattle.gptp_system.specs.declared.port.Port.{Port}
use Rattle.gptp_system.specs.declared.sending.Sending.{Sending}
use Rattle.gptp_system.specs.Input.{Input, IsTimely, Steps, Frame as FrameHeard, Expires}
use Rattle.gptp_system.specs.Start.{started}
use Rattle.gptp_system.specs.State.{SystemState, own}
use Rattle.gptp_system.specs.Syncing.{is_leading}
use Rattle.gptp_bmca_machine.specs.SyncActs.{SyncActs}
use Rattle.gptp_bmca_machine.specs.Syncs.{HaveSyncTimers}
use Rattle.gptp_links.specs.Fate.{Draw}
use Rattle.gptp_setup.specs.SettlingParams.{SettlingParams}
use Rattle.gptp_scenario.specs.declared.change.Act.{Act}
use Rattle.gptp_model.specs.declared.done.Done.{Done}
use Rattle.gptp_model.specs.Acts.{Acts}
use Rattle.gptp_model.specs.Sound.{IsSound}
use Rattle.gptp_model.specs.World.{WorldState}
use Rattle.gptp_invariants.specs.ChoiceCalm.{SettlingTimes, network_with}
use Rattle.gptp_invariants.specs.WorldKnown.{IsKnown}
use Rattle.gptp_invariants.specs.WorldEncodable.{IsEncodable}
use Rattle.gptp_invariants.specs.ChoiceSaid.{said_at}
use Rattle.gptp_invariants.specs.ChoiceSeenLaws.{IsNoChange}
use Rattle.gptp_invariants.specs.SyncView.{ArePaired, AreTimeless, IsHeard, KnowsTime, TakesTime}
use Rattle.gptp_invariants.specs.ChoiceView.{port_identity_number, kept_view, says_announce, says_sync, view}

-- at each port a step sends a Sync and its Follow_Up, or nothing of time
abbrev pub TellsInPairs : Type 0
TellsInPairs = (input : Input) (now : ℕ) (s s' : SystemState) (sends : List Sending) (answer : Answer) (n : ℕ)
    → IsTimely s now input → KnowsTime s → PortFits (own s n) → Steps input now s s' sends answer
    → ArePaired (port_identity_number (own s n)) (said_at s' (own s n) sends) ⊎ AreTimeless (said_at s' (own s n) sends)

-- every Master port of a system sends both
abbrev pub TellsTime : SystemState → SystemState → List Sending → Type 0
TellsTime s s' sends = (i : ℕ) (q : Port) (root steps : ℕ) → slice_get s.held i ≡ Some (Mine root steps)
    → slice_get s.ports i ≡ Some q → PortFits (own s (suc i))
    → ArePaired (port_identity_number (own s (suc i))) (said_at s' (own s (suc i)) sends)

-- where the Sync timer of a root expires that may be grandmaster, every Master port of it sends a Sync and its
-- Follow_Up
abbrev pub LeadersTell : Type 0
LeadersTell = (now : ℕ) (s s' : SystemState) (sends : List Sending) (answer : Answer)
    → is_leading s ≡ true → Steps (Expires timers.Sync) now s s' sends answer
    → TellsTime s s' sends

-- where the Relay timer of a system expires, in a network in which something can lapse, every Master port of it sends a
-- Sync and its Follow_Up
abbrev pub RelaysTell : Type 0
RelaysTell = (now : ℕ) (s s' : SystemState) (sends : List Sending) (answer : Answer)
    → 0 < s.params.sync_timeout → IsTimely s now (Expires timers.Relay) → KnowsTime s
    → Steps (Expires timers.Relay) now s s' sends answer
    → TellsTime s s' sends

-- a system that starts knows no time, and every step keeps what is said of the time that it knows
abbrev pub KnowsAtStart : Type 0
KnowsAtStart = (setup : Setup) (now : ℕ) → KnowsTime (started setup now)

abbrev pub KnowsOn : Type 0
KnowsOn = (input : Input) (now : ℕ) (s s' : SystemState) (sends : List Sending) (answer : Answer)
    → Steps input now s s' sends answer → KnowsTime s
    → KnowsTime s'

-- ---- what is heard

-- a Sync that comes from the port that is followed is kept
abbrev pub SyncsAreKept : Type 0
SyncsAreKept = (p : ℕ) (octets : List ℕ) (now : ℕ) (s s' : SystemState) (sends : List Sending) (answer : Answer)
    (id : SyncId)
    → Steps (FrameHeard p octets) now s s' sends answer → TakesTime s p id.source → says_sync octets (Sync id)
    → kept_view s' ≡ Some id

-- the Follow_Up of the Sync that a system keeps is used at the port at which it takes its time, in a network in which
-- something can lapse
abbrev pub FollowUpsAreUsed : Type 0
FollowUpsAreUsed = (p : ℕ) (octets : List ℕ) (now : ℕ) (s s' : SystemState) (sends : List Sending) (answer : Answer)
    (source : PortIdentity) (id : SyncId)
    → Steps (FrameHeard p octets) now s s' sends answer → 0 < s.params.sync_timeout → TakesTime s p source
    → kept_view s ≡ Some id → says_sync octets (FollowUp id)
    → IsHeard now s s'

-- ---- every act

-- Every act that changes nothing of the network is a step of the machine by which Syncs are told and heard, where
-- something can lapse in the network.
abbrev pub ActsTellSyncs : Type 0
ActsTellSyncs = (p : SettlingParams) (m start : ℕ) (times : SettlingTimes) (act : Act) (w : WorldState)
    (draws : List Draw)
    (done : Done)
    (w' : WorldState)
    → IsNoChange act → IsSound w → IsEncodable w → IsKnown p w → 0 < p.params.sync_timeout
    → Acts act w draws done w'
    → SyncActs says_announce says_sync (network_with p m start times w) (view w) (view w')

-- the timers of time of a sound and known world are those of the machine
abbrev pub TimersAreSeen : Type 0
TimersAreSeen = (p : SettlingParams) (m start : ℕ) (times : SettlingTimes) (w : WorldState)
    → IsSound w → IsKnown p w
    → HaveSyncTimers (network_with p m start times w) (view w)

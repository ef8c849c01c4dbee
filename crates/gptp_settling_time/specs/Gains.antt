-- Events of a document that take nothing away from its network, and from when on all ports at links are capable after
-- them.
use Rattle.std.specs.Prelude.{◌≡◌, ◌<◌, ◌≤◌, ◌⊎◌, ◌+◌, ◌*◌, ◌^◌, ◌%◌, ℕ, ⊤, true, false, List, [], ◌∷◌, ◌++◌, Some, slice_get}
use Rattle.std.specs.List.{AllByRecursion}
use Rattle.gptp_vector.specs.declared.port.PortId.{PortId}
use Rattle.gptp_roles.specs.Selection.{clock_of}
use Rattle.gptp_setup.specs.Intervals.{interval_of}
use Rattle.gptp_setup.specs.SettlingParams.{SettlingParams, largest_interval, longest_span}
use Rattle.gptp_scenario.specs.Calm.{IsCalm, IsLive, IsUsed, last_change}
use Rattle.gptp_scenario.specs.Change.{link_after, system_after}
use Rattle.gptp_scenario.specs.Network.{IsEnd, NetworkState, pace_of}
use Rattle.gptp_scenario.specs.Prompt.{DelayFitsInterval}
use Rattle.gptp_scenario.specs.SettlingTime.{capability_span}
use Rattle.gptp_scenario.specs.SyncWait.{sync_paths}
use Rattle.gptp_scenario.specs.declared.change.Act.{Act}
use Rattle.gptp_scenario.specs.declared.change.Act.TheVariants.{Deliver, Expire, Change as Changing}
use Rattle.gptp_scenario.specs.declared.change.Change.{Change}
use Rattle.gptp_scenario.specs.declared.change.Change.TheVariants.{LinkDown, LinkUp, LinkSet, Fail, Recover, Priority1, Inject}
use Rattle.gptp_scenario.specs.declared.change.Timed.{Timed}
use Rattle.gptp_scenario.specs.declared.network.SystemSpec.{SystemSpec}
use Rattle.gptp_scenario.specs.declared.network.LinkSpec.{LinkSpec}
use Rattle.gptp_scenario.specs.declared.sync_wait.SyncPaths.{SyncPaths}
use Rattle.gptp_model.specs.World.{port_id}

-- ---- what takes nothing away

-- after these events the link at the port is down
abbrev pub IsDownAfter : NetworkState → List Timed → PortId → Type 0
IsDownAfter n events port = (place : ℕ) (v : LinkSpec) → slice_get n.links place ≡ Some v
    → IsEnd port (link_after events v)
    → (link_after events v).up ≡ false

-- the system with this clock lives after these events, and this priority1 makes its identity no worse
abbrev pub IsNoWorse : NetworkState → List Timed → ℕ → ℕ → Type 0
IsNoWorse n events number value = (place : ℕ) (m : SystemSpec) → slice_get n.systems place ≡ Some m
    → clock_of m.identity ≡ number
    → ((system_after events m).live ≡ true)
    × (value * 2 ^ 104 + (system_after events m).identity % 2 ^ 104 ≤ (system_after events m).identity)

-- Such a change, made after these events, takes nothing away: no link that is up goes down, no system that lives fails,
-- none gets a worse identity, and no octets are put onto a link that is up.
abbrev pub IsGainAfter : NetworkState → List Timed → Change → Type 0
IsGainAfter n events (LinkDown number port) = IsDownAfter n events (port_id number port)
IsGainAfter n events (LinkUp number port) = ⊤
IsGainAfter n events (LinkSet number port min max loss) = ⊤
IsGainAfter n events (Fail number) = IsLive n.systems events number → ⊥
IsGainAfter n events (Recover number) = ⊤
IsGainAfter n events (Priority1 number value) = IsNoWorse n events number value
IsGainAfter n events (Inject number port octets) = IsDownAfter n events (port_id number port)

abbrev pub TakesNothing : NetworkState → List Timed → Act → Type 0
TakesNothing n events (Deliver link direction) = ⊤
TakesNothing n events (Expire number timer) = ⊤
TakesNothing n events (Changing change) = IsGainAfter n events change

-- after these events the link at the port is up
abbrev pub IsUpAfter : NetworkState → List Timed → PortId → Type 0
IsUpAfter n events port = (place : ℕ) (v : LinkSpec) → slice_get n.links place ≡ Some v
    → IsEnd port (link_after events v)
    → (link_after events v).up ≡ true

-- the system with this clock has failed after these events, or has the identity that it gets by this priority1
abbrev pub KeepsIdentity : NetworkState → List Timed → ℕ → ℕ → Type 0
KeepsIdentity n events number value = (place : ℕ) (m : SystemSpec) → slice_get n.systems place ≡ Some m
    → clock_of m.identity ≡ number
    → ((system_after events m).live ≡ false)
    ⊎ (value * 2 ^ 104 + (system_after events m).identity % 2 ^ 104 ≡ (system_after events m).identity)

-- The change makes nothing of what stands: a link goes down that is down, or comes up that is up; a system fails that
-- has failed, or recovers that lives; a priority1 is that of a failed system, or the one that its system has; octets
-- are put onto a link that is down. No other change is counted here.
abbrev pub IsIdleAfter : NetworkState → List Timed → Change → Type 0
IsIdleAfter n events (LinkDown number port) = IsDownAfter n events (port_id number port)
IsIdleAfter n events (LinkUp number port) = IsUpAfter n events (port_id number port)
IsIdleAfter n events (LinkSet number port min max loss) = ⊥
IsIdleAfter n events (Fail number) = IsLive n.systems events number → ⊥
IsIdleAfter n events (Recover number) = IsLive n.systems events number
IsIdleAfter n events (Priority1 number value) = KeepsIdentity n events number value
IsIdleAfter n events (Inject number port octets) = IsDownAfter n events (port_id number port)

abbrev pub ChangesNothing : NetworkState → List Timed → Act → Type 0
ChangesNothing n events (Deliver link direction) = ⊥
ChangesNothing n events (Expire number timer) = ⊥
ChangesNothing n events (Changing change) = IsIdleAfter n events change

-- The event leaves all as it stands: it changes nothing, and sets no priority1.
abbrev pub Repeats : NetworkState → List Timed → Timed → Type 0
Repeats n before event =
    ChangesNothing n before event.act × ((number value : ℕ) → event.act ≡ Changing (Priority1 number value) → ⊥)

-- so it does at the time of the event before
abbrev pub RepeatsNow : NetworkState → List Timed → Timed → Type 0
RepeatsNow n before event = Repeats n before event × (event.at ≡ last_change before)

-- and so does any that changes nothing
abbrev pub IdleNow : NetworkState → List Timed → Timed → Type 0
IdleNow n before event = ChangesNothing n before event.act × (event.at ≡ last_change before)

-- each event of a list takes nothing away, one after another
abbrev pub AllTakeNothing : NetworkState → List Timed → List Timed → Type 0
AllTakeNothing n before [] = ⊤
AllTakeNothing n before (event ∷ events) =
    TakesNothing n before event.act × AllTakeNothing n (before ++ event ∷ []) events

-- ---- rest

-- A network has rested by a time after these events: it is calm, and all that was held and in flight has become wholly
-- clean, and what failed systems had sent is gone. That takes 2 announce intervals, k of them and the greatest delay of
-- a link for each system of a path, and an announce interval once more.
pub record HasRested (n : NetworkState) (events : List Timed) (time : ℕ) : Type 0 where
  pub calm : IsCalm n events
  pub passed : last_change events
      + (2 * largest_interval (pace_of n)
      + (sync_paths n events).systems * (longest_span (pace_of n) + (sync_paths n events).delay))
      + largest_interval (pace_of n)
      ≤ time

-- ---- from when ports are capable

-- no system has failed
abbrev pub AllLiveAfter : NetworkState → List Timed → Type 0
AllLiveAfter n events = (place : ℕ) (m : SystemSpec) → slice_get n.systems place ≡ Some m
    → (system_after events m).live ≡ true

-- From this time on each port at a link is capable after these events, whatever they are: 2 announce intervals and 3 of
-- peer delay after the last of them where all systems live; and L + 5 announce intervals beside failed systems.
abbrev pub AreCapableAnyway : NetworkState → List Timed → ℕ → Type 0
AreCapableAnyway n events start =
    (AllLiveAfter n events
    × (last_change events + 2 * largest_interval (pace_of n) + 3 * interval_of (pace_of n).params.pdelay ≤ start))
    ⊎ (last_change events + capability_span (pace_of n) ≤ start)

-- ports at a link are capable that first ask at this time: one peer delay interval, one exchange over the slowest link,
-- and 1 ns later
abbrev pub exchanged_from : SettlingParams → SyncPaths → ℕ → ℕ
exchanged_from p paths time =
    time + interval_of p.params.pdelay + (paths.delay + p.params.turnaround + paths.delay) + 1

-- ports are capable that ask within a peer delay interval from this time on
abbrev pub exchanged_again_from : SettlingParams → SyncPaths → ℕ → ℕ
exchanged_again_from p paths time = exchanged_from p paths (time + interval_of p.params.pdelay)

-- both ends of the link at the port live after these events
abbrev pub JoinsLive : NetworkState → List Timed → PortId → Type 0
JoinsLive n events port = (place : ℕ) (v : LinkSpec) → slice_get n.links place ≡ Some v
    → IsEnd port (link_after events v)
    → IsLive n.systems events (link_after events v).a.clock × IsLive n.systems events (link_after events v).b.clock

-- an end of the link at the port has failed after these events
abbrev pub EndHasFailed : NetworkState → List Timed → PortId → Type 0
EndHasFailed n events port = (place : ℕ) (v : LinkSpec) → slice_get n.links place ≡ Some v
    → IsEnd port (link_after events v)
    → (IsLive n.systems events (link_after events v).a.clock → ⊥)
    ⊎ (IsLive n.systems events (link_after events v).b.clock → ⊥)

-- Such an event leaves all as it was beside failed systems: a link comes up, over which nothing is in flight yet, a
-- system recovers, or a priority1 is set.
abbrev pub SparesFailed : Act → Type 0
SparesFailed (Changing (LinkUp number port)) = ⊤
SparesFailed (Changing (Recover number)) = ⊤
SparesFailed (Changing (Priority1 number value)) = ⊤
SparesFailed act = ⊥

-- no link takes longer than this, in ns, before all events, or as one of these sets it
pub record HasDelaysWithin (n : NetworkState) (events : List Timed) (most : ℕ) : Type 0 where
  pub links : (place : ℕ) (v : LinkSpec) → slice_get n.links place ≡ Some v → v.bounds.max ≤ most
  pub sets : AllByRecursion (λ (t : Timed). DelayFitsInterval most t.act) events

-- So does one that changes nothing. After any other all that was in flight is due by this time: no link took longer.
abbrev pub IsSparedBy : NetworkState → List Timed → Timed → ℕ → Type 0
IsSparedBy n before event time =
    ((most : ℕ) × HasDelaysWithin n (before ++ event ∷ []) most × (event.at + most < time))
    ⊎ (ChangesNothing n before event.act ⊎ SparesFailed event.act)

-- by this time what failed systems sent is gone, after each of these events
abbrev pub AreSparedBy : NetworkState → List Timed → List Timed → ℕ → Type 0
AreSparedBy n before [] time = 0 < time
AreSparedBy n before (event ∷ events) time =
    IsSparedBy n before event time × AreSparedBy n (before ++ event ∷ []) events time

-- no link that ends at the system with this clock is in use after these events
abbrev pub UsesNoLink : NetworkState → List Timed → ℕ → Type 0
UsesNoLink n events number = (place : ℕ) (v : LinkSpec) → slice_get n.links place ≡ Some v
    → IsUsed n.systems events (link_after events v)
    → ((link_after events v).a.clock ≡ number) ⊎ ((link_after events v).b.clock ≡ number)
    → ⊥

-- These changes leave other ports as capable as they are: a link between live systems that comes up, whose own two
-- ports ask then; a failed system that recovers, whose own ports ask then, and those beside it within a peer delay
-- interval, where it uses a link; and a priority1 that gets no worse. What a system that recovers sent before it failed
-- is gone by then.
abbrev pub LeavesCapable : NetworkState → List Timed → Timed → ℕ → Act → Type 0
LeavesCapable n before event next (Changing (LinkUp number port)) =
    JoinsLive n (before ++ event ∷ []) (port_id number port)
    × (exchanged_from (pace_of n) (sync_paths n (before ++ event ∷ [])) event.at ≤ next)
LeavesCapable n before event next (Changing (Recover number)) =
    (IsLive n.systems before number → ⊥)
    × AreSparedBy n [] before event.at
    × ((exchanged_again_from (pace_of n) (sync_paths n (before ++ event ∷ [])) event.at ≤ next)
    ⊎ (UsesNoLink n (before ++ event ∷ []) number × (event.at < next)))
LeavesCapable n before event next (Changing (Priority1 number value)) = event.at < next
LeavesCapable n before event next act = ⊥

-- Where ports are capable from a start on, they are so from the next one on after one event more.
abbrev pub AreCapableNext : NetworkState → List Timed → ℕ → Timed → ℕ → Type 0
AreCapableNext n before start event next =
    AreCapableAnyway n (before ++ event ∷ []) next
    ⊎ ((start ≤ next) × LeavesCapable n before event next event.act)

-- an event that changes nothing leaves even the start
abbrev pub AreCapableStill : NetworkState → List Timed → ℕ → Timed → ℕ → Type 0
AreCapableStill n before start event next =
    AreCapableNext n before start event next ⊎ (ChangesNothing n before event.act × (next ≡ start))

-- Where ports are capable from a start on, they are so from this last time on after all of these events: each event
-- leads from one such time to the next.
abbrev pub AreCapableFrom : NetworkState → List Timed → ℕ → List Timed → ℕ → Type 0
AreCapableFrom n before start [] last = last ≡ start
AreCapableFrom n before start (event ∷ events) last =
    (next : ℕ) × AreCapableStill n before start event next
    × AreCapableFrom n (before ++ event ∷ []) next events last

-- ---- a network that has only gained

-- since it began: each event takes nothing away, and from this time on its ports are capable
pub record GainsFromStart (n : NetworkState) (events : List Timed) (start : ℕ) : Type 0 where
  pub nothing : AllTakeNothing n [] events
  pub begun : ℕ
  pub first : exchanged_from (pace_of n) (sync_paths n []) 0 ≤ begun
  pub capable : AreCapableFrom n [] begun events start

-- Or since it had rested: there are the events before some event, which comes when the network has rested from them,
-- and that and those after it, each of which takes nothing away.
pub record GainsFromRest (n : NetworkState) (events : List Timed) (start : ℕ) : Type 0 where
  pub before : List Timed
  pub first : Timed
  pub others : List Timed
  pub are : events ≡ before ++ first ∷ others
  pub rested : HasRested n before first.at
  pub nothing : AllTakeNothing n before (first ∷ others)
  pub rest : ℕ
  pub anyway : AreCapableAnyway n before rest
  pub next : ℕ
  pub gain : AreCapableNext n before rest first next
  pub capable : AreCapableFrom n (before ++ first ∷ []) next others start

-- Laws on what is held: it stays sound, and it is after news.
use Rattle.std.specs.Prelude.{◌≡◌, ◌⊎◌, ◌<◌, ◌≤◌, ◌+◌, ℕ, suc, true, List, [], ◌∷◌, Some, slice_get}
use Rattle.gptp_lists.specs.Members.{In}
use Rattle.gptp_graph.specs.Snapshot.{System, PortIdentity, Snapshot, clocks, port_of, Joins, IsLinked, IsWellFormed}
use Rattle.gptp_graph.specs.Best.{IsBest}
use Rattle.gptp_graph.specs.Distance.{IsNear}
use Rattle.gptp_bmca_machine.specs.Frame.{Announce, Spelling, AnnounceFrame, Lane}
use Rattle.gptp_bmca_machine.specs.Station.{Reception, Disabled, Port, Station, MachineState, HoldsAt}
use Rattle.gptp_bmca_machine.specs.Acts.{MachineSteps}
use Rattle.gptp_bmca_machine.specs.Clean.{IsWorse, Whole, CameWhole}
use Rattle.gptp_bmca_machine.specs.Network.{Network, IsSettlingNetwork, network_setting, machine_clean_from, settled_from}
use Rattle.gptp_bmca_machine.specs.CleanInvariant.{TracesAreClean}
use Rattle.gptp_bmca_machine.specs.Calm.{Calm}
use Rattle.gptp_bmca_machine.specs.EarlyPorts.{EarlyPortsHear}
use Rattle.gptp_bmca_machine.specs.Lapsing.{NothingNearLapses}
use Rattle.gptp_bmca_machine.specs.Levels.{LevelSettles, Invariant}
use Rattle.gptp_bmca_machine.specs.Run.{last_state, NearHaveSettled}
use Rattle.gptp_bmca_machine.specs.Sound.{HeldIsSound}

-- an Announce from this port names a root worse than the best of its system, or is wholly clean
pub record IsSoundFrom (g : Snapshot) (from : PortIdentity) (a : Announce) : Type 0 where
  pub source : a.source ≡ from
  pub sound : IsWorse g from.clock a ⊎ Whole g from.clock a

-- each Announce in flight on a link of the snapshot, and each that a live system holds, names a root worse than the
-- best of its sender, or is wholly clean
pub record IsSoundOnLinks (says : Spelling) (g : Snapshot) (w : MachineState) : Type 0 where
  pub lanes : (j : ℕ) (l : Lane) (f : AnnounceFrame) (a : Announce) → slice_get w.lanes j ≡ Some l → In f l.frames
      → says f.octets a → Joins g l.from l.to → IsSoundFrom g l.from a
  pub stations : HeldIsSound g w

-- ports of live systems that no link of the snapshot is at are disabled
abbrev pub UnlinkedAreOff : Snapshot → MachineState → Type 0
UnlinkedAreOff g w = (i : ℕ) (s : Station) (place : ℕ) (q : Port) → slice_get w.stations i ≡ Some s → s.live ≡ true
    → slice_get s.ports place ≡ Some q → (IsLinked g (port_of s.clock (suc place)) → ⊥)
    → q.held ≡ Disabled

-- every step between calm states keeps that all is sound
abbrev pub SoundIsKept : Spelling → Type 0
SoundIsKept says = (n : Network) (w w' : MachineState)
    → IsSettlingNetwork n → Calm n w → Calm n w' → UnlinkedAreOff n.graph w → MachineSteps says w w'
    → IsSoundOnLinks says n.graph w
    → IsSoundOnLinks says n.graph w'

-- Of two snapshots the second has news: the systems of the first live in it, no worse than before, and so do its links.
pub record HasNews (g g' : Snapshot) : Type 0 where
  pub systems : (s : System) → In s g.systems
      → (s' : System) × In s' g'.systems × (s'.clock ≡ s.clock) × (s'.identity ≤ s.identity)
  pub links : (p q : PortIdentity) → Joins g p q → Joins g' p q

-- what was wholly clean before is sound after
abbrev pub NewsIsSound : Type 0
NewsIsSound = (g g' : Snapshot) (u : ℕ) (a : Announce)
    → IsWellFormed g' → HasNews g g' → Whole g u a
    → IsWorse g' u a ⊎ Whole g' u a

-- an Announce from this port is wholly clean
pub record IsWholeFrom (g : Snapshot) (from : PortIdentity) (a : Announce) : Type 0 where
  pub source : a.source ≡ from
  pub whole : Whole g from.clock a

-- each Announce in flight on these links, and each that a live system holds, is wholly clean
pub record AllIsWhole (says : Spelling) (g : Snapshot) (links : PortIdentity → PortIdentity → Type 0) (w : MachineState)
    : Type 0 where
  pub lanes : (j : ℕ) (l : Lane) (f : AnnounceFrame) (a : Announce) → slice_get w.lanes j ≡ Some l → In f l.frames
      → says f.octets a → links l.from l.to → IsWholeFrom g l.from a
  pub stations : (i : ℕ) (s : Station) (place : ℕ) (r : Reception) → slice_get w.stations i ≡ Some s
      → s.live ≡ true → HoldsAt s place r → CameWhole g s.clock (suc place) r

-- a delay after what is held has become wholly clean all is, on the links of the snapshot
abbrev pub AllBecomesWhole : Spelling → Type 0
AllBecomesWhole says = (n : Network) (w : MachineState)
    → IsSettlingNetwork n → Calm n w → TracesAreClean says (network_setting n) w
    → machine_clean_from n + n.most ≤ w.time
    → AllIsWhole says n.graph (Joins n.graph) w

-- all live systems are near
abbrev pub AllAreNear : Snapshot → Type 0
AllAreNear g = (v : ℕ) → In v (clocks g) → IsNear g v

-- what was sent once all had settled names the best
abbrev pub FlightNamesBest : Spelling → Network → MachineState → Type 0
FlightNamesBest says n w = (j : ℕ) (l : Lane) (f : AnnounceFrame) (a : Announce) (best : System)
    → slice_get w.lanes j ≡ Some l
    → In f l.frames → says f.octets a → Joins n.graph l.from l.to → settled_from n + n.most ≤ f.due
    → IsBest n.graph l.from.clock best
    → a.root ≡ best.identity

-- before all has settled that claims nothing, and every step keeps it
abbrev pub NamingBegins : Spelling → Type 0
NamingBegins says = (n : Network) (w : MachineState)
    → IsSettlingNetwork n → Calm n w → w.time < settled_from n
    → FlightNamesBest says n w

abbrev pub NamingIsKept : Spelling → Type 0
NamingIsKept says = (n : Network) (w w' : MachineState)
    → IsSettlingNetwork n → AllAreNear n.graph → Calm n w' → Invariant says n w' → MachineSteps says w w'
    → FlightNamesBest says n w
    → FlightNamesBest says n w'

-- a delay after all has settled, all that is held, or in flight on the links of the snapshot, is wholly clean, where it
-- is sound and what was sent since names the best
abbrev pub SettledIsWhole : Spelling → Type 0
SettledIsWhole says = (n : Network) (w : MachineState)
    → IsSettlingNetwork n → AllAreNear n.graph → Calm n w → Invariant says n w → IsSoundOnLinks says n.graph w
    → FlightNamesBest says n w → settled_from n + n.most ≤ w.time → n.off ≤ w.time
    → AllIsWhole says n.graph (Joins n.graph) w

-- each state of a run is calm, in none of them something lapses, and no port is on that no link is at
abbrev pub IsNewsRun : Spelling → Network → MachineState → List MachineState → Type 0
IsNewsRun says n w [] = Calm n w
IsNewsRun says n w (w' ∷ ws) = Calm n w × UnlinkedAreOff n.graph w × NothingNearLapses n w × EarlyPortsHear says n w w'
    × MachineSteps says w w'
    × IsNewsRun says n w' ws

-- After news that come when all is wholly clean, with no Announce on links that are new, a run ends settled: all is
-- sound from the news on, so that the time of settling is counted from when ports are capable.
abbrev pub NewsSettle : Spelling → Type 0
NewsSettle says = (g : Snapshot) (n : Network) (w : MachineState) (ws : List MachineState)
    → IsSettlingNetwork n → HasNews g n.graph → AllIsWhole says g (Joins n.graph) w → IsNewsRun says n w ws
    → w.time < n.sound
    → settled_from n ≤ (last_state w ws).time
    → NearHaveSettled n (last_state w ws)

-- a delay after a run since news has settled, all is wholly clean again, so that the next news may come; all live
-- systems are near
abbrev pub NewsBecomeWhole : Spelling → Type 0
NewsBecomeWhole says = (g : Snapshot) (n : Network) (w : MachineState) (ws : List MachineState)
    → IsSettlingNetwork n → AllAreNear n.graph → HasNews g n.graph → AllIsWhole says g (Joins n.graph) w
    → IsNewsRun says n w ws
    → w.time < n.sound → settled_from n + n.most ≤ (last_state w ws).time → n.off ≤ (last_state w ws).time
    → AllIsWhole says n.graph (Joins n.graph) (last_state w ws)

-- ---- from rest

-- Where all is sound and each link of which claims are made is at its stage at the news, a run ends settled: no
-- interval has to pass.
abbrev pub RestSettles : Spelling → Type 0
RestSettles says = (n : Network) (w : MachineState) (ws : List MachineState)
    → IsSettlingNetwork n → IsSoundOnLinks says n.graph w → ((d : ℕ) → LevelSettles says n d w) → IsNewsRun says n w ws
    → settled_from n ≤ (last_state w ws).time
    → NearHaveSettled n (last_state w ws)

-- no port that a link is at is capable yet
abbrev pub LinkedAreOff : Network → MachineState → Type 0
LinkedAreOff n w = (i : ℕ) (s : Station) (place : ℕ) (q : Port) → slice_get w.stations i ≡ Some s → s.live ≡ true
    → slice_get s.ports place ≡ Some q → IsLinked n.graph (port_of s.clock (suc place))
    → q.held ≡ Disabled

-- at a start nothing is held and no Announce is in flight
pub record NothingIsHeldAtStart (says : Spelling) (n : Network) (w : MachineState) : Type 0 where
  pub off : LinkedAreOff n w
  pub unlinked : UnlinkedAreOff n.graph w
  pub silent : (j : ℕ) (l : Lane) (f : AnnounceFrame) (a : Announce) → slice_get w.lanes j ≡ Some l → In f l.frames
      → says f.octets a → Joins n.graph l.from l.to → ⊥

-- a run from a start, at which nothing is held and no Announce is in flight, ends settled
abbrev pub StartSettles : Spelling → Type 0
StartSettles says = (n : Network) (w : MachineState) (ws : List MachineState)
    → IsSettlingNetwork n → NothingIsHeldAtStart says n w → IsNewsRun says n w ws
    → settled_from n ≤ (last_state w ws).time
    → NearHaveSettled n (last_state w ws)

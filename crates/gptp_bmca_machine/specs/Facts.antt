-- What is known of each state between two changes of the network, of one item each.
use Rattle.std.specs.Prelude.{◌≡◌, ◌⊎◌, ◌<◌, ◌≤◌, ◌+◌, ◌*◌, ℕ, suc, true, [], ◌∷◌, ◌++◌, Some, length, slice_get}
use Rattle.gptp_lists.specs.Members.{In}
use Rattle.gptp_graph.specs.Snapshot.{Snapshot, System, clocks, Joins}
use Rattle.gptp_bmca_machine.specs.Frame.{AnnounceFrame, Lane}
use Rattle.gptp_bmca_machine.specs.Station.{Reception, Station, MachineState, HoldsAt}

-- The live systems and their links; from when on what comes was sent by them; from when on claims are made; the
-- largest announce interval, and the largest delay of a link; and the longest span for which anything received stays.
pub record NetworkSetting : Type 0 where
  pub graph : Snapshot
  pub gone : ℕ
  pub start : ℕ
  pub interval : ℕ
  pub most : ℕ
  pub span : ℕ

-- the longest time from when an Announce is sent to when a system last sends what it took from it
abbrev pub turn : NetworkSetting → ℕ
turn k = k.span + k.most

-- after this many turns have passed from the start, and a delay
abbrev pub Late : NetworkSetting → ℕ → ℕ → Type 0
Late k c t = k.start + c * turn k + k.most ≤ t

-- the system as a snapshot has it
abbrev pub station_system : Station → System
station_system s = record { clock = s.clock; identity = s.identity; ports = length s.ports }

-- it is its own root
pub record FollowsItself (s : Station) : Type 0 where
  pub root : s.root ≡ s.identity
  pub steps : s.steps ≡ 0
  pub trace : s.trace ≡ s.clock ∷ []

-- it follows what one of its ports received
pub record FollowsPort (s : Station) : Type 0 where
  pub place : ℕ
  pub r : Reception
  pub holds : HoldsAt s place r
  pub root : s.root ≡ r.said.root
  pub steps : s.steps ≡ suc r.said.steps
  pub trace : s.trace ≡ r.said.path ++ s.clock ∷ []

-- What a system received came by now, stays no longer than its span, which is at most the longest, and doesn't name the
-- system itself. Shown of worlds by ports_are_due, and `no_loop` by systems_are_at_rest. Every step keeps `came` and
-- `no_loop`, by no_loop_is_taken.
pub record HeldIsInTime (k : NetworkSetting) (now clock : ℕ) (r : Reception) : Type 0 where
  pub came : r.at ≤ now
  -- the timer by which it ages is due then, and nothing due earlier is left
  pub stays : now ≤ r.at + r.span
  -- the span holds the interval that was named, at the largest
  pub short : r.span ≤ k.span
  pub no_loop : In clock r.said.path → ⊥

-- what is known of a live system: the snapshot has it, it follows itself or a port, and what it received is in time
pub record IsLiveStationState (k : NetworkSetting) (now : ℕ) (s : Station) : Type 0 where
  -- an act of a world changes no clock, identity or number of ports, by snapshot_is_kept
  pub known : In (station_system s) k.graph.systems
  -- selection and trace are as gptp_roles has them, by systems_are_at_rest
  pub follows : FollowsItself s ⊎ FollowsPort s
  pub held : (i : ℕ) (r : Reception) → HoldsAt s i r → HeldIsInTime k now s.clock r

-- what others sent is gone a delay after claims are made
abbrev pub BeginsLater : NetworkSetting → Type 0
BeginsLater k = k.gone ≤ k.start + k.most

-- Whatever comes from then on is from a live system. It is used of the first state alone: at the last change of a world
-- nothing is due so late. So its claim begins, by claim_begins.
abbrev pub SendersLive : NetworkSetting → MachineState → Type 0
SendersLive k w = (j : ℕ) (l : Lane) (f : AnnounceFrame) → slice_get w.lanes j ≡ Some l → In f l.frames → k.gone ≤ f.due
    → In l.from.clock (clocks k.graph)

-- Every live system is such a one; a frame is due within an interval, and over a link of the snapshot within the
-- largest delay, unless it comes before claims are made; and where a frame is in flight between two systems of the
-- snapshot, the snapshot has the link. Every sound, legible and known world is so, calm or not, by
-- worlds_have_networks.
pub record StationFacts (k : NetworkSetting) (w : MachineState) : Type 0 where
  pub stations : (i : ℕ) (s : Station) → slice_get w.stations i ≡ Some s → s.live ≡ true → IsLiveStationState k w.time s
  -- No delay is above the interval of any port, also of links that aren't in the snapshot, and queues are first in,
  -- first out.
  pub near : (j : ℕ) (l : Lane) (f : AnnounceFrame) → slice_get w.lanes j ≡ Some l → In f l.frames
      → f.due ≤ w.time + k.interval
  -- One largest announce interval after the last change all older frames are gone. A later one is due by its own delay,
  -- or with the frame before it, by frames_are_due.
  pub fresh : (j : ℕ) (l : Lane) (f : AnnounceFrame) → slice_get w.lanes j ≡ Some l → In f l.frames
      → Joins k.graph l.from l.to → (f.due ≤ w.time + k.most) ⊎ (f.due < k.start)
  -- a link that is down has empty queues, by frames_are_due
  pub linked : (j : ℕ) (l : Lane) (f : AnnounceFrame) → slice_get w.lanes j ≡ Some l → In f l.frames
      → In l.from.clock (clocks k.graph) → In l.to.clock (clocks k.graph) → Joins k.graph l.from l.to

-- What acts do to Syncs, of one item each. This is what a world in which things lapse has to show besides `Calm`.
use Rattle.std.specs.Prelude.{◌≡◌, ◌≢◌, ◌⊎◌, ◌+◌, ℕ, suc, true, List, ◌++◌, Some, None, slice_get}
use Rattle.gptp_graph.specs.Snapshot.{port_of}
use Rattle.gptp_bmca_machine.specs.Frame.{Spelling, SyncId, SyncMessage, Sync, FollowUp, SaysSync, AnnounceFrame, Lane}
use Rattle.gptp_bmca_machine.specs.Station.{Reception, Mine, Port, Station, MachineState, HoldsAt}
use Rattle.gptp_bmca_machine.specs.Acts.{Arrives, Drops, Runs, MomentComes}
use Rattle.gptp_bmca_machine.specs.Network.{Network}
use Rattle.gptp_bmca_machine.specs.Matching.{HasPair}
use Rattle.gptp_bmca_machine.specs.Syncs.{MayLead}

-- the system goes on following the same root over the same port
pub record FollowsOn (s s' : Station) : Type 0 where
  pub root : s'.root ≡ s.root
  pub slave : s'.slave ≡ s.slave

-- a Follow_Up was heard now: the system will relay it, and its lapse timer, while it runs, has started again
pub record FollowUpIsHeard (n : Network) (now : ℕ) (s : Station) : Type 0 where
  pub relay : (due : ℕ) × (s.relay ≡ Some due)
  pub lapse : (due : ℕ) → s.lapse ≡ Some due → due ≡ now + n.syncs.span

-- a Sync and its Follow_Up enter the lane of each master port of s, where that is up and without loss
abbrev pub SendsPairs : SaysSync → MachineState → MachineState → Station → Type 0
SendsPairs says_sync w w' s = (i j : ℕ) (q : Port) (l l' : Lane) (root steps : ℕ) → slice_get s.ports i ≡ Some q
    → q.held ≡ Mine root steps → slice_get w.lanes j ≡ Some l → slice_get w'.lanes j ≡ Some l'
    → l.from ≡ port_of s.clock (suc i) → l.loss ≡ 0 → l.is_up ≡ true
    → (news : List AnnounceFrame) × (l'.frames ≡ l.frames ++ news) × ((due : ℕ) × HasPair says_sync l.from news due)

-- What becomes of the timers of the system s that answers. While it follows the same root over the same port, a Sync
-- timer of the best, or a Relay timer, that doesn't stay has expired, and the system sends Syncs; and its lapse timer
-- stays or starts again. Where it doesn't, that starts again, if it runs.
pub record TimerStep (says_sync : SaysSync) (n : Network) (w w' : MachineState) (s s' : Station) : Type 0 where
  pub sync : s.slave ≡ None → MayLead s.root → FollowsOn s s' → (s'.sync ≡ s.sync) ⊎ SendsPairs says_sync w w' s'
  pub relay : (due : ℕ) → s.relay ≡ Some due → FollowsOn s s'
      → (s'.relay ≡ Some due) ⊎ SendsPairs says_sync w w' s'
  pub lapse : (due : ℕ) → s'.lapse ≡ Some due
      → ((s.lapse ≡ Some due) × FollowsOn s s') ⊎ (due ≡ w.time + n.syncs.span)

-- the Sync comes from the port whose Announce the port at place i holds
abbrev pub IsFollowed : Station → ℕ → SyncId → Type 0
IsFollowed s i id = (r : Reception) → HoldsAt s i r → r.said.source ≡ id.source

-- What a frame is to a system that goes on following over its port at place i, and hears it there: a Sync that is
-- followed is kept, the Follow_Up of the one that is kept is heard, and nothing but such a Sync changes what is kept.
pub record HearsFollowedSync (says_sync : SaysSync) (n : Network) (now i : ℕ) (octets : List ℕ)
    (s s' : Station) : Type 0 where
  pub sync : (id : SyncId) → says_sync octets (Sync id) → IsFollowed s i id → s'.kept ≡ Some id
  pub follow_up : (id : SyncId) → says_sync octets (FollowUp id) → s.kept ≡ Some id → FollowUpIsHeard n now s'
  pub other : ((id : SyncId) → says_sync octets (Sync id) → IsFollowed s i id → ⊥) → s'.kept ≡ s.kept

-- a frame arrives: at the slave port it is heard, at any other what is kept stays
pub record SyncArrives (says : Spelling) (says_sync : SaysSync) (n : Network) (w w' : MachineState)
    (act : Arrives says w w')
    : Type 0 where
  pub timers : TimerStep says_sync n act.mid w' act.call.s act.call.s'
  pub hears : (i : ℕ) → act.call.s.slave ≡ Some (suc i) → act.l.to.port ≡ suc i → FollowsOn act.call.s act.call.s'
      → HearsFollowedSync says_sync n w.time i act.f.octets act.call.s act.call.s'
  pub keeps : (i : ℕ) → act.call.s.slave ≡ Some (suc i) → act.l.to.port ≢ suc i → FollowsOn act.call.s act.call.s'
      → act.call.s'.kept ≡ act.call.s.kept

-- a frame that does nothing at a live system says neither Sync nor Follow_Up
abbrev pub SyncDrops : (says : Spelling) → SaysSync → (w w' : MachineState) → Drops says w w' → Type 0
SyncDrops says says_sync w w' act = (i : ℕ) (m : Station) (x : SyncMessage) → slice_get w.stations i ≡ Some m
    → m.clock ≡ act.l.to.clock → m.live ≡ true → says_sync act.f.octets x
    → ⊥

-- what is no delivery leaves what is kept
pub record SyncRuns (says : Spelling) (says_sync : SaysSync) (n : Network) (w w' : MachineState) (act : Runs says w w')
    : Type 0 where
  pub timers : TimerStep says_sync n w w' act.call.s act.call.s'
  pub keeps : FollowsOn act.call.s act.call.s' → act.call.s'.kept ≡ act.call.s.kept

-- something happens now, and is so
abbrev pub SyncActs : Spelling → SaysSync → Network → MachineState → MachineState → Type 0
SyncActs says says_sync n w w' = ((act : Arrives says w w') × SyncArrives says says_sync n w w' act)
    ⊎ (((act : Drops says w w') × SyncDrops says says_sync w w' act)
    ⊎ ((act : Runs says w w') × SyncRuns says says_sync n w w' act))

-- One step: a moment comes, or something happens. Shown of worlds by acts_tell_syncs.
abbrev pub SyncSteps : Spelling → SaysSync → Network → MachineState → MachineState → Type 0
SyncSteps says says_sync n w w' = MomentComes w w' ⊎ SyncActs says says_sync n w w'

-- What octets tell of time: a Sync, and the Follow_Up that completes it (IEEE 802.1AS-2020, 11.4.3 and 11.4.4).
use Rattle.std.specs.Prelude.{◌≡◌, ◌<◌, ◌+◌, ℕ, true, List, [], ◌∷◌, Some, IsSome, slice_get}
use Rattle.std.specs.Option.{unwrap_or}
use Rattle.gptp_lists.specs.Members.{In}
use Rattle.gptp_graph.specs.Snapshot.{PortIdentity}
use Rattle.gptp_correction.specs.declared.sync_in.SyncInfo.{SyncInfo}
use Rattle.gptp_receipt.specs.declared.held.Reception.{Reception}
use Rattle.gptp_receipt.specs.Held.{received}
use Rattle.gptp_system.specs.State.{SystemState, can_lead, held_at, is_capable_at, lapse_of}
use Rattle.gptp_model.specs.declared.station.Station.{Station}
use Rattle.gptp_model.specs.World.{WorldState}
use Rattle.gptp_bmca_machine.specs.Frame.{FollowUp, Sync, SyncMessage}
use Rattle.gptp_invariants.specs.ChoiceView.{port_identity_number, says_sync}

-- octets tell no time
abbrev pub IsTimeless : List ℕ → Type 0
IsTimeless octets = (x : SyncMessage) → says_sync octets x → ⊥

-- none of these lists of octets tells time
abbrev pub AreTimeless : List (List ℕ) → Type 0
AreTimeless all = (octets : List ℕ) → In octets all → IsTimeless octets

-- a Sync of this port, directly after it its Follow_Up, and nothing else
pub record ArePaired (source : PortIdentity) (all : List (List ℕ)) : Type 0 where
  pub sequence : ℕ
  pub sync : List ℕ
  pub follow_up : List ℕ
  pub are : all ≡ sync ∷ follow_up ∷ []
  pub first : says_sync sync (Sync (record { source = source; sequence = sequence }))
  pub second : says_sync follow_up (FollowUp (record { source = source; sequence = sequence }))

-- a system takes its time at this port, which is capable, from that one
pub record TakesTime (s : SystemState) (p : ℕ) (source : PortIdentity) : Type 0 where
  pub capable : is_capable_at s p ≡ true
  pub slave : s.slave ≡ Some p
  pub reception : Reception
  pub holds : received (held_at s p) ≡ Some reception
  pub came : port_identity_number reception.vector.source ≡ source

-- a system heard its time now: it will send that on, and its Lapse timer begins anew
pub record IsHeard (now : ℕ) (s s' : SystemState) : Type 0 where
  pub relay : s'.relay ≡ Some (unwrap_or s.relay (now + s.params.residence))
  pub lapse : s'.lapse ≡ lapse_of s.params s.root s.slave now

-- The time that a system knows has a timestamp. Where something can lapse it knows a time while its Relay timer runs.
-- Its Lapse timer runs only where its root may be grandmaster.
pub record KnowsTime (s : SystemState) : Type 0 where
  pub stamped : (info : SyncInfo) → s.known ≡ Some info → info.origin.nanos < 1000000000
  pub relays : (due : ℕ) → 0 < s.params.sync_timeout → s.relay ≡ Some due → IsSome s.known
  pub lapses : (due : ℕ) → s.lapse ≡ Some due → can_lead s.root ≡ true

-- what is said of the time that a system knows, and of its Relay and Lapse timers, is so of each live system
abbrev pub KnowTime : WorldState → Type 0
KnowTime w = (place : ℕ) (station : Station) → slice_get w.stations place ≡ Some station → station.live ≡ true
    → KnowsTime station.system

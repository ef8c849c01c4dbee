-- Over which exchanges a rate is measured (neighborRateRatio, IEEE 802.1AS-2020, 11.2.19.3.3; the window is this
-- project's profile).
use Rattle.std.specs.Prelude.{◌≡◌, ℕ, ◌≤◌, ◌&&◌, if◌then◌else◌, List, [], ◌∷◌, length, take}
use Rattle.std.specs.Option.{option_map_or}
use Rattle.gptp_vector.specs.declared.port.PortId.{PortId}
use Rattle.gptp_pdelay.specs.declared.exchange.Times.{Times}
use Rattle.gptp_pdelay.specs.Capability.{Event, Resets, HearsFollowUp, IntervalEnds, after, after_all}
use Rattle.gptp_pdelay.specs.Exchange.{times_of}
use Rattle.gptp_pdelay.specs.Peer.{PeerState, is_open, loses_too_many, measured_by, new_peer}

-- the full exchanges since the reset, the newest first, after an event, where these had come before it
abbrev pub since_reset : Event → PeerState → List Times → List Times
since_reset Resets p ts = []
since_reset (HearsFollowUp f) p ts =
    option_map_or (λ m. times_of m ∷ ts) (measured_by f p.own p.last p.past p.progress) ts
since_reset IntervalEnds p ts = if is_open p.progress && loses_too_many p then [] else ts
since_reset _ p ts = ts

-- those after these events, where these had come before them
abbrev pub since_reset_all : List Event → PeerState → List Times → List Times
since_reset_all [] p ts = ts
since_reset_all (e ∷ es) p ts = since_reset_all es (after e p) (since_reset e p ts)

-- Whatever comes to a new port, it keeps the newest of its full exchanges since the reset, as many as the window has.
abbrev pub PastIsNewest : Type 0
PastIsNewest = (own : PortId) (threshold allowed window : ℕ) (events : List Event)
    → (after_all events (new_peer own threshold allowed window)).past
    ≡ take window (since_reset_all events (new_peer own threshold allowed window) [])

-- The window of a port stays, and so it never keeps more exchanges than that.
pub record WindowStays : Type 0 where
  pub window : (e : Event) (p : PeerState) → (after e p).window ≡ p.window
  pub few : (e : Event) (p : PeerState) → length p.past ≤ p.window → length (after e p).past ≤ (after e p).window

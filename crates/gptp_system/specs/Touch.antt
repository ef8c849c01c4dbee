-- What an input does to what a port holds, before the system selects (IEEE 802.1AS-2020, 10.3.10 to 10.3.13).
use Rattle.std.specs.Prelude.{◌≡◌, ◌≢◌, ◌⊎◌, ℕ, true, false, List, Some, None}
use Rattle.gptp_messages.specs.declared.announce.AnnounceView.{AnnounceView}
use Rattle.gptp_messages.specs.declared.message.Message.TheVariants as messages
use Rattle.gptp_messages.specs.Grammar.{Reads}
use Rattle.gptp_vector.specs.declared.port.PortId.{PortId}
use Rattle.gptp_receipt.specs.declared.held.Held.{Held}
use Rattle.gptp_receipt.specs.declared.held.Held.TheVariants as helds
use Rattle.gptp_receipt.specs.declared.held.Reception.{Reception}
use Rattle.gptp_receipt.specs.Held.{comparison, held_after, received, reception}
use Rattle.gptp_receipt.specs.Qualification.{Qualified}
use Rattle.gptp_setup.specs.declared.timer.Timer.TheVariants as timers
use Rattle.gptp_system.specs.State.{SystemState, held_at, is_capable_at}
use Rattle.gptp_system.specs.Input.{Input, PortUp, PortDown, Frame, Expires, Priority}

-- An input as far as Announces are concerned: one is heard, the Announce timer of a port expires, what a port holds
-- grows too old, a port becomes asCapable or no longer so, or something else happens.
pub data Touch : Type 0 where
  Hear : (port : ℕ) → AnnounceView → Touch
  Tick Grow Enable Disable : (port : ℕ) → Touch
  Other : Touch

-- a qualified Announce takes the place of what the port held, or doesn't, and any other changes nothing
abbrev pub HeardAs : PortId → AnnounceView → ℕ → Held → Held → Type 0
HeardAs own a now h mid =
    (Qualified a own.clock × (mid ≡ held_after (comparison h own a) h (reception a own now)))
    ⊎ ((Qualified a own.clock → ⊥) × (mid ≡ h))

-- a port of the system with this clock and with the number n, which held h, holds `mid` after the touch
abbrev pub PortHoldsInTouch : ℕ → ℕ → Touch → ℕ → Held → Held → Type 0
PortHoldsInTouch clock n (Hear p a) now h mid =
    ((n ≡ p) × (h ≢ helds.Disabled) × HeardAs (record { clock = clock; port = n }) a now h mid) ⊎ ((n ≢ p) × (mid ≡ h))
PortHoldsInTouch clock n (Tick p) now h mid = mid ≡ h
PortHoldsInTouch clock n (Grow p) now h mid = ((n ≡ p) × (mid ≡ helds.Aged)) ⊎ ((n ≢ p) × (mid ≡ h))
PortHoldsInTouch clock n (Enable p) now h mid =
    ((n ≡ p) × (h ≡ helds.Disabled) × (mid ≡ helds.Aged)) ⊎ ((n ≢ p) × (mid ≡ h))
PortHoldsInTouch clock n (Disable p) now h mid = ((n ≡ p) × (mid ≡ helds.Disabled)) ⊎ ((n ≢ p) × (mid ≡ h))
PortHoldsInTouch clock n Other now h mid = mid ≡ h

-- the measuring of a port makes it asCapable, or ends that, or does neither
abbrev pub IsTurn : ℕ → Touch → Type 0
IsTurn p touch = (touch ≡ Enable p) ⊎ ((touch ≡ Disable p) ⊎ (touch ≡ Other))

-- a frame on a port that is asCapable is a heard Announce exactly where it reads as one
abbrev pub IsFrameSeenAs : SystemState → ℕ → List ℕ → Touch → Type 0
IsFrameSeenAs s p octets touch =
    ((a : AnnounceView) × Reads octets (messages.Announce a) × (is_capable_at s p ≡ true) × (touch ≡ Hear p a))
    ⊎ (((a : AnnounceView) → Reads octets (messages.Announce a) → is_capable_at s p ≡ false) × IsTurn p touch)

-- no time came for too long: what the Slave port received grows too old, and where it received nothing, nothing happens
abbrev pub IsLapseSeenAs : SystemState → Touch → Type 0
IsLapseSeenAs s touch =
    ((p : ℕ) × (r : Reception) × (s.slave ≡ Some p) × (received (held_at s p) ≡ Some r) × (touch ≡ Grow p))
    ⊎ (((p : ℕ) → s.slave ≡ Some p → received (held_at s p) ≡ None) × (touch ≡ Other))

-- what an input is, so far
abbrev pub IsSeenAs : SystemState → Input → Touch → Type 0
IsSeenAs s (PortUp p) touch = IsTurn p touch
IsSeenAs s (PortDown p) touch = touch ≡ Disable p
IsSeenAs s (Frame p octets) touch = IsFrameSeenAs s p octets touch
IsSeenAs s (Expires (timers.Announce p)) touch = touch ≡ Tick p
IsSeenAs s (Expires (timers.Age p)) touch = touch ≡ Grow p
IsSeenAs s (Expires (timers.Pdelay p)) touch = IsTurn p touch
IsSeenAs s (Expires (timers.Respond p)) touch = touch ≡ Other
IsSeenAs s (Expires timers.Sync) touch = touch ≡ Other
IsSeenAs s (Expires timers.Relay) touch = touch ≡ Other
IsSeenAs s (Expires timers.Lapse) touch = IsLapseSeenAs s touch
IsSeenAs s (Priority value) touch = touch ≡ Other

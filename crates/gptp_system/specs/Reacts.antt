-- What a system makes of a touch: what its ports hold afterwards, and the Announces that it sends.
use Rattle.std.specs.Prelude.{◌≡◌, ◌≢◌, ◌⊎◌, ◌+◌, ℕ, suc, true, List, Some, slice_get}
use Rattle.gptp_lists.specs.Members.{In}
use Rattle.gptp_vector.specs.Vector.{lower, master_of}
use Rattle.gptp_messages.specs.declared.announce.AnnounceBody.{AnnounceBody}
use Rattle.gptp_receipt.specs.declared.held.Held.{Held}
use Rattle.gptp_receipt.specs.declared.held.Held.TheVariants as helds
use Rattle.gptp_receipt.specs.declared.held.Reception.{Reception}
use Rattle.gptp_receipt.specs.Held.{received}
use Rattle.gptp_system.specs.declared.port.Port.{Port}
use Rattle.gptp_system.specs.declared.sending.Body.{Body}
use Rattle.gptp_system.specs.declared.sending.Body.TheVariants as bodies
use Rattle.gptp_system.specs.declared.sending.Sending.{Sending}
use Rattle.gptp_setup.specs.Intervals.{interval_of}
use Rattle.gptp_system.specs.State.{SystemState, clock, own}
use Rattle.gptp_system.specs.Sends.{announcement}
use Rattle.gptp_system.specs.Touch.{Touch, PortHoldsInTouch}

-- the message is an Announce
abbrev pub IsAnnounce : Body → Type 0
IsAnnounce body = (announce : AnnounceBody) × (body ≡ bodies.Announce announce)

-- port n announces, and does so again one announce interval later (10.3.16)
pub record PortAnnounces (n now : ℕ) (q q' : Port) (sends : List Sending) : Type 0 where
  pub sent : (x : Sending) × In x sends × (x.port ≡ n) × IsAnnounce x.body
  pub timer : q'.announce ≡ now + interval_of q.log_interval

-- a port that isn't Master is Disabled or holds what it received
abbrev pub HoldsOrIsDisabled : Held → Type 0
HoldsOrIsDisabled h = (h ≡ helds.Disabled) ⊎ ((r : Reception) × (received h ≡ Some r))

-- A Master port holds the own root and steps; its master vector is lower than what it had received (10.3.13). It
-- announces at once where either is new to it; where neither is, it may do so or leave its timer alone.
pub record IsMaster (clock n now root steps : ℕ) (mid h' : Held) (q q' : Port) (sends : List Sending) : Type 0 where
  pub mine : h' ≡ helds.Mine root steps
  pub on : mid ≢ helds.Disabled
  pub is_lower : (r : Reception) → received mid ≡ Some r → lower (master_of root steps clock n) r.vector ≡ true
  pub timing : ((mid ≡ helds.Mine root steps) × (q'.announce ≡ q.announce)) ⊎ PortAnnounces n now q q' sends

-- what a port that holds `mid` after the touch holds in the end
abbrev pub PortEnds : ℕ → ℕ → ℕ → ℕ → ℕ → Held → Held → Port → Port → List Sending → Type 0
PortEnds clock n now root steps mid h' q q' sends =
    ((h' ≡ mid) × HoldsOrIsDisabled mid) ⊎ IsMaster clock n now root steps mid h' q q' sends

-- the part of one port
pub record PortReacts (clock n : ℕ) (touch : Touch) (now root steps : ℕ) (h h' : Held) (q q' : Port)
    (sends : List Sending)
    : Type 0 where
  pub log : q'.log_interval ≡ q.log_interval
  pub mid : Held
  pub before : PortHoldsInTouch clock n touch now h mid
  pub after : PortEnds clock n now root steps mid h' q q' sends

-- the part of the port at this place, from the new state back to the old one
pub record PlaceReacts (s : SystemState) (touch : Touch) (now : ℕ) (s' : SystemState) (sends : List Sending) (i : ℕ)
    (h' : Held) (q' : Port) : Type 0 where
  pub held : Held
  pub port : Port
  pub held_there : slice_get s.held i ≡ Some held
  pub port_there : slice_get s.ports i ≡ Some port
  pub reacts : PortReacts (clock s) (suc i) touch now s'.root s'.steps held h' port q' sends

-- an Announce is that of a Master port, with the chosen root and the own steps, and names the interval of that port;
-- its path is the trace of this state
pub record IsOwnAnnounce (s : SystemState) (x : Sending) : Type 0 where
  pub place : ℕ
  pub port : Port
  pub number_is : x.port ≡ suc place
  pub holds : slice_get s.held place ≡ Some (helds.Mine s.root s.steps)
  pub is : x ≡ announcement (own s (suc place)) s.root s.steps port
  pub log : (q : Port) → slice_get s.ports place ≡ Some q → q.log_interval ≡ port.log_interval

-- the system answers the touch: each port takes its part, and each Announce sent is the system's own
pub record Reacts (s : SystemState) (touch : Touch) (now : ℕ) (s' : SystemState) (sends : List Sending) : Type 0 where
  pub same_clock : clock s' ≡ clock s
  pub ports : (i : ℕ) (h' : Held) (q' : Port) → slice_get s'.held i ≡ Some h' → slice_get s'.ports i ≡ Some q'
      → PlaceReacts s touch now s' sends i h' q'
  pub tells : (x : Sending) → In x sends → IsAnnounce x.body → IsOwnAnnounce s' x

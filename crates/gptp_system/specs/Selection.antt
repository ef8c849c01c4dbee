-- What selection makes of a system (IEEE 802.1AS-2020, 10.3.13, 10.3.15 and 10.3.16).
use Rattle.std.specs.Prelude.{◌≡◌, ℕ, ◌+◌, ◌==◌, Bool, true, false, ◌&&◌, if◌then◌else◌, List, [], ◌∷◌, Option, Some}
use Rattle.std.specs.Prelude.{None}
use Rattle.gptp_vector.specs.declared.vector.Vector.{Vector}
use Rattle.gptp_roles.specs.Choice.{IsChosen, slave_port}
use Rattle.gptp_roles.specs.Role.{each_port, held_after_selection, is_fresh}
use Rattle.gptp_system.specs.declared.port.Port.{Port}
use Rattle.gptp_system.specs.declared.sending.Sending.{Sending}
use Rattle.gptp_setup.specs.Intervals.{interval_of}
use Rattle.gptp_system.specs.State.{SystemState, clock, lapse_of}
use Rattle.gptp_system.specs.Sends.{announcement, next_sequence}

-- a port that announces does so again one announce interval later
abbrev pub announced_again : ℕ → Port → Port
announced_again now q = record q { announce = now + interval_of q.log_interval; announces = next_sequence q.announces }

-- the ports that are marked announce
abbrev pub all_announced : ℕ → List Bool → List Port → List Port
all_announced now [] qs = qs
all_announced now (f ∷ fs) [] = []
all_announced now (f ∷ fs) (q ∷ qs) = (if f then announced_again now q else q) ∷ all_announced now fs qs

-- the Announces of the ports that are marked, the first port having this number
abbrev pub announcements : ℕ → ℕ → ℕ → ℕ → List Bool → List Port → List Sending
announcements clock root steps p [] qs = []
announcements clock root steps p (f ∷ fs) [] = []
announcements clock root steps p (f ∷ fs) (q ∷ qs) =
    if f
    then announcement (record { clock = clock; port = p }) root steps q ∷ announcements clock root steps (p + 1) fs qs
    else announcements clock root steps (p + 1) fs qs

-- the ports that must announce at once
abbrev pub fresh_ports : Vector → SystemState → List Bool
fresh_ports v s = each_port (is_fresh v (clock s)) s.held

-- two port numbers, or none and none
abbrev pub same_number : Option ℕ → Option ℕ → Bool
same_number None None = true
same_number (Some p) (Some q) = p == q
same_number _ _ = false

-- the system follows the same root by the same port
abbrev pub follows_on : Vector → SystemState → Bool
follows_on v s = v.root == s.root && same_number (slave_port v) s.slave

-- what is known stays known in that case alone
abbrev pub kept_if : {X : Type 0} → Bool → Option X → Option X
kept_if same known = if same then known else None

-- the Lapse timer runs on in that case, and begins anew otherwise (10.3.12)
abbrev pub lapse_after : Vector → ℕ → SystemState → Option ℕ
lapse_after v now s = if follows_on v s then s.lapse else lapse_of s.params v.root (slave_port v) now

-- The state after the vector was chosen: each port holds what its role asks for, fresh ports announce, and time that
-- came over another way is forgotten.
abbrev pub choosing : Vector → ℕ → SystemState → SystemState
choosing v now s = record s {
  held = each_port (held_after_selection v (clock s)) s.held;
  ports = all_announced now (fresh_ports v s) s.ports;
  root = v.root;
  steps = v.steps;
  slave = slave_port v;
  sync_in = kept_if (follows_on v s) s.sync_in;
  known = kept_if (follows_on v s) s.known;
  offset = kept_if (follows_on v s) s.offset;
  relay = kept_if (follows_on v s) s.relay;
  lapse = lapse_after v now s;
}

-- a system selects: by the vector that is chosen among what its ports hold
pub record Selects (now : ℕ) (s s' : SystemState) (sends : List Sending) : Type 0 where
  pub vector : Vector
  pub is_chosen : IsChosen s.identity s.held vector
  pub state : s' ≡ choosing vector now s
  pub sends_are : sends ≡ announcements (clock s) vector.root vector.steps 1 (fresh_ports vector s) s.ports

-- a system becomes another without sending
pub record Becomes (s s' : SystemState) (sends : List Sending) : Type 0 where
  pub state : s' ≡ s
  pub silent : sends ≡ []

-- it selects, or only becomes the other
abbrev pub SelectsIf : Bool → ℕ → SystemState → SystemState → List Sending → Type 0
SelectsIf true now s s' sends = Selects now s s' sends
SelectsIf false now s s' sends = Becomes s s' sends

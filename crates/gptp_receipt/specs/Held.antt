-- What a port holds, and what hearing and time do to it (profile, for IEEE 802.1AS-2020, 10.3.10 to 10.3.12).
use Rattle.std.specs.Prelude.{◌≡◌, ◌≢◌, ℕ, ◌+◌, ◌<◌, ◌≤◌, ◌==◌, ◌&&◌, Bool, false, nat_le, if◌then◌else◌, length, Contains, Option, Some, None}
use Rattle.std.specs.Option.{ForSome, option_map_or}
use Rattle.gptp_vector.specs.declared.port.PortId.{PortId}
use Rattle.gptp_vector.specs.declared.vector.Vector.{Vector}
use Rattle.gptp_vector.specs.Vector.{lower, master_of}
use Rattle.gptp_messages.specs.declared.announce.AnnounceView.{AnnounceView}
use Rattle.gptp_receipt.specs.declared.held.Held.{Held}
use Rattle.gptp_receipt.specs.declared.held.Held.TheVariants.{Disabled, Aged, Mine, Received}
use Rattle.gptp_receipt.specs.declared.held.Reception.{Reception}
use Rattle.gptp_receipt.specs.declared.held.Heard.{Heard}
use Rattle.gptp_receipt.specs.declared.held.Heard.TheVariants.{Superior, Repeated, Inferior}

-- what a port received, where it holds that
abbrev pub received : Held → Option Reception
received Disabled = None
received Aged = None
received (Mine root steps) = None
received (Received r) = Some r

-- the message vector of an Announce that is heard on a port of this number (IEEE 802.1AS-2020, 10.3.5)
abbrev pub message_vector : AnnounceView → ℕ → Vector
message_vector a port = record { root = a.body.root; steps = a.body.steps; source = a.head.source; receiver = port }

-- what a port receives by an Announce
abbrev pub reception : AnnounceView → PortId → ℕ → Reception
reception a own now =
    record { vector = message_vector a own.port; path = a.path; interval = a.head.log_interval; at = now }

-- two vectors have the same source port
abbrev pub same_source : Vector → Vector → Bool
same_source v w = v.source.clock == w.source.clock && v.source.port == w.source.port

-- better or not
abbrev pub superior_if : Bool → Heard
superior_if better = if better then Superior else Inferior

-- What a message vector is to a port that received one: Repeated from the same source in any case, else
-- Superior where it is lower.
abbrev pub against_received : Vector → Vector → Heard
against_received known v = if same_source known v then Repeated else superior_if (lower v known)

-- What a message vector is to a port that received none: Superior on an aged port, and where it is lower
-- than the port's own master vector.
abbrev pub against_own : Held → PortId → Vector → Heard
against_own (Mine root steps) own v = superior_if (lower v (master_of root steps own.clock own.port))
against_own Aged own v = Superior
against_own _ own v = Inferior

-- what a message vector is to a port
abbrev pub comparison_of : Held → PortId → Vector → Heard
comparison_of held own v =
    option_map_or (λ (r : Reception). against_received r.vector v) (received held) (against_own held own v)

abbrev pub comparison : Held → PortId → AnnounceView → Heard
comparison held own a = comparison_of held own (message_vector a own.port)

-- Superior and Repeated replace all that is held, Inferior changes nothing
abbrev pub held_after : Heard → Held → Reception → Held
held_after Superior before r = Received r
held_after Repeated before r = Received r
held_after Inferior before r = before

-- what is received is too old once `span` has passed since its receipt
abbrev pub is_due : Held → ℕ → ℕ → Bool
is_due held span now = option_map_or (λ (r : Reception). nat_le (r.at + span) now) (received held) false

-- what is too old is dropped, and nothing else changes
abbrev pub aged : Held → ℕ → ℕ → Held
aged held span now = if is_due held span now then Aged else held

-- what a port can have received: it qualified there, and came from another system
pub record CameTo (own : PortId) (r : Reception) : Type 0 where
  pub foreign : r.vector.source.clock ≢ own.clock
  pub receiver : r.vector.receiver ≡ own.port
  pub near : r.vector.steps < 255
  pub no_loop : Contains r.path own.clock → ⊥
  pub short : length r.path ≤ 255

-- what the port holds as received, if anything, came to it
abbrev pub HoldsFor : PortId → Held → Type 0
HoldsFor own held = ForSome (received held) (CameTo own)

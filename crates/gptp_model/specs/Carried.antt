-- What a link carries, seen as its octets.
use Rattle.std.specs.Prelude.{ℕ, ◌%◌, Bool, true, false, List, [], ◌∷◌, Option, Some, None}
use Rattle.gptp_messages.specs.Grammar.{Written}
use Rattle.gptp_model.specs.declared.carried.Form.{Form}
use Rattle.gptp_model.specs.declared.carried.Form.TheVariants as forms
use Rattle.gptp_system.specs.Sends.{message_sent}

-- the octets of a frame, and whether they stand written
pub record FrameOctets : Type 0 where
  pub items : List ℕ
  pub is_written : Bool

-- of a message that was sent they are those that it would have
abbrev pub octets_in : Form → FrameOctets
octets_in (forms.Octets octets) = record { items = octets.items; is_written = true }
octets_in (forms.Message sent) = record { items = Written (message_sent sent); is_written = false }

-- the messageType in the first octet, where there is one (IEEE 1588-2019, 13.3.2.3)
abbrev pub first_type : List ℕ → Option ℕ
first_type [] = None
first_type (octet ∷ octets) = Some (octet % 16)

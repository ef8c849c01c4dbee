-- What a word of hexadecimal announces.
use Rattle.std.specs.Prelude.{◌≡◌, ◌⊎◌, ℕ, List, codes, Result, Ok, Err, IsErr}
use Rattle.hex.specs.Hex.{decode_of}
use Rattle.gptp_vector.specs.declared.vector.Vector.{Vector}
use Rattle.gptp_messages.specs.declared.announce.AnnounceView.{AnnounceView}
use Rattle.gptp_messages.specs.declared.message.Message.{Message}
use Rattle.gptp_messages.specs.declared.message.Message.TheVariants.{Announce}
use Rattle.gptp_messages.specs.declared.refused.Refused.{Refused}
use Rattle.gptp_messages.specs.declared.refused.Refused.TheVariants.{UnknownType}
use Rattle.gptp_messages.specs.Grammar.{Reads, RefusesFrame}
use Rattle.gptp_messages.specs.Refused.{refusal_text}
use Rattle.gptp_commands.specs.declared.announced.WordFault.{WordFault}
use Rattle.gptp_commands.specs.declared.announced.WordFault.TheVariants as faults

-- The message priority vector of an Announce (IEEE 802.1AS-2020, 10.3.5). No port hears it, so the receiving port is
-- 0 (profile).
abbrev pub vector_of : AnnounceView → Vector
vector_of a = record { root = a.body.root; steps = a.body.steps; source = a.head.source; receiver = 0 }

-- the octets read as an Announce with this vector
abbrev pub AnnouncesVector : List ℕ → Vector → Type 0
AnnouncesVector frame v = (a : AnnounceView) × Reads frame (Announce a) × (v ≡ vector_of a)

-- the octets read as a message of another type
abbrev pub ReadsAsOther : List ℕ → Type 0
ReadsAsOther frame = (m : Message) × Reads frame m × ((a : AnnounceView) → m ≡ Announce a → ⊥)

-- the octets are no message, or one that announces nothing, which is refused as of an unknown type
abbrev pub AnnouncesNothing : List ℕ → Refused → Type 0
AnnouncesNothing frame refused = RefusesFrame frame refused ⊎ (ReadsAsOther frame × (refused ≡ UnknownType))

-- A word announces a vector. Else it isn't hexadecimal, or its octets aren't an Announce.
abbrev pub SaysVector : List ℕ → Result Vector WordFault → Type 0
SaysVector word (Ok v) = (frame : List ℕ) × (decode_of word ≡ Ok frame) × AnnouncesVector frame v
SaysVector word (Err faults.Hex) = IsErr (decode_of word)
SaysVector word (Err (faults.Message refused)) =
    (frame : List ℕ) × (decode_of word ≡ Ok frame) × AnnouncesNothing frame refused

-- how a fault of a word is shown
abbrev pub word_fault_text : WordFault → List ℕ
word_fault_text faults.Hex = codes "hex"
word_fault_text (faults.Message refused) = refusal_text refused

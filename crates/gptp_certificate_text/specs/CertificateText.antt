-- The text of a certificate (profile).
use Rattle.std.specs.Prelude.{◌≡◌, ℕ, Bool, true, false, Option, Some, None, List, [], ◌∷◌, ◌++◌, map, codes}
use Rattle.std.specs.Fmt.{decimal}
use Rattle.std.specs.Option.{option_map}
use Rattle.gptp_graph.specs.Labelling.{PortLine, SystemLine}
use Rattle.gptp_graph.specs.Parent.{ParentLink}
use Rattle.gptp_words.specs.Digits.{clock_text, identity_text}
use Rattle.gptp_words.specs.Lines.{text_of}
use Rattle.gptp_certificate_text.specs.Entries.{LineKey, SystemEntry, PortEntry, entries_of}
use Rattle.gptp_certificate_text.specs.Forms.{Form, SystemForm, FarForm, PortForm, ParentWords, PortWords, FarWords, SystemWords, form_text}

-- the words of a parent: numbers are decimal, clocks hexadecimal
abbrev pub parent_words : ParentLink → ParentWords
parent_words link = record {
  own_port = decimal link.own_port;
  clock = clock_text link.clock;
  port = decimal link.port;
}

-- the words of a system line
abbrev pub system_words : ℕ → ℕ → ℕ → Option ParentLink → SystemWords
system_words clock root steps parent = record {
  clock = clock_text clock;
  root = identity_text root;
  steps = decimal steps;
  parent = option_map parent_words parent;
}

-- the words of a far system's line
abbrev pub far_words : ℕ → ℕ → ℕ → FarWords
far_words clock root steps = record { clock = clock_text clock; steps = decimal steps; root = identity_text root }

-- the words of a port line
abbrev pub port_words : ℕ → PortLine → PortWords
port_words clock port = record { clock = clock_text clock; number = decimal port.number; role = port.role }

-- how a line is spelled
abbrev pub spelled_line : LineKey → Form
spelled_line (SystemEntry clock root steps true parent) = FarForm (far_words clock root steps)
spelled_line (SystemEntry clock root steps false parent) = SystemForm (system_words clock root steps parent)
spelled_line (PortEntry clock port) = PortForm (port_words clock port)

-- a line, as it is spelled
abbrev pub entry_text : LineKey → List ℕ
entry_text entry = form_text (spelled_line entry)

-- the head line
abbrev pub head_text : ℕ → List ℕ
head_text version = codes "gptp-certificate " ++ decimal version

-- the head, and then these lines
abbrev pub front_text : ℕ → List LineKey → List ℕ
front_text version entries = text_of (head_text version ∷ map entry_text entries)

-- the line that a certificate ends with
abbrev pub end_text : List ℕ
end_text = codes "end" ++ 10 ∷ []

-- the head, the lines of each system, and the end
abbrev pub certificate_text : ℕ → List SystemLine → List ℕ
certificate_text version lines = front_text version (entries_of lines) ++ end_text

-- the lines of a certificate: the head, the lines of each system, and the end
abbrev pub certificate_lines : ℕ → List SystemLine → List (List ℕ)
certificate_lines version lines = head_text version ∷ map entry_text (entries_of lines) ++ codes "end" ∷ []

-- A line was appended with its line feed, and it was told so; or there is none, and nothing was appended.
abbrev pub PrintsLine : Option (List ℕ) → Bool → List ℕ → List ℕ → Type 0
PrintsLine (Some line) told before after = (told ≡ true) × (after ≡ before ++ (line ++ 10 ∷ []))
PrintsLine None told before after = (told ≡ false) × (after ≡ before)

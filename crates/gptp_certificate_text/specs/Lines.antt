-- The lines that a text is read by, in the words of the code (profile).
use Rattle.std.specs.Prelude.{◌≡◌, ◌≢◌, ◌⊎◌, ◌++◌, ℕ, Bool, true, false, None, List, [], ◌∷◌, map}
use Rattle.std.specs.Option.{option_map}
use Rattle.gptp_certificate_text.specs.declared.fault.CertificateFault.{CertificateFault}
use Rattle.gptp_certificate_text.specs.declared.fault.CertificateFault.TheVariants.{Line, Order, OutOfMemory, Spelling}
use Rattle.gptp_certificate_text.specs.declared.form.ParentWords.{ParentWords}
use Rattle.gptp_certificate_text.specs.declared.form.SystemWords.{SystemWords}
use Rattle.gptp_certificate_text.specs.declared.form.FarWords.{FarWords}
use Rattle.gptp_certificate_text.specs.declared.form.PortWords.{PortWords}
use Rattle.gptp_certificate_text.specs.declared.form.Form.{Form}
use Rattle.gptp_certificate_text.specs.declared.form.Form.TheVariants.{System, Far, Port}
use Rattle.gptp_certificate_text.specs.declared.entry.Entry.{Entry}
use Rattle.gptp_certificate_text.specs.declared.entry.Entry.TheVariants as read
use Rattle.gptp_certificate_text.specs.Certificate.{parent_of, port_line_of, role_of}
use Rattle.gptp_certificate_text.specs.Entries as entries
use Rattle.gptp_certificate_text.specs.CertificateText.{entry_text, spelled_line}
use Rattle.gptp_graph.specs.Labelling as graphs
use Rattle.gptp_certificate_text.specs.Forms as forms
use Rattle.gptp_certificate_text.specs.Forms.{FitsHere, HasForm}

-- the words of a parent, out of the text
abbrev pub parent_words_of : ParentWords → forms.ParentWords
parent_words_of words = record { own_port = words.own_port.now; clock = words.clock.now; port = words.port.now }

-- the words of a system line, out of the text
abbrev pub system_words_of : SystemWords → forms.SystemWords
system_words_of words = record {
  clock = words.clock.now;
  root = words.root.now;
  steps = words.steps.now;
  parent = option_map parent_words_of words.parent;
}

-- those of a far system's line
abbrev pub far_words_of : FarWords → forms.FarWords
far_words_of words = record { clock = words.clock.now; steps = words.steps.now; root = words.root.now }

-- the words of a port line, out of the text
abbrev pub port_words_of : PortWords → forms.PortWords
port_words_of words = record {
  clock = words.clock.now;
  number = words.number.now;
  role = role_of words.role;
}

-- a line by its words
abbrev pub form_of : Form → forms.Form
form_of (System words) = forms.SystemForm (system_words_of words)
form_of (Far words) = forms.FarForm (far_words_of words)
form_of (Port words) = forms.PortForm (port_words_of words)

-- a line by what its words spell
abbrev pub entry_of : Entry → entries.LineKey
entry_of (read.System clock root steps parent) =
    entries.SystemEntry clock root steps false (option_map parent_of parent)
entry_of (read.Far clock root steps) = entries.SystemEntry clock root steps true None
entry_of (read.Port clock number role) = entries.PortEntry clock (port_line_of (number, role))

-- the fault of a line by itself, in a text of this version, right after a far system's line or not: it has no form
-- that can stand there, or is the line of no entry
abbrev pub LineFails : ℕ → Bool → List ℕ → CertificateFault → Type 0
LineFails version after_far line fault =
    ((fault ≡ Line) × (HasForm version after_far line → ⊥))
    ⊎ ((fault ≡ Spelling) × HasForm version after_far line
    × ((entry : entries.LineKey) → entries.IsReadableEntry version entry → line ≢ entry_text entry))

-- the last of a list that begins with the entry
abbrev pub last_of : entries.LineKey → List entries.LineKey → entries.LineKey
last_of entry [] = entry
last_of entry (next ∷ rest) = last_of next rest

-- the last line of a system
abbrev pub last_entry : graphs.SystemLine → entries.LineKey
last_entry line = last_of (entries.system_entry line) (map (entries.PortEntry line.clock) line.ports)

-- one line more, in order
pub record Appends (before : List entries.LineKey) (entry : entries.LineKey)
    (after : List entries.LineKey) : Type 0 where
  pub is : after ≡ before ++ entry ∷ []
  pub order : entries.StandInOrder after

-- memory was refused, or the line can't stand after those before
abbrev pub RefusesOrder : List entries.LineKey → entries.LineKey → CertificateFault → Type 0
RefusesOrder before entry fault =
    (fault ≡ OutOfMemory) ⊎ ((fault ≡ Order) × (entries.StandInOrder (before ++ entry ∷ []) → ⊥))

-- the line is an entry's, which stands after those before
pub record ReadsLine (version : ℕ) (before : List entries.LineKey) (line : List ℕ) (after : List entries.LineKey)
    : Type 0 where
  pub entry : entries.LineKey
  pub readable : entries.IsReadableEntry version entry
  pub is : line ≡ entry_text entry
  pub appends : Appends before entry after

-- the line is an entry's, whose form can stand there, but which can't stand after those before
pub record IsOutOfPlace (version : ℕ) (before : List entries.LineKey) (line : List ℕ) : Type 0 where
  pub entry : entries.LineKey
  pub readable : entries.IsReadableEntry version entry
  pub fits : FitsHere version (entries.ends_far before) (spelled_line entry)
  pub is : line ≡ entry_text entry
  pub order : entries.StandInOrder (before ++ entry ∷ []) → ⊥

-- memory was refused, or the line has the fault
abbrev pub RefusesLine : ℕ → List entries.LineKey → List ℕ → CertificateFault → Type 0
RefusesLine version before line fault =
    (fault ≡ OutOfMemory)
    ⊎ (LineFails version (entries.ends_far before) line fault
    ⊎ ((fault ≡ Order) × IsOutOfPlace version before line))

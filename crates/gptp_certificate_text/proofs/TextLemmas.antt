-- The text of a certificate, written line by line.
use Rattle.std.proofs.Common.{◌≡◌, ℕ, Bool, true, false, List, [], ◌∷◌, ◌++◌, map, refl, sym, ap, ◌∙◌, append_assoc}
use Rattle.std.specs.Prelude.{Option}
use Rattle.std.specs.Option.{option_map}
use Rattle.std.proofs.lemmas.List.{map-append}
use Rattle.std.proofs.lemmas.Grind.{flat_map-append}
use Rattle.gptp_graph.specs.Parent.{ParentLink}
use Rattle.gptp_roles.specs.declared.role.Role.{Role}
use Rattle.gptp_words.specs.Lines.{text_of}
use Rattle.gptp_certificate_text.specs.declared.certificate.SystemLine.{SystemLine}
use Rattle.gptp_certificate_text.specs.Certificate.{line_of, lines_of, parent_of, port_line_of}
use Rattle.gptp_certificate_text.specs.CertificateText.{entry_text, far_words, system_words}
use Rattle.gptp_certificate_text.specs.Forms.{far_text, system_text}
use Rattle.gptp_certificate_text.specs.Entries.{LineKey, SystemEntry, PortEntry, entries_of, entries_of_line, system_entry}

-- the lines of some entries
abbrev pub entries_text : List LineKey → List ℕ
entries_text entries = text_of (map entry_text entries)

pub entries_text-append : (before after : List LineKey)
    → entries_text (before ++ after) ≡ entries_text before ++ entries_text after
entries_text-append before after =
    ap text_of (map-append entry_text before after) ∙ flat_map-append _ (map entry_text before) (map entry_text after)

-- the lines of the ports, as they are written and as they are defined
ports_text : (clock : ℕ) (ports : List (ℕ × Role))
    → map (λ port. entry_text (PortEntry clock (port_line_of port))) ports
    ≡ map entry_text (map (PortEntry clock) (map port_line_of ports))
ports_text clock [] = refl
ports_text clock (port ∷ ports) =
    ap (λ texts. entry_text (PortEntry clock (port_line_of port)) ∷ texts) (ports_text clock ports)

far_line : (clock root steps : ℕ) (far : Bool) (parent : Option ParentLink) → far ≡ true
    → far_text (far_words clock root steps) ≡ entry_text (SystemEntry clock root steps far parent)
far_line clock root steps true parent e = refl
far_line clock root steps false parent e = absurd cc

near_line : (clock root steps : ℕ) (far : Bool) (parent : Option ParentLink) → far ≡ false
    → system_text (system_words clock root steps parent) ≡ entry_text (SystemEntry clock root steps far parent)
near_line clock root steps true parent e = absurd cc
near_line clock root steps false parent e = refl

-- a far system's line, as it is written and as it is defined
pub far_written : (line : SystemLine) (text after : List ℕ) → line.far ≡ true
    → after ≡ text ++ (far_text (far_words line.clock line.root line.steps) ++ 10 ∷ [])
    → after ≡ text ++ (entry_text (system_entry (line_of line)) ++ 10 ∷ [])
far_written line text after far is =
    is ∙ ap (λ entry. text ++ (entry ++ 10 ∷ []))
    (far_line line.clock line.root line.steps line.far (option_map parent_of line.parent) far)

-- and that of another system
pub near_written : (line : SystemLine) (text after : List ℕ) → line.far ≡ false
    → after ≡ text ++ (system_text (system_words line.clock line.root line.steps (option_map parent_of line.parent))
    ++ 10 ∷ [])
    → after ≡ text ++ (entry_text (system_entry (line_of line)) ++ 10 ∷ [])
near_written line text after near is =
    is ∙ ap (λ entry. text ++ (entry ++ 10 ∷ []))
    (near_line line.clock line.root line.steps line.far (option_map parent_of line.parent) near)

-- a system's line and then its ports' are its lines
pub system_written : (line : SystemLine) (text head after : List ℕ)
    → head ≡ text ++ (entry_text (system_entry (line_of line)) ++ 10 ∷ [])
    → after ≡ head ++ text_of (map (λ port. entry_text (PortEntry line.clock (port_line_of port))) line.ports.items)
    → after ≡ text ++ entries_text (entries_of_line (line_of line))
system_written line text head after first ports =
    let lines = entries_text (map (PortEntry line.clock) (map port_line_of line.ports.items)) in
    ports ∙ ap (λ texts. head ++ text_of texts) (ports_text line.clock line.ports.items)
    ∙ ap (λ t. t ++ lines) first ∙ append_assoc text (entry_text (system_entry (line_of line)) ++ 10 ∷ []) lines

-- the lines of the first system go from what is left to what is written
pub next_system : (line : SystemLine) (rest : List SystemLine) (text after whole : List ℕ)
    → after ≡ text ++ entries_text (entries_of_line (line_of line))
    → text ++ entries_text (entries_of (lines_of (line ∷ rest))) ≡ whole
    → after ++ entries_text (entries_of (lines_of rest)) ≡ whole
next_system line rest text after whole new so_far =
    let first = entries_of_line (line_of line) in
    let others = entries_of (lines_of rest) in
    ap (λ t. t ++ entries_text others) new ∙ append_assoc text (entries_text first) (entries_text others)
    ∙ ap (λ t. text ++ t) (sym (entries_text-append first others)) ∙ so_far

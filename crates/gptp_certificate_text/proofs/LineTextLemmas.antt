-- The text of a certificate, one line of it.
use Rattle.std.proofs.Common.{◌≡◌, ◌+◌, ◌-◌, ◌<◌, ◌≤◌, ℕ, zero, suc, Bool, true, List, [], ◌∷◌, ◌++◌, length, map, Option, Some, None, slice_get, codes, refl, ap, ◌∙◌, append_assoc, append-nil, arith}
use Rattle.std.specs.Option.{option_map}
use Rattle.std.proofs.lemmas.List.{map-append, length-map}
use Rattle.std.proofs.lemmas.Option.{slice_get-map}
use Rattle.gptp_roles.specs.declared.role.Role.{Role}
use Rattle.gptp_certificate_text.specs.declared.certificate.SystemLine.{SystemLine}
use Rattle.gptp_certificate_text.specs.Certificate.{line_of, lines_of, port_line_of}
use Rattle.gptp_certificate_text.specs.CertificateText.{PrintsLine, certificate_lines, entry_text}
use Rattle.gptp_certificate_text.specs.Entries.{PortEntry, entries_of, entries_of_line}

-- ---- places in two lists, one after the other

place_before : {X : Type 0} (xs ys : List X) (i : ℕ) → i < length xs → slice_get (xs ++ ys) i ≡ slice_get xs i
place_before [] ys i within = absurd (omega arith)
place_before (x ∷ xs) ys zero within = refl
place_before (x ∷ xs) ys (suc i) within = place_before xs ys i (omega arith)

place_behind : {X : Type 0} (xs ys : List X) (i : ℕ) → length xs ≤ i
    → slice_get (xs ++ ys) i ≡ slice_get ys (i - length xs)
place_behind [] ys i past = ap (slice_get ys) (let same : i ≡ i - 0 = omega arith in same)
place_behind (x ∷ xs) ys zero past = absurd (omega arith)
place_behind (x ∷ xs) ys (suc i) past =
    let same : i - length xs ≡ suc i - length (x ∷ xs) = omega arith in
    place_behind xs ys i (omega arith) ∙ ap (slice_get ys) same

-- ---- the lines of one system

abbrev pub texts_of : SystemLine → List (List ℕ)
texts_of line = map entry_text (entries_of_line (line_of line))

texts_count : (line : SystemLine) → length (texts_of line) ≡ 1 + length line.ports.items
texts_count line =
    let ports = map port_line_of line.ports.items in
    let count = length-map (map (PortEntry line.clock) ports) entry_text ∙ length-map ports (PortEntry line.clock)
    ∙ length-map line.ports.items port_line_of in
    omega (arith, count)

-- after its own line stand those of its ports
pub port_text : (line : SystemLine) (place : ℕ) (port : ℕ × Role) → 0 < place
    → slice_get line.ports.items (place - 1) ≡ Some port
    → slice_get (texts_of line) place ≡ Some (entry_text (PortEntry line.clock (port_line_of port)))
port_text line zero port some here = absurd (omega arith)
port_text line (suc i) port some here =
    let ports = line.ports.items in
    let at : slice_get ports i ≡ Some port =
    ap (slice_get ports) (let same : i ≡ suc i - 1 = omega arith in same) ∙ here in
    slice_get-map entry_text (map (PortEntry line.clock) (map port_line_of ports)) i
    ∙ ap (option_map entry_text) (slice_get-map (PortEntry line.clock) (map port_line_of ports) i
    ∙ ap (option_map (PortEntry line.clock)) (slice_get-map port_line_of ports i ∙ ap (option_map port_line_of) at))

-- ---- the lines after the first

-- those of the systems that are left, and the end
abbrev pub texts_left : List SystemLine → List (List ℕ)
texts_left lines = map entry_text (entries_of (lines_of lines)) ++ codes "end" ∷ []

left_more : (line : SystemLine) (rest : List SystemLine) → texts_left (line ∷ rest) ≡ texts_of line ++ texts_left rest
left_more line rest =
    ap (λ texts. texts ++ codes "end" ∷ [])
    (map-append entry_text (entries_of_line (line_of line)) (entries_of (lines_of rest)))
    ∙ append_assoc (texts_of line) (map entry_text (entries_of (lines_of rest))) (codes "end" ∷ [])

-- the line is one of the next system's
pub here_next : (line : SystemLine) (rest : List SystemLine) (place : ℕ) (text : List ℕ)
    → place < 1 + length line.ports.items → slice_get (texts_of line) place ≡ Some text
    → slice_get (texts_left (line ∷ rest)) place ≡ Some text
here_next line rest place text within here =
    let count = texts_count line in
    ap (λ texts. slice_get texts place) (left_more line rest)
    ∙ place_before (texts_of line) (texts_left rest) place (omega (arith, within, count)) ∙ here

-- or it comes after them
pub behind_next : (line : SystemLine) (rest : List SystemLine) (place : ℕ) → 1 + length line.ports.items ≤ place
    → slice_get (texts_left (line ∷ rest)) place
    ≡ slice_get (texts_left rest) (place - (1 + length line.ports.items))
behind_next line rest place past =
    let count = texts_count line in
    ap (λ texts. slice_get texts place) (left_more line rest)
    ∙ place_behind (texts_of line) (texts_left rest) place (omega (arith, past, count))
    ∙ ap (λ n. slice_get (texts_left rest) (place - n)) count

-- the first line is the head, and the others come after it
pub behind_head : (version : ℕ) (lines : List SystemLine) (place : ℕ) → 0 < place
    → slice_get (certificate_lines version (lines_of lines)) place ≡ slice_get (texts_left lines) (place - 1)
behind_head version lines zero some = absurd (omega arith)
behind_head version lines (suc i) some =
    ap (slice_get (texts_left lines)) (let same : i ≡ suc i - 1 = omega arith in same)

-- ---- what is appended

pub printed : (at : Option (List ℕ)) (line before after : List ℕ) → at ≡ Some line
    → after ≡ before ++ (line ++ 10 ∷ []) → PrintsLine at true before after
printed at line before after is written = rw is (refl, written)

pub printed_behind : (line : Option (List ℕ)) (told : Bool) (before written after : List ℕ)
    → PrintsLine line told [] written → after ≡ before ++ written → PrintsLine line told before after
printed_behind (Some line) told before written after (is, shown) new = (is, new ∙ ap (λ t. before ++ t) shown)
printed_behind None told before written after (is, shown) new =
    (is, new ∙ ap (λ t. before ++ t) shown ∙ append-nil before)

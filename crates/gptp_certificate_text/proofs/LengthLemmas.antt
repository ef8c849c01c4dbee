-- How long the text of a certificate is.
use Rattle.std.proofs.Common.{◌≤◌, ◌+◌, ◌*◌, ℕ, true, false, List, [], ◌∷◌, ◌++◌, length, map, codes, inl, inr, refl, arith, length-append}
use Rattle.std.specs.Prelude.{Option, Some, None, decimal}
use Rattle.std.specs.List.{AllByRecursion}
use Rattle.std.specs.Option.{option_map}
use Rattle.std.proofs.lemmas.Fmt.{length-decimal-le}
use Rattle.std.proofs.lemmas.List.{length-map}
use Rattle.byteorder.specs.Endian.{big_bytes}
use Rattle.byteorder.specs.Numbers.{length-bytes_high_first}
use Rattle.hex.specs.Hex.{encode_lower, lower_digits}
use Rattle.hex.proofs.HexLemmas.{length-encode_with}
use Rattle.gptp_setup.specs.declared.limits.TheConstants.{MOST_PORTS}
use Rattle.gptp_graph.specs.Labelling.{PortLine, SystemLine}
use Rattle.gptp_graph.specs.Parent.{ParentLink}
use Rattle.gptp_graph.specs.SettledRole.{Role, Disabled, Master, Slave, Passive}
use Rattle.gptp_lists.specs.Members.{In}
use Rattle.gptp_words.specs.Digits.{clock_text, identity_text}
use Rattle.gptp_certificate_text.specs.declared.certificate.TheConstants.{CERTIFICATE_LIMIT}
use Rattle.gptp_certificate_text.specs.CertificateText.{certificate_text, end_text, entry_text, far_words, head_text, parent_words, port_words, system_words}
use Rattle.gptp_certificate_text.specs.Entries.{LineKey, SystemEntry, PortEntry, IsReadable, IsReadableEntry, IsReadableParent, entries_of}
use Rattle.gptp_certificate_text.specs.Forms.{far_text, parent_text, port_text, role_word, system_text}
use Rattle.gptp_certificate_text.proofs.TextLemmas.{entries_text}

-- two texts, one after the other
both : (xs ys : List ℕ) (m n : ℕ) → length xs ≤ m → length ys ≤ n → length (xs ++ ys) ≤ m + n
both xs ys m n f g = let e = length-append xs ys in omega (arith, e, f, g)

-- ---- words

number_length : (n : ℕ) → n ≤ 65535 → length (decimal n) ≤ 5
number_length n fits = length-decimal-le 5 n (omega arith) (omega (arith, fits)) (omega (arith, fits))

digits_length : (n x : ℕ) → length (encode_lower (big_bytes n x)) ≤ 2 * n
digits_length n x =
    let digits = length-encode_with lower_digits (big_bytes n x) in
    let octets = length-bytes_high_first n x in
    omega (arith, digits, octets)

role_length : (role : Role) → length (role_word role) ≤ 8
role_length Disabled = omega arith
role_length Master = omega arith
role_length Slave = omega arith
role_length Passive = omega arith

-- ---- lines

parent_length : (parent : Option ParentLink) → IsReadableParent parent
    → length (parent_text (option_map parent_words parent)) ≤ 28
parent_length None is = omega arith
parent_length (Some link) is =
    let own = decimal link.own_port in
    let clock = clock_text link.clock in
    let port = decimal link.port in
    both (own ++ (codes " ") ++ clock ++ (codes " ")) port 23 5
    (both (own ++ (codes " ") ++ clock) (codes " ") 22 1
    (both (own ++ (codes " ")) clock 6 16
    (both own (codes " ") 5 1 (number_length link.own_port is.own_port.most) (omega arith))
    (digits_length 8 link.clock)) (omega arith)) (number_length link.port is.port.most)

far_length : (clock root steps : ℕ) → steps ≤ 65535 → length (far_text (far_words clock root steps)) ≤ 67
far_length clock root steps few =
    let name = clock_text clock in
    let number = decimal steps in
    let best = identity_text root in
    both ((codes "system ") ++ name ++ (codes " far ") ++ number ++ (codes " root ")) best 39 28
    (both ((codes "system ") ++ name ++ (codes " far ") ++ number) (codes " root ") 33 6
    (both ((codes "system ") ++ name ++ (codes " far ")) number 28 5
    (both ((codes "system ") ++ name) (codes " far ") 23 5
    (both (codes "system ") name 7 16 (omega arith) (digits_length 8 clock)) (omega arith))
    (number_length steps few)) (omega arith)) (digits_length 14 root)

system_length : (clock root steps : ℕ) (parent : Option ParentLink) → steps ≤ 65535 → IsReadableParent parent
    → length (system_text (system_words clock root steps parent)) ≤ 105
system_length clock root steps parent few is =
    let name = clock_text clock in
    let number = decimal steps in
    let best = identity_text root in
    let followed = parent_text (option_map parent_words parent) in
    both ((codes "system ") ++ name ++ (codes " root ") ++ best ++ (codes " steps ")
    ++ number ++ (codes " parent ")) followed 77 28
    (both ((codes "system ") ++ name ++ (codes " root ") ++ best ++ (codes " steps ") ++ number)
    (codes " parent ") 69 8
    (both ((codes "system ") ++ name ++ (codes " root ") ++ best ++ (codes " steps ")) number 64 5
    (both ((codes "system ") ++ name ++ (codes " root ") ++ best) (codes " steps ") 57 7
    (both ((codes "system ") ++ name ++ (codes " root ")) best 29 28
    (both ((codes "system ") ++ name) (codes " root ") 23 6
    (both (codes "system ") name 7 16 (omega arith) (digits_length 8 clock)) (omega arith))
    (digits_length 14 root)) (omega arith)) (number_length steps few)) (omega arith)) (parent_length parent is)

port_length : (clock : ℕ) (port : PortLine) → port.number ≤ 65535 → length (port_text (port_words clock port)) ≤ 36
port_length clock port few =
    let name = clock_text clock in
    let number = decimal port.number in
    let role = role_word port.role in
    both ((codes "port ") ++ name ++ (codes " ") ++ number ++ (codes " ")) role 28 8
    (both ((codes "port ") ++ name ++ (codes " ") ++ number) (codes " ") 27 1
    (both ((codes "port ") ++ name ++ (codes " ")) number 22 5
    (both ((codes "port ") ++ name) (codes " ") 21 1
    (both (codes "port ") name 5 16 (omega arith) (digits_length 8 clock)) (omega arith))
    (number_length port.number few)) (omega arith)) (role_length port.role)

-- the line of an entry that can be read has 105 octets at most
entry_length : (version : ℕ) (entry : LineKey) → IsReadableEntry version entry → length (entry_text entry) ≤ 105
entry_length version (SystemEntry clock root steps true parent) (_, _, few, _) =
    let text = far_length clock root steps few in omega (arith, text)
entry_length version (SystemEntry clock root steps false parent) (_, _, few, is) =
    system_length clock root steps parent few is
entry_length version (PortEntry clock port) (_, is) =
    let text = port_length clock port is.most in omega (arith, text)

-- ---- all lines

entries_length : (version : ℕ) (entries : List LineKey) → AllByRecursion (IsReadableEntry version) entries
    → length (entries_text entries) ≤ 106 * length entries
entries_length version [] all = omega arith
entries_length version (entry ∷ rest) all =
    let line = both (entry_text entry) (10 ∷ []) 105 1 (entry_length version entry all.0) (omega arith) in
    let whole = both (entry_text entry ++ 10 ∷ []) (entries_text rest) 106 (106 * length rest) line
    (entries_length version rest all.1) in
    omega (arith, whole)

-- a line for each system, and one for each of its ports
entries_count : (lines : List SystemLine) → ((line : SystemLine) → In line lines → length line.ports ≤ MOST_PORTS)
    → length (entries_of lines) ≤ (MOST_PORTS + 1) * length lines
entries_count [] few = omega arith
entries_count (line ∷ rest) few =
    let here = few line (inl refl) in
    let ports = length-map line.ports (PortEntry line.clock) in
    let later = entries_count rest (λ l k. few l (inr k)) in
    let all = length-append (map (PortEntry line.clock) line.ports) (entries_of rest) in
    omega (arith, here, ports, later, all)

-- a certificate of 512 systems with the most ports is within the size that is read
pub certificate_length : (version : ℕ) (lines : List SystemLine) → version ≤ 65535 → IsReadable version lines
    → length lines ≤ 512 → ((line : SystemLine) → In line lines → length line.ports ≤ MOST_PORTS)
    → length (certificate_text version lines) ≤ CERTIFICATE_LIMIT
certificate_length version lines small readable systems ports =
    let count = entries_count lines ports in
    let body = entries_length version (entries_of lines) readable in
    let head = both (head_text version) (10 ∷ []) 22 1
    (both (codes "gptp-certificate ") _ 17 5 (omega arith) (number_length version small)) (omega arith) in
    let front = both (head_text version ++ 10 ∷ []) (entries_text (entries_of lines)) 23
    (106 * length (entries_of lines)) head body in
    let whole = both ((head_text version ++ 10 ∷ []) ++ entries_text (entries_of lines)) end_text
    (23 + 106 * length (entries_of lines)) 4 front (omega arith) in
    omega (arith, count, whole, systems)

-- What decides between two systems or two ways: the first in which they differ, with its value in both (profile).
use Rattle.std.specs.Prelude.{ℕ, ◌+◌, ◌*◌, ◌==◌, ◌++◌, if◌then◌else◌, List, codes, slice_index}
use Rattle.std.specs.Fmt.{decimal}
use Rattle.byteorder.specs.Endian.{big_bytes}
use Rattle.gptp_roles.specs.Selection.{clock_of}
use Rattle.gptp_words.specs.Digits.{clock_text}
use Rattle.gptp_vector.specs.declared.port.PortId.{PortId}
use Rattle.gptp_explain.specs.declared.compared.Compared.{Compared}
use Rattle.gptp_explain.specs.declared.compared.Compared.TheVariants.{Priority1, Class, Accuracy, Variance, Priority2, Clock, Steps, Source, SourcePort}

-- an octet of an identity by its place from 0, the most significant first (IEEE 802.1AS-2020, 10.3.2)
abbrev pub identity_octet : ℕ → ℕ → ℕ
identity_octet place identity = slice_index (big_bytes 14 identity) place

-- its variance takes two of them
abbrev pub variance : ℕ → ℕ
variance identity = identity_octet 3 identity * 256 + identity_octet 4 identity

-- the first field in which two identities differ: the clock where no other does
abbrev pub difference : ℕ → ℕ → Compared
difference one other =
    if identity_octet 0 one == identity_octet 0 other then
    if identity_octet 1 one == identity_octet 1 other then
    if identity_octet 2 one == identity_octet 2 other then
    if variance one == variance other then
    if identity_octet 5 one == identity_octet 5 other then Clock (clock_of one) (clock_of other)
    else Priority2 (identity_octet 5 one) (identity_octet 5 other)
    else Variance (variance one) (variance other)
    else Accuracy (identity_octet 2 one) (identity_octet 2 other)
    else Class (identity_octet 1 one) (identity_octet 1 other)
    else Priority1 (identity_octet 0 one) (identity_octet 0 other)

-- what a Master port of this clock, so many links from the root, wins by against the other end
abbrev pub win : ℕ → ℕ → ℕ → ℕ → Compared
win steps clock there other = if steps == there then Clock clock other else Steps steps there

-- what a way loses by against the way over the Slave port: each by the steps that it offers and by the port at its end
abbrev pub loss : ℕ → PortId → ℕ → PortId → Compared
loss slave_offers parent offers there =
    if slave_offers == offers then
    if parent.clock == there.clock then SourcePort parent.port there.port
    else Source parent.clock there.clock
    else Steps slave_offers offers

-- two numbers, and two clocks
abbrev pub numbers : ℕ → ℕ → List ℕ
numbers one other = codes " " ++ decimal one ++ codes " " ++ decimal other

abbrev pub two_clocks : ℕ → ℕ → List ℕ
two_clocks one other = codes " " ++ clock_text one ++ codes " " ++ clock_text other

-- the field by its name, and both values
abbrev pub compared_text : Compared → List ℕ
compared_text (Priority1 one other) = codes "priority1" ++ numbers one other
compared_text (Class one other) = codes "class" ++ numbers one other
compared_text (Accuracy one other) = codes "accuracy" ++ numbers one other
compared_text (Variance one other) = codes "variance" ++ numbers one other
compared_text (Priority2 one other) = codes "priority2" ++ numbers one other
compared_text (Clock one other) = codes "clock" ++ two_clocks one other
compared_text (Steps one other) = codes "steps" ++ numbers one other
compared_text (Source one other) = codes "source" ++ two_clocks one other
compared_text (SourcePort one other) = codes "source_port" ++ numbers one other

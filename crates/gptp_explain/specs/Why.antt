-- Why a port has its role, in words (profile).
use Rattle.std.specs.Prelude.{ℕ, List, codes, ◌++◌}
use Rattle.std.specs.Fmt.{decimal}
use Rattle.gptp_vector.specs.declared.port.PortId.{PortId}
use Rattle.gptp_words.specs.Digits.{clock_text}
use Rattle.gptp_explain.specs.Compared.{compared_text}
use Rattle.gptp_explain.specs.declared.why.Why.{Why}
use Rattle.gptp_explain.specs.declared.why.Why.TheVariants.{Unlinked, Down, Failed, Offers, Loses, Wins}

-- a port by its clock and its number
abbrev pub clock_port_text : PortId → List ℕ
clock_port_text p = clock_text p.clock ++ codes " " ++ decimal p.port

-- the port to which its link leads, and what comes of that
abbrev pub why_text : Why → List ℕ
why_text Unlinked = codes "unlinked"
why_text (Down there) = codes "to " ++ clock_port_text there ++ codes " down"
why_text (Failed there) = codes "to " ++ clock_port_text there ++ codes " failed"
why_text (Offers there steps) = codes "to " ++ clock_port_text there ++ codes " offers " ++ decimal steps
why_text (Loses there steps by) =
    codes "to " ++ clock_port_text there ++ codes " offers " ++ decimal steps ++ codes " loses " ++ compared_text by
why_text (Wins there by) = codes "to " ++ clock_port_text there ++ codes " wins " ++ compared_text by

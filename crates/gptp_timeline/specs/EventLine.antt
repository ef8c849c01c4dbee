-- The line of an event (profile).
use Rattle.std.specs.Prelude.{ℕ, List, ◌++◌, codes}
use Rattle.std.specs.Fmt.{decimal}
use Rattle.hex.specs.Hex.{encode_lower}
use Rattle.gptp_scenario.specs.declared.change.Change.{Change}
use Rattle.gptp_scenario.specs.declared.change.Change.TheVariants.{LinkDown, LinkUp, LinkSet, Fail, Recover, Priority1, Inject}
use Rattle.gptp_words.specs.Digits.{clock_text}

abbrev pub at_system : List ℕ → ℕ → List ℕ
at_system kind clock = kind ++ codes " " ++ clock_text clock

abbrev pub at_port : List ℕ → ℕ → ℕ → List ℕ
at_port kind clock port = kind ++ codes " " ++ clock_text clock ++ codes " " ++ decimal port

abbrev pub set_words : ℕ → ℕ → ℕ → ℕ → ℕ → List ℕ
set_words clock port min max loss =
    at_port (codes "link_set") clock port
    ++ codes " " ++ decimal min ++ codes " " ++ decimal max ++ codes " " ++ decimal loss

abbrev pub priority_words : ℕ → ℕ → List ℕ
priority_words clock value = at_system (codes "priority1") clock ++ codes " " ++ decimal value

abbrev pub inject_words : ℕ → ℕ → List ℕ → List ℕ
inject_words clock port octets = at_port (codes "inject") clock port ++ codes " " ++ encode_lower octets

-- the kind, and the values of the other keys but its time, in the order of the document's format
abbrev pub words_of : Change → List ℕ
words_of (LinkDown clock port) = at_port (codes "link_down") clock port
words_of (LinkUp clock port) = at_port (codes "link_up") clock port
words_of (LinkSet clock port min max loss) = set_words clock port min max loss
words_of (Fail clock) = at_system (codes "fail") clock
words_of (Recover clock) = at_system (codes "recover") clock
words_of (Priority1 clock value) = priority_words clock value
words_of (Inject clock port octets) = inject_words clock port octets

-- an event that is made at a time
abbrev pub event_line : ℕ → Change → List ℕ
event_line at change = codes "event " ++ decimal at ++ codes " " ++ words_of change

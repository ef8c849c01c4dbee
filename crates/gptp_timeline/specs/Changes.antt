-- The lines of what an act leaves another at a system (profile).
use Rattle.std.specs.Prelude.{ℕ, ◌+◌, ◌&&◌, Bool, true, false, if◌then◌else◌, List, [], ◌∷◌, ◌++◌, codes, Option, Some, None}
use Rattle.std.specs.Fmt.{decimal}
use Rattle.gptp_words.specs.Digits.{clock_text, identity_text, or_none, yes_or_no}
use Rattle.gptp_words.specs.Roles.{role_text}
use Rattle.gptp_accuracy.specs.TimeErrors.{root_is_capable}
use Rattle.gptp_timeline.specs.Ports.{same_bool, shows_same_port}
use Rattle.gptp_timeline.specs.Shown.{is_known, same_choice}
use Rattle.gptp_timeline.specs.declared.ports.ShownPort.{ShownPort}
use Rattle.gptp_timeline.specs.declared.shown.Shown.{Shown}

abbrev pub known_text : Bool → List ℕ
known_text true = codes "known"
known_text false = codes "none"

-- a live system: what it follows, and whether its offset is known
abbrev pub changed_system_line : ℕ → ℕ → Shown → List ℕ
changed_system_line at name s =
    codes "at " ++ decimal at
    ++ codes " system " ++ clock_text name
    ++ codes " root " ++ identity_text s.root
    ++ codes " steps " ++ decimal s.steps
    ++ codes " gm " ++ yes_or_no (root_is_capable s.root)
    ++ codes " slave " ++ or_none decimal s.slave
    ++ codes " offset " ++ known_text s.known

-- a port: its role, and whether it is asCapable
abbrev pub changed_port_line : ℕ → ℕ → ℕ → ShownPort → List ℕ
changed_port_line at name port p =
    codes "at " ++ decimal at
    ++ codes " port " ++ clock_text name
    ++ codes " " ++ decimal port
    ++ codes " " ++ role_text p.role
    ++ codes " capable " ++ yes_or_no p.capable

-- a system that failed
abbrev pub changed_failed_line : ℕ → ℕ → List ℕ
changed_failed_line at name = codes "at " ++ decimal at ++ codes " system " ++ clock_text name ++ codes " failed"

-- a port was there, and is the same
abbrev pub is_same : Option ShownPort → ShownPort → Bool
is_same None q = false
is_same (Some p) q = shows_same_port p q

abbrev pub port_lines_if : ℕ → ℕ → ℕ → Option ShownPort → ShownPort → List (List ℕ)
port_lines_if at name port before q = if is_same before q then [] else changed_port_line at name port q ∷ []

-- the ports that are another than before, and those that weren't there; the first has this number
abbrev pub port_lines : ℕ → ℕ → ℕ → List ShownPort → List ShownPort → List (List ℕ)
port_lines at name port before [] = []
port_lines at name port [] (q ∷ qs) = port_lines_if at name port None q ++ port_lines at name (port + 1) [] qs
port_lines at name port (p ∷ ps) (q ∷ qs) =
    port_lines_if at name port (Some p) q ++ port_lines at name (port + 1) ps qs

-- a system is as before as to what its line says
abbrev pub same_line : Option Shown → Option Shown → Bool
same_line before after = same_choice before after && same_bool (is_known before) (is_known after)

abbrev pub new_lines : ℕ → ℕ → Shown → List (List ℕ)
new_lines at name s = changed_system_line at name s ∷ port_lines at name 1 [] s.ports

abbrev pub system_lines_if : Bool → ℕ → ℕ → Shown → List (List ℕ)
system_lines_if same at name s = if same then [] else changed_system_line at name s ∷ []

abbrev pub changed_lines : Bool → ℕ → ℕ → Shown → Shown → List (List ℕ)
changed_lines same at name s t = system_lines_if same at name t ++ port_lines at name 1 s.ports t.ports

-- The lines of a system: its own where that says another than before, then its ports; all of them where it had failed.
abbrev pub change_lines : ℕ → ℕ → Option Shown → Option Shown → List (List ℕ)
change_lines at name None None = []
change_lines at name (Some s) None = changed_failed_line at name ∷ []
change_lines at name None (Some t) = new_lines at name t
change_lines at name (Some s) (Some t) = changed_lines (same_line (Some s) (Some t)) at name s t

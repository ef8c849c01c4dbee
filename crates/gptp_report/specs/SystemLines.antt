-- The lines of one system (profile).
use Rattle.std.specs.Prelude.{ℕ, ◌/◌, ◌^◌, nat_lt, Bool, List, [], ◌∷◌, ◌++◌, length, map, codes, if◌then◌else◌}
use Rattle.std.specs.Fmt.{decimal, signed_decimal}
use Rattle.std.specs.List.{range_with_len}
use Rattle.std.specs.Option.{option_and_then}
use Rattle.gptp_system.specs.declared.port.Port.{Port}
use Rattle.gptp_system.specs.Start.{role_at}
use Rattle.gptp_system.specs.State.{SystemState, clock, is_capable_at, number}
use Rattle.gptp_pdelay.specs.Peer.{delay_of}
use Rattle.gptp_model.specs.declared.station.Station.{Station}
use Rattle.gptp_words.specs.Roles.{role_text}
use Rattle.gptp_words.specs.Digits.{clock_text, identity_text, or_none, yes_or_no}

-- A grandmaster is there where the root's priority1 is below 255 (IEEE 802.1AS-2020, 10.2.4.13).
abbrev pub is_grandmaster : ℕ → Bool
is_grandmaster root = nat_lt (root / 2 ^ 104) 255

-- what a live system follows: the root, over how many steps and over which port, and how far its clock is ahead
abbrev pub live_line : ℕ → SystemState → List ℕ
live_line name s =
    codes "system " ++ clock_text name
    ++ codes " root " ++ identity_text s.root
    ++ codes " steps " ++ decimal s.steps
    ++ codes " gm " ++ yes_or_no (is_grandmaster s.root)
    ++ codes " slave " ++ or_none decimal s.slave
    ++ codes " offset " ++ or_none signed_decimal s.offset

-- a port: its role, whether it is asCapable, and its meanLinkDelay
abbrev pub port_line : ℕ → SystemState → ℕ → List ℕ
port_line name s port =
    codes "port " ++ clock_text name
    ++ codes " " ++ decimal port
    ++ codes " " ++ role_text (role_at s port)
    ++ codes " capable " ++ yes_or_no (is_capable_at s port)
    ++ codes " delay " ++ or_none signed_decimal (option_and_then (λ (q : Port). delay_of q.peer) (number s.ports port))

-- a live system, and then its ports by rising number
abbrev pub live_lines : ℕ → SystemState → List (List ℕ)
live_lines name s = live_line name s ∷ map (port_line name s) (range_with_len 1 (length s.ports))

abbrev pub failed_line : ℕ → List ℕ
failed_line name = codes "system " ++ clock_text name ++ codes " failed"

abbrev pub system_lines : Station → List (List ℕ)
system_lines station =
    if station.live then live_lines (clock station.system) station.system
    else failed_line (clock station.system) ∷ []

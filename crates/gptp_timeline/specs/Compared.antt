-- What the code compares of a system after an act, and what that tells of all that is shown of it: contracts of private
-- functions alone cite this.
use Rattle.std.specs.Prelude.{ℕ, ◌%◌, ◌==◌, ◌&&◌, Bool, false, if◌then◌else◌, List, [], ◌∷◌, Option, Some, None, is_some}
use Rattle.std.specs.Option.{option_map, option_map_or}
use Rattle.gptp_setup.specs.declared.timer.Timer.{Timer}
use Rattle.gptp_setup.specs.declared.timer.Timer.TheVariants as timers
use Rattle.gptp_system.specs.State.{SystemState, number}
use Rattle.gptp_timeline.specs.Ports.{same_bool, shown_ports, shows_same_port}
use Rattle.gptp_timeline.specs.Shown.{same_way, shown_of}
use Rattle.gptp_timeline.specs.declared.compared.Compared.{Compared}
use Rattle.gptp_timeline.specs.declared.compared.Compared.TheVariants as compares
use Rattle.gptp_timeline.specs.declared.ports.ShownPort.{ShownPort}
use Rattle.gptp_timeline.specs.declared.shown.Shown.{Shown}

-- ---- what is as it was shown

-- the port with this number; where a live system, or what was shown of it, has none, it isn't
abbrev pub same_port_at : ℕ → SystemState → Shown → Bool
same_port_at port s x =
    option_map_or (λ (p : ShownPort). option_map_or (shows_same_port p) (number x.ports port) false)
    (number (shown_ports s) port) false

-- whether its offset is known
abbrev pub is_known_as : SystemState → Shown → Bool
is_known_as s x = same_bool (is_some s.offset) x.known

-- root, steps and Slave port, and the port with this number
abbrev pub is_choice_as : ℕ → SystemState → Shown → Bool
is_choice_as port s x = same_way (shown_of s) x && same_port_at port s x

-- what is shown of a system after an act: what was shown before, where it is so by this test
abbrev pub left_where : (SystemState → Shown → Bool) → Option SystemState → Option Shown → Option Shown
left_where same None before = None
left_where same (Some s) None = Some (shown_of s)
left_where same (Some s) (Some x) = if same s x then Some x else Some (shown_of s)

-- by what is compared of it
abbrev pub left_by : Compared → Option SystemState → Option Shown → Option Shown
left_by compares.All live before = option_map shown_of live
left_by compares.Known live before = left_where is_known_as live before
left_by (compares.Port port) live before = left_where (same_port_at port) live before
left_by (compares.Choice port) live before = left_where (is_choice_as port) live before

-- ---- what is compared

-- Measuring a link can change its port, and the rest only with that. What a port received can change the choice and
-- the port, and the rest only with these.
abbrev pub compared_by_expiry : Timer → Compared
compared_by_expiry (timers.Pdelay port) = compares.Port port
compared_by_expiry (timers.Age port) = compares.Choice port
compared_by_expiry timer = compares.All

-- by the messageType of a frame that was heard at a port: a Follow_Up, a Pdelay_Resp_Follow_Up, an Announce, another
abbrev pub compared_by_type : ℕ → ℕ → Compared
compared_by_type port type =
    if type == 0x8 then compares.Known
    else if type == 0xA then compares.Port port
    else if type == 0xB then compares.Choice port
    else compares.All

abbrev pub compared_by_frame : ℕ → List ℕ → Compared
compared_by_frame port [] = compares.All
compared_by_frame port (octet ∷ octets) = compared_by_type port (octet % 16)

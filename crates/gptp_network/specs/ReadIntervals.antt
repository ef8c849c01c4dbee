-- The key `announce` of a system, or why it doesn't hold what it should (profile).
use Rattle.std.specs.Prelude.{ℕ, ℤ, ◌==◌, ◌&&◌, int_le, if◌then◌else◌, List, replicate, Option, Some, None, Result, Ok, Err}
use Rattle.std.specs.Option.{unwrap_or}
use Rattle.toml.specs.Data.{Data, Items, no_items, item, Members, get_member, as_integer, as_array}
use Rattle.gptp_network.specs.Intervals.{intervals_in}
use Rattle.gptp_network.specs.Keys.{name_text}
use Rattle.gptp_network.specs.Members.{count}
use Rattle.gptp_network.specs.Reading.{value_in}
use Rattle.gptp_network.specs.Why.{shape_of}
use Rattle.gptp_network.specs.declared.fault.DocumentFault.{DocumentFault}
use Rattle.gptp_network.specs.declared.keys.Name.TheVariants as names
use Rattle.gptp_network.specs.declared.keys.TheConstants.{ANNOUNCE}
use Rattle.gptp_network.specs.declared.why.Why.{Why}
use Rattle.gptp_network.specs.declared.why.Why.TheVariants as whys

-- why a member of the array is no interval of a port: it is no whole number, or one out of its range
abbrev pub kind_why : Data → Option ℤ → Option Why
kind_why d None = Some (whys.Kind names.Announce (shape_of d))
kind_why d (Some z) = None

abbrev pub range_why : Option ℤ → Option Why
range_why None = None
range_why (Some z) =
    if int_le ANNOUNCE.1 z && int_le z ANNOUNCE.2 then None
    else Some (whys.Whole ANNOUNCE.0 z ANNOUNCE.1 ANNOUNCE.2)

-- the first of two
abbrev pub first_why : Option Why → Option Why → Option Why
first_why (Some why) rest = Some why
first_why None rest = rest

-- the first member that is no whole number, and the first that is one out of its range
abbrev pub other_member : Items → Option Why
other_member no_items = None
other_member (item d ds) = first_why (kind_why d (as_integer d)) (other_member ds)

abbrev pub far_member : Items → Option Why
far_member no_items = None
far_member (item d ds) = first_why (range_why (as_integer d)) (far_member ds)

-- why an array holds no interval for each of so many ports
abbrev pub intervals_why : ℕ → Items → Why
intervals_why ports ds =
    unwrap_or (other_member ds) (unwrap_or (far_member ds) (whys.Intervals (count ds) ports))

-- a result, with why it is refused
abbrev pub because : {X : Type 0} → Why → Result X DocumentFault → Result X Why
because why (Ok x) = Ok x
because why (Err fault) = Err why

abbrev pub read_array : ℕ → Items → Result (List ℤ) Why
read_array ports ds = because (intervals_why ports ds) (intervals_in ports ds)

unfoldable pub read_intervals : ℕ → ℕ → ℤ → Members → Result (List ℤ) Why
read_intervals version ports default t =
    if version == 2
    then value_in names.Announce as_array (read_array ports) (Some (replicate ports default))
    (get_member (name_text names.Announce) t)
    else Ok (replicate ports default)

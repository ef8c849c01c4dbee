-- The key `announce` of a system: what its ports announce at (profile).
use Rattle.std.specs.Prelude.{ℕ, ℤ, codes, ◌&&◌, ◌==◌, if◌then◌else◌, List, [], ◌∷◌, length, replicate, Some, Result, Ok, Err}
use Rattle.std.specs.List.{list_all}
use Rattle.toml.specs.Data.{Items, no_items, item, Members, get_member, as_integer, as_array}
use Rattle.gptp_scenario.specs.Params.{is_log}
use Rattle.gptp_network.specs.Faults.{◌>>=◌}
use Rattle.gptp_network.specs.Values.{key_in, kind_of}
use Rattle.gptp_network.specs.declared.fault.DocumentFault.{DocumentFault}
use Rattle.gptp_network.specs.declared.fault.DocumentFault.TheVariants.{OutOfRange}

-- the members of an array, each of which is a whole number
abbrev pub whole_numbers : Items → Result (List ℤ) DocumentFault
whole_numbers no_items = Ok []
whole_numbers (item d ds) = do
  z ← kind_of (as_integer d)
  zs ← whole_numbers ds
  Ok (z ∷ zs)

-- intervals, one for each port, as logarithms to base 2 of seconds
abbrev pub one_for_each : ℕ → List ℤ → Result (List ℤ) DocumentFault
one_for_each ports zs = if (length zs == ports) && list_all is_log zs then Ok zs else Err OutOfRange

unfoldable pub intervals_in : ℕ → Items → Result (List ℤ) DocumentFault
intervals_in ports ds = do
  zs ← whole_numbers ds
  one_for_each ports zs

-- What so many ports announce at: in version 2 what the key says; where it is absent, and in version 1, which knows no
-- such key, the interval of the network for each.
unfoldable pub intervals : ℕ → ℕ → ℤ → Members → Result (List ℤ) DocumentFault
intervals version ports default t =
    if version == 2
    then key_in as_array (intervals_in ports) (Some (replicate ports default)) (get_member (codes "announce") t)
    else Ok (replicate ports default)

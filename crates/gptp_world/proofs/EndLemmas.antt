-- Where a lane ends.
use Rattle.std.proofs.Common.{◌≡◌, ℕ, ◌<◌, length, Some, slice_get, refl, ap, sym, ◌∙◌}
use Rattle.std.proofs.lemmas.Option.{slice_get_within}
use Rattle.gptp_links.specs.declared.link.Direction.{Direction}
use Rattle.gptp_links.specs.declared.link.Direction.TheVariants.{FromA, FromB}
use Rattle.gptp_world.specs.declared.net.Net.{Net as Between}
use Rattle.gptp_world.specs.declared.world_parts.WorldParts.{WorldParts}
use Rattle.gptp_model.specs.declared.station.Station.{Station}
use Rattle.gptp_traffic.specs.Traffic.{join_of}
use Rattle.gptp_world.specs.Directory.{direction_end, DirectoryState, IsDirectory, PortIsPlaced, Join}
use Rattle.gptp_world.specs.Net.{IsNet}
use Rattle.gptp_world.specs.WorldParts.{clock_at_place, IsWorldParts}
use Rattle.gptp_model.specs.World.{receiver, Channel}
use Rattle.gptp_lists.proofs.MappedLemmas.{mapped, mapped_there}

-- the directory knows the ports that a link joins
pub known_join : (net : Between) (link : ℕ) (channel : Channel) → IsNet net
    → slice_get net.traffic.net.channels link ≡ Some channel
    → slice_get net.directory.joins link ≡ Some (join_of channel)
known_join net link channel is here =
    ap (λ js. slice_get js link) (sym is.joins) ∙ mapped_there join_of net.traffic.net.channels link channel here

pub end_same : (d : Direction) (channel : Channel)
    → direction_end d (join_of channel) ≡ receiver d channel
end_same FromA channel = refl
end_same FromB channel = refl

pub end_placed : (d : DirectoryState) (direction : Direction) (link : ℕ) (join : Join) → IsDirectory d
    → slice_get d.joins link ≡ Some join → PortIsPlaced d.clocks (direction_end direction join)
end_placed d FromA link join is there = is.plan.placed_b link join there
end_placed d FromB link join is there = is.plan.placed_a link join there

-- the system with a clock that the directory knows
pub record StandsAt (parts : WorldParts) (place number : ℕ) : Type 0 where
  pub station : Station
  pub here : slice_get parts.stations.items place ≡ Some station
  pub named : clock_at_place station ≡ number

pub station_at : (parts : WorldParts) (place number : ℕ) → IsWorldParts parts
    → slice_get parts.net.directory.clocks place ≡ Some number
    → StandsAt parts place number
station_at parts place number is there =
    let made = mapped clock_at_place parts.stations.items place number
    (ap (λ cs. slice_get cs place) is.clocks ∙ there) in
    record { station = made.0; here = made.1; named = made.2 }

pub place_within : (parts : WorldParts) (place number : ℕ) → IsWorldParts parts
    → slice_get parts.net.directory.clocks place ≡ Some number
    → place < length parts.stations.items
place_within parts place number is there =
    let at = station_at parts place number is there in slice_get_within parts.stations.items place at.station at.here

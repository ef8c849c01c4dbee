-- What an act is about is found by place.
use Rattle.std.proofs.Common.{◌≡◌, ◌⊎◌, ℕ, List, [], ◌∷◌, Some, slice_get, refl, ap, sym, subst, ◌∙◌, inl, inr}
use Rattle.std.specs.Option.{option_map}
use Rattle.std.proofs.lemmas.Option.{none-some, same_Some}
use Rattle.gptp_links.specs.Queue.{first_frame, Frame}
use Rattle.gptp_links.specs.declared.link.Direction.{Direction}
use Rattle.gptp_links.specs.declared.link.Direction.TheVariants.{FromA, FromB}
use Rattle.gptp_setup.specs.declared.timer.Timer.{Timer}
use Rattle.gptp_system.specs.Steps.{IsTimerOf}
use Rattle.gptp_vector.specs.declared.port.PortId.{PortId}
use Rattle.gptp_traffic.specs.declared.joined_link.Lane.{Lane}
use Rattle.gptp_world.specs.declared.net.Net.{Net as Between}
use Rattle.gptp_world.specs.declared.world_parts.WorldParts.{WorldParts}
use Rattle.gptp_model.specs.declared.station.Station.{Station}
use Rattle.gptp_scenario.specs.declared.change.Act.{Act}
use Rattle.gptp_model.specs.declared.item.Item.{Item}
use Rattle.gptp_model.specs.declared.item.Item.TheVariants.{Expiry, Arrival}
use Rattle.gptp_model.specs.Agrees.{Agrees}
use Rattle.gptp_model.specs.Pending.{IsNext}
use Rattle.gptp_model.specs.Sound.{IsSound}
use Rattle.gptp_model.specs.Views.{IsActOf}
use Rattle.gptp_model.specs.Acts.{AnyLink, AnySystem, AtLink, AtSystem, IsOldestDue}
use Rattle.gptp_world.specs.ActTarget.{aim_of, IsTargetOf, IsLaneAt, PlaceHasClock, IsTimerAt}
use Rattle.gptp_model.specs.Changing.{IsChannel}
use Rattle.gptp_world.specs.Directory.{direction_start, BeginsAt, DirectoryState, IsDirectory, PortIsPlaced}
use Rattle.gptp_world.specs.Net.{between, IsNet}
use Rattle.gptp_world.specs.WorldParts.{clock_at_place, world_of, IsWorldParts}
use Rattle.gptp_model.specs.World.{Channel, WorldState, world_queue, sender}
use Rattle.gptp_world.proofs.EndLemmas.{station_at}
use Rattle.gptp_world.proofs.NetLemmas.{known_channel, known_lane}
use Rattle.gptp_model.proofs.NextDueLemmas.{next_comes, next_runs_out}
use Rattle.gptp_lists.proofs.MappedLemmas.{mapped_there}

-- ---- links

-- a link that begins at a port in some direction is at that port
at_end : (port : PortId) (direction : Direction) (channel : Channel) → sender direction channel ≡ port
    → (channel.a ≡ port) ⊎ (channel.b ≡ port)
at_end port FromA channel begins = inl begins
at_end port FromB channel begins = inr begins

-- the link of a lane that begins at a port is at that port
pub lane_joins : (port : PortId) (w : WorldState) (lane : Lane) (at : IsLaneAt port w lane)
    → IsChannel port lane.link w.net at.channel
lane_joins port w lane at = record { here = at.here; joined = at_end port lane.direction at.channel at.begins }

pub lane_found : (parts : WorldParts) (port : PortId) (lane : Lane) → IsWorldParts parts
    → BeginsAt parts.net.directory.joins port lane
    → IsLaneAt port (world_of parts) lane
lane_found parts port lane is begins =
    let known = known_channel parts.net port lane is.net begins in
    record { channel = known.0; here = known.1; begins = known.2 }

-- a link at a port has a lane that begins there
link_lane : (net : Between) (port : PortId) (place : ℕ) (channel : Channel) → IsNet net
    → IsChannel port place (between net) channel
    → (lane : Lane) × BeginsAt net.directory.joins port lane
link_lane net port place channel is at = by at.joined
  where
    by : (channel.a ≡ port) ⊎ (channel.b ≡ port) → (lane : Lane) × BeginsAt net.directory.joins port lane
    by (inl a) = (record { link = place; direction = FromA }, known_lane net port place FromA channel is at.here a)
    by (inr b) = (record { link = place; direction = FromB }, known_lane net port place FromB channel is at.here b)

pub no_lane : (parts : WorldParts) (port : PortId) → IsWorldParts parts
    → ((lane : Lane) → BeginsAt parts.net.directory.joins port lane → ⊥) → AtLink port (world_of parts).net AnyLink → ⊥
no_lane parts port is none at =
    let found = link_lane parts.net port at.place at.channel is.net at.is in none found.0 found.1

-- a port where a lane begins is that of a system
pub begins_placed : (d : DirectoryState) (port : PortId) (lane : Lane) → IsDirectory d → BeginsAt d.joins port lane
    → PortIsPlaced d.clocks port
begins_placed d port lane is begins =
    subst (PortIsPlaced d.clocks) begins.begins (by lane.direction)
  where
    by : (direction : Direction) → PortIsPlaced d.clocks (direction_start direction begins.join)
    by FromA = is.plan.placed_a lane.link begins.join begins.there
    by FromB = is.plan.placed_b lane.link begins.join begins.there

-- ---- systems

pub system_found : (parts : WorldParts) (number place : ℕ) → IsWorldParts parts
    → slice_get parts.net.directory.clocks place ≡ Some number
    → PlaceHasClock number (world_of parts) place
system_found parts number place is there =
    let stands = station_at parts place number is there in
    record { station = stands.station; is = record { here = stands.here; named = stands.named } }

-- the directory knows the clock of a system
pub system_clock : (parts : WorldParts) (number : ℕ) → IsWorldParts parts
    → (at : AtSystem number (world_of parts) AnySystem)
    → slice_get parts.net.directory.clocks at.place ≡ Some number
system_clock parts number is at =
    ap (λ cs. slice_get cs at.place) (sym is.clocks)
    ∙ (mapped_there clock_at_place parts.stations.items at.place at.station at.is.here ∙ ap Some at.is.named)

pub no_system : (parts : WorldParts) (number : ℕ) → IsWorldParts parts
    → ((place : ℕ) → slice_get parts.net.directory.clocks place ≡ Some number → ⊥)
    → AtSystem number (world_of parts) AnySystem → ⊥
no_system parts number is none at = none at.place (system_clock parts number is at)

-- ---- timers

-- a clock and its timer are those of one system alone
pub timer_found : (parts : WorldParts) (number place : ℕ) (timer : Timer) (is : IsWorldParts parts)
    → slice_get parts.net.directory.clocks place ≡ Some number
    → ((station : Station) → slice_get parts.stations.items place ≡ Some station → IsTimerOf station.system timer)
    → IsTimerAt number (world_of parts) place timer
timer_found parts number place timer is there of =
    let stands = station_at parts place number is there in
    record {
      station = stands.station;
      is = record { here = stands.here; named = stands.named };
      timer_of = of stands.station stands.here;
    }

pub no_timer_at : (parts : WorldParts) (number place : ℕ) (timer : Timer) → IsWorldParts parts
    → IsDirectory parts.net.directory
    → slice_get parts.net.directory.clocks place ≡ Some number
    → ((station : Station) → slice_get parts.stations.items place ≡ Some station → IsTimerOf station.system timer → ⊥)
    → AtSystem number (world_of parts) (λ at station. IsTimerOf station.system timer) → ⊥
no_timer_at parts number place timer is directory there none at =
    let other = system_clock parts number is (record { place = at.place; station = at.station; is = at.is; so = tt }) in
    let same : at.place ≡ place = directory.plan.differ at.place place number other there in
    none at.station (ap (slice_get parts.stations.items) (sym same) ∙ at.is.here) at.so

-- ---- what is due

-- the due time of the oldest frame
pub oldest_is : (fs : List Frame) (time : ℕ) → option_map (λ (f : Frame). f.due) (first_frame fs) ≡ Some time
    → (f : Frame) × (rest : List Frame) × (fs ≡ f ∷ rest) × (f.due ≡ time)
oldest_is [] time is = absurd (none-some time is)
oldest_is (f ∷ fs) time is = (f, fs, refl, same_Some f.due time is)

pub oldest_due : (direction : Direction) (channel : Channel) (time : ℕ)
    → option_map (λ (f : Frame). f.due) (first_frame (world_queue direction channel)) ≡ Some time
    → IsOldestDue direction time channel
oldest_due direction channel time is =
    let found = oldest_is (world_queue direction channel) time is in
    record { oldest = found.0; rest = found.1; front = found.2; due = found.3 }

pub due_oldest : (direction : Direction) (channel : Channel) (time : ℕ) → IsOldestDue direction time channel
    → option_map (λ (f : Frame). f.due) (first_frame (world_queue direction channel)) ≡ Some time
due_oldest direction channel time is =
    ap (λ fs. option_map (λ (f : Frame). f.due) (first_frame fs)) is.front ∙ ap Some is.due

-- ---- what is next

timer_aimed : (place : ℕ) (timer : Timer) (time : ℕ) (w : WorldState) (station : Station) → Agrees w
    → IsNext w.net.pending time (Expiry place timer) → slice_get w.stations place ≡ Some station
    → IsTimerOf station.system timer
timer_aimed place timer time w station agrees next here =
    let runs = next_runs_out place timer time w agrees next in
    subst (λ (s : Station). IsTimerOf s.system timer) (same_Some runs.station station (sym runs.here ∙ here))
    runs.timer_of

-- the act that an item is, is about what the item is about
pub next_aimed : (item : Item) (time : ℕ) (act : Act) (w : WorldState) → IsSound w → IsNext w.net.pending time item
    → IsActOf item w act → IsTargetOf act w (aim_of item)
next_aimed (Arrival link direction) time act w sound next is =
    let comes = next_comes link direction time w
    (λ channel here. (sound.wired.flow link direction channel here).order) sound.agrees next in
    subst (λ a. IsTargetOf a w (aim_of (Arrival link direction))) (sym is)
    (refl, (refl, record { channel = comes.channel; here = comes.here; so = tt }))
next_aimed (Expiry place timer) time act w sound next (station, here, is) =
    subst (λ a. IsTargetOf a w (aim_of (Expiry place timer))) (sym is) (
      record {
        station = station;
        is = record { here = here; named = refl };
        timer_of = timer_aimed place timer time w station sound.agrees next here;
      },
      refl,
    )

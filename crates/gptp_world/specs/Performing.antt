-- How the code carries out an act that is there, and due.
use Rattle.std.specs.Prelude.{◌≡◌, ◌<◌, ℕ, ⊤, true, false, List, [], length, Option, Some, slice_get}
use Rattle.gptp_links.specs.declared.bounds.Bounds.{Bounds}
use Rattle.gptp_links.specs.Bounds.{Fit}
use Rattle.gptp_links.specs.Fate.{Draw, Draws}
use Rattle.gptp_setup.specs.declared.timer.Timer.{Timer}
use Rattle.gptp_system.specs.Input.{Priority}
use Rattle.gptp_world.specs.declared.act_target.ActTarget.{ActTarget}
use Rattle.gptp_world.specs.declared.act_target.ActTarget.TheVariants as aims
use Rattle.gptp_traffic.specs.declared.joined_link.Lane.{Lane}
use Rattle.gptp_scenario.specs.declared.change.Act.{Act}
use Rattle.gptp_scenario.specs.declared.change.Act.TheVariants.{Change as Changing}
use Rattle.gptp_scenario.specs.declared.change.Change.TheVariants as changes
use Rattle.gptp_model.specs.declared.done.Done.{Done}
use Rattle.gptp_world.specs.declared.world_parts.WorldParts.{WorldParts}
use Rattle.gptp_model.specs.declared.station.Station.{Station}
use Rattle.gptp_model.specs.Act.{TimerRunsOut}
use Rattle.gptp_model.specs.Acts.{Acts}
use Rattle.gptp_model.specs.Changing.{with_bounds, with_setup, with_station, CallsIfLive, ComesUpIf, FailsIf, GoesDownIf, InjectsIf, RecoversIf}
use Rattle.gptp_world.specs.Delivering.{HasRoomToHear}
use Rattle.gptp_world.specs.Net.{LinkIs}
use Rattle.gptp_world.specs.Room.{for_frame, WorldHasRoom}
use Rattle.gptp_world.specs.WorldParts.{world_of, HasRoomToCall, SystemIs}
use Rattle.gptp_world.specs.Starting.{CanStart, HasRoomToStart}
use Rattle.gptp_world.specs.Telling.{HasRoomAtEnds}
use Rattle.gptp_model.specs.World.{Channel, WorldState, sender}

-- ---- room for what an act can leave

-- a failure leaves nothing, nor does what changes nothing
abbrev pub HasRoomForTarget : ActTarget → WorldParts → Type 0
HasRoomForTarget (aims.Arrival lane) parts = HasRoomToHear lane parts
HasRoomForTarget (aims.Timer place timer) parts = HasRoomToCall place parts
HasRoomForTarget (aims.LinkDown link) parts = LinkIs true link parts.net → HasRoomAtEnds link parts
HasRoomForTarget (aims.LinkUp link) parts = LinkIs false link parts.net → HasRoomAtEnds link parts
HasRoomForTarget (aims.LinkSet link bounds) parts = ⊤
HasRoomForTarget (aims.Fail place) parts = ⊤
HasRoomForTarget (aims.Recover place) parts = SystemIs false place parts → HasRoomToStart place parts
HasRoomForTarget (aims.Priority1 place value) parts = HasRoomToCall place parts
HasRoomForTarget (aims.Inject lane) parts = LinkIs true lane.link parts.net → WorldHasRoom for_frame parts.net

-- ---- what is done, by place

-- what is changed is there, and the bounds of a link that is set are such as a link can have
abbrev pub CanChange : ActTarget → WorldParts → Type 0
CanChange (aims.LinkDown link) parts = link < length parts.net.traffic.net.channels
CanChange (aims.LinkUp link) parts = link < length parts.net.traffic.net.channels
CanChange (aims.LinkSet link bounds) parts = (link < length parts.net.traffic.net.channels) × Fit bounds
CanChange (aims.Fail place) parts = place < length parts.stations.items
CanChange (aims.Recover place) parts = CanStart place parts
CanChange (aims.Priority1 place value) parts = place < length parts.stations.items
CanChange target parts = ⊥

-- what a change makes of the link, or the system, at a place
abbrev pub OfLink : ℕ → WorldState → (Channel → Type 0) → Type 0
OfLink link w So = (channel : Channel) → slice_get w.net.channels link ≡ Some channel → So channel

abbrev pub OfSystem : ℕ → WorldState → (Station → Type 0) → Type 0
OfSystem place w So = (station : Station) → slice_get w.stations place ≡ Some station → So station

abbrev pub TurnsOver : ActTarget → WorldState → List Draw → WorldState → Type 0
TurnsOver (aims.LinkDown link) w draws w' = OfLink link w (λ channel. GoesDownIf channel.up link channel w draws w')
TurnsOver (aims.LinkUp link) w draws w' = OfLink link w (λ channel. ComesUpIf channel.up link channel w draws w')
TurnsOver (aims.LinkSet link bounds) w draws w' = OfLink link w
    (λ channel. (draws ≡ []) × (w' ≡ record w { net = with_bounds bounds link channel w.net }))
TurnsOver (aims.Fail place) w draws w' = OfSystem place w (λ station. FailsIf station.live place station w draws w')
TurnsOver (aims.Recover place) w draws w' = OfSystem place w (λ station. RecoversIf station.live place w draws w')
TurnsOver (aims.Priority1 place value) w draws w' = OfSystem place w
    (λ station. CallsIfLive place (Priority value) (with_station place (with_setup value station) w) draws w')
TurnsOver target w draws w' = ⊥

-- it was changed so: the fate drew once for each send that a link carries
pub record Turned {F : Type 0} (answers : Bounds → ℕ → F → Option ℕ → F → Type 0) (target : ActTarget)
    (fate fate_after : F)
    (parts stage_after : WorldParts) : Type 0 where
  pub draws : List Draw
  pub drawn : Draws answers fate draws fate_after
  pub turns : TurnsOver target (world_of parts) draws (world_of stage_after)

-- these octets were injected on a lane: where its link is up the fate drew once for them
pub record Injected {F : Type 0} (answers : Bounds → ℕ → F → Option ℕ → F → Type 0) (lane : Lane) (octets : List ℕ)
    (fate fate_after : F) (parts stage_after : WorldParts) : Type 0 where
  pub draws : List Draw
  pub drawn : Draws answers fate draws fate_after
  pub injects : OfLink lane.link (world_of parts) (λ channel.
      InjectsIf channel.up (sender lane.direction channel) octets (world_of parts) draws (world_of stage_after))

-- what an act injects; nothing but an injection does
abbrev pub octets_of : Act → List ℕ
octets_of (Changing (changes.Inject number port octets)) = octets
octets_of act = []

-- a timer of the system at a place expired
pub record Expired {F : Type 0} (answers : Bounds → ℕ → F → Option ℕ → F → Type 0)
    (place : ℕ) (timer : Timer) (fate fate_after : F) (parts stage_after : WorldParts) : Type 0 where
  pub draws : List Draw
  pub drawn : Draws answers fate draws fate_after
  pub expires : TimerRunsOut place timer (world_of parts) draws (world_of stage_after)

-- ---- an act

-- the act was carried out, and this is told of it: the fate drew once for each send that a link carries
pub record ActIsDone {F : Type 0} (answers : Bounds → ℕ → F → Option ℕ → F → Type 0) (act : Act) (done : Done)
    (fate fate_after : F) (parts stage_after : WorldParts) : Type 0 where
  pub draws : List Draw
  pub drawn : Draws answers fate draws fate_after
  pub acts : Acts act (world_of parts) draws done (world_of stage_after)

-- it was carried out, whatever is told of it
abbrev pub IsDone : {F : Type 0} → (Bounds → ℕ → F → Option ℕ → F → Type 0) → Act → F → F → WorldParts → WorldParts
    → Type 0
IsDone answers act fate fate_after parts stage_after =
    (done : Done) × ActIsDone answers act done fate fate_after parts stage_after

-- What is found where a frame is heard.
use Rattle.std.proofs.Common.{◌≡◌, ◌<◌, ℕ, length, Some, slice_get, ap, sym, subst, ◌∙◌}
use Rattle.gptp_traffic.specs.declared.joined_link.Lane.{Lane}
use Rattle.gptp_traffic.specs.Traffic.{join_of}
use Rattle.gptp_world.specs.declared.world_parts.WorldParts.{WorldParts}
use Rattle.gptp_world.specs.Delivering.{HasRoomToHear}
use Rattle.gptp_world.specs.Directory.{direction_end, DirectoryState, IsDirectory, Join}
use Rattle.gptp_world.specs.WorldParts.{world_of, HasRoomToCall, IsWorldParts}
use Rattle.gptp_lists.proofs.PlaceLemmas.{member_there}
use Rattle.gptp_world.proofs.EndLemmas.{known_join, place_within}
use Rattle.gptp_world.proofs.TellingLemmas.{same_clocks, same_joins}

-- the system at this place is the one at the end of a lane
abbrev pub IsReceiver : Lane → ℕ → DirectoryState → Type 0
IsReceiver lane place d = (join : Join) → slice_get d.joins lane.link ≡ Some join
    → slice_get d.clocks place ≡ Some (direction_end lane.direction join).clock

pub receiver_within : (parts : WorldParts) (lane : Lane) (place : ℕ) → IsWorldParts parts
    → lane.link < length parts.net.traffic.net.channels
    → IsReceiver lane place parts.net.directory → place < length parts.stations.items
receiver_within parts lane place is known hears =
    let found = member_there parts.net.traffic.net.channels lane.link known in let join = join_of found.0 in
    place_within parts place (direction_end lane.direction join).clock is
    (hears join (known_join parts.net lane.link found.0 is.net found.1))

-- there is room for the system that hears what a lane carries, where it was made at its end
pub room_to_hear : (parts stage' : WorldParts) (lane : Lane) (receiver : ℕ) → IsWorldParts parts → IsWorldParts stage'
    → world_of stage' ≡ world_of parts → IsDirectory parts.net.directory → IsReceiver lane receiver parts.net.directory
    → HasRoomToCall receiver stage' → HasRoomToHear lane stage'
room_to_hear parts stage' lane receiver is is' world directory hears has = λ join place there placed.
    let d = parts.net.directory in
    let known : slice_get d.joins lane.link ≡ Some join =
    ap (λ js. slice_get js lane.link) (sym (same_joins parts stage' is is' world)) ∙ there in
    let stands : slice_get d.clocks place ≡ Some (direction_end lane.direction join).clock =
    ap (λ cs. slice_get cs place) (sym (same_clocks parts stage' is is' world)) ∙ placed in
    subst (λ p. HasRoomToCall p stage')
    (directory.plan.differ receiver place (direction_end lane.direction join).clock (hears join known) stands) has

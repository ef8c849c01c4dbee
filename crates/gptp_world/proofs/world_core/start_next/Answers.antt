use Rattle.std.proofs.Common.{◌≡◌, ◌<◌, length, ap, ◌∙◌}
use Rattle.gptp_world.specs.WorldParts.{world_of}
use Rattle.gptp_model.specs.World.{WorldState}
use Rattle.gptp_world.proofs.WorldCoreLemmas.{can_start, same_sound, start_count, start_sound}
use Rattle.gptp_world.proofs.world_core.start_next.Goals as goal

pub start-requires-clause-can : goal.start-requires-clause-can
start-requires-clause-can g c =
    let parts = c.args.parts.now in let made = c.make_room_to_start.new.self in
    let same = c.make_room_to_start.ensures.world in
    let count : length made.stations.items
    ≡ length parts.stations.items = ap (λ (w : WorldState). length w.stations) same in
    let less : c.args.place < length made.stations.items = rw count c.requires.place in
    can_start made c.args.place (same_sound (world_of parts) (world_of made) same c.requires.world_core.sound) less

pub returns-clause-world_core : goal.returns-clause-world_core
returns-clause-world_core g c =
    let parts = c.args.parts.now in let made = c.make_room_to_start.new.self in let started = c.start.ensures.started in
    record {
      stage_kept = c.start.ensures.parts;
      sound = start_sound c.args.place (world_of made) started.draws (world_of c.start.new.self)
          (same_sound (world_of parts) (world_of made) c.make_room_to_start.ensures.world c.requires.world_core.sound)
          started.starts;
    }

pub returns-clause-count : goal.returns-clause-count
returns-clause-count g c =
    let made = c.make_room_to_start.new.self in let started = c.start.ensures.started in
    start_count c.args.place (world_of made) started.draws (world_of c.start.new.self) started.starts
    ∙ ap (λ (w : WorldState). length w.stations) c.make_room_to_start.ensures.world

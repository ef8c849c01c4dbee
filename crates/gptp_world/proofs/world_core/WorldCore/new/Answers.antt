use Rattle.gptp_model.specs.Initial.{initial}
use Rattle.gptp_scenario.specs.Network.{seeded}
use Rattle.gptp_scenario.proofs.NetworkLemmas.{seeded_network}
use Rattle.gptp_world.specs.WorldParts.{world_of}
use Rattle.gptp_world.proofs.SettlingInvariantLemmas.{begun_claimed, begun_from}
use Rattle.gptp_world.proofs.InitialLemmas.{initial_sound}
use Rattle.gptp_world.proofs.WorldCoreLemmas.{same_sound}
use Rattle.gptp_world.proofs.world_core.WorldCore.new.Goals as goal

pub start_all-requires : goal.start_all-requires
start_all-requires g c = record {
  stage_kept = c.in_ok-parts.ensures.parts;
  sound = same_sound (initial (seeded c.args.seed c.args.network.now)) (world_of c.in_ok-parts.parts)
      c.in_ok-parts.ensures.world
      (initial_sound (seeded c.args.seed c.args.network.now)
      (seeded_network c.args.network.now c.args.seed c.well_formed-2.ensures));
}

pub invariant_of-result : goal.invariant_of-result
invariant_of-result g c =
    let n = seeded c.args.seed c.args.network.now in
    let after = c.start_all.new.parts in
    let done = c.in_ok-start_all.ensures in
    record {
      stage_kept = done.world_core.stage_kept;
      sound = done.world_core.sound;
      claimed = begun_claimed g.F.Fate.answers n c.args.fate.now c.start_all.new.fate (world_of after)
          (seeded_network c.args.network.now c.args.seed c.well_formed-2.ensures)
          (begun_from g.F.Fate.answers n c.args.fate.now c.start_all.new.fate c.in_ok-parts.parts after
          c.in_ok-parts.ensures.world done.started);
    }

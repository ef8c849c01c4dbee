use Rattle.std.proofs.Common.{◌∙◌}
use Rattle.gptp_world.proofs.WorldCoreLemmas.{one_started}
use Rattle.gptp_world.proofs.world_core.start_all.Goals as goal

pub loop-place-preserved : goal.loop-place-preserved
loop-place-preserved g c =
    let so_far = c.loop-place.invariant in let next = c.in_ok-start_next.ensures in
    record {
      world_core = next.world_core;
      count = next.count ∙ so_far.count;
      started = one_started g.F.Fate.answers c.loop-place.place c.args.fate.now c.loop-place.fate c.start_next.new.fate
          c.args.parts.now c.loop-place.parts c.start_next.new.parts so_far.started next.started;
    }

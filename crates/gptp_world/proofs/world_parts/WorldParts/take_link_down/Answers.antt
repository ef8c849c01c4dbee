use Rattle.std.proofs.Common.{true, false, [], refl, sym, ◌∙◌}
use Rattle.gptp_model.specs.Changing.{GoesDownIf}
use Rattle.gptp_world.specs.WorldParts.{world_of}
use Rattle.gptp_world.proofs.PerformingLemmas.{of_link, of_this}
use Rattle.gptp_world.proofs.world_parts.WorldParts.take_link_down.Goals as goal

pub link_down-requires-clause-room : goal.link_down-requires-clause-room
link_down-requires-clause-room g c = c.requires.room
    (λ channel here. sym (c.is_up.ensures channel here) ∙ c.if-is_up.true)

pub returns-then-is_up-clause-down : goal.returns-then-is_up-clause-down
returns-then-is_up-clause-down g c =
    let w = world_of c.args.self.now in let w' = world_of c.link_down.new.self in let down = c.link_down.ensures.down in
    record {
      draws = down.draws;
      drawn = down.drawn;
      turns = of_link c.args.self.now c.args.link true (λ up channel. GoesDownIf up c.args.link channel w down.draws w')
          (λ channel here. sym c.if-is_up.true ∙ c.is_up.ensures channel here)
          (of_this w c.args.link down.channel (λ channel. GoesDownIf true c.args.link channel w down.draws w') down.here
          down.down);
    }

pub returns-else-is_up-clause-down : goal.returns-else-is_up-clause-down
returns-else-is_up-clause-down g c =
    let w = world_of c.args.self.now in
    record {
      draws = [];
      drawn = refl;
      turns = of_link c.args.self.now c.args.link false (λ up channel. GoesDownIf up c.args.link channel w [] w)
          (λ channel here. sym c.if-is_up.false ∙ c.is_up.ensures channel here) (λ channel here. (refl, refl));
    }

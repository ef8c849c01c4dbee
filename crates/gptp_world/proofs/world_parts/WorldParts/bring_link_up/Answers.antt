use Rattle.std.proofs.Common.{true, false, [], refl, sym, ◌∙◌}
use Rattle.gptp_model.specs.Changing.{ComesUpIf}
use Rattle.gptp_world.specs.WorldParts.{world_of}
use Rattle.gptp_world.proofs.PerformingLemmas.{of_link, of_this}
use Rattle.gptp_world.proofs.world_parts.WorldParts.bring_link_up.Goals as goal

pub link_up-requires-clause-room : goal.link_up-requires-clause-room
link_up-requires-clause-room g c =
    c.requires.room (λ channel here. sym (c.is_up.ensures channel here) ∙ c.if-not-is_up.true)

pub returns-then-not-is_up-clause-up : goal.returns-then-not-is_up-clause-up
returns-then-not-is_up-clause-up g c =
    let w = world_of c.args.self.now in let w' = world_of c.link_up.new.self in let up = c.link_up.ensures.up in
    record {
      draws = up.draws;
      drawn = up.drawn;
      turns = of_link c.args.self.now c.args.link false (λ is channel. ComesUpIf is c.args.link channel w up.draws w')
          (λ channel here. sym c.if-not-is_up.true ∙ c.is_up.ensures channel here)
          (of_this w c.args.link up.channel (λ channel. ComesUpIf false c.args.link channel w up.draws w') up.here
          up.up);
    }

pub returns-else-not-is_up-clause-up : goal.returns-else-not-is_up-clause-up
returns-else-not-is_up-clause-up g c =
    let w = world_of c.args.self.now in
    record {
      draws = [];
      drawn = refl;
      turns = of_link c.args.self.now c.args.link true (λ is channel. ComesUpIf is c.args.link channel w [] w)
          (λ channel here. sym c.if-not-is_up.false ∙ c.is_up.ensures channel here)
          (λ channel here. (refl, refl));
    }

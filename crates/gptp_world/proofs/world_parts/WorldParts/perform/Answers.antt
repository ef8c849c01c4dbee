use Rattle.std.proofs.Common.{subst}
use Rattle.gptp_scenario.specs.Allowed.{IsFitAct}
use Rattle.gptp_world.specs.ActTarget.{IsTargetOf}
use Rattle.gptp_world.specs.Performing.{HasRoomForTarget}
use Rattle.gptp_world.specs.WorldParts.{world_of}
use Rattle.gptp_world.proofs.PerformingLemmas.{aim_within, can_change, change_told, injection_told, is_change, same_room, same_stage, IsWithin}
use Rattle.gptp_world.proofs.world_parts.WorldParts.perform.Goals as goal

pub change-requires : goal.change-requires
change-requires g c =
    let parts = c.args.self.now in
    let is = is_change c.args.act.now c.args.target (world_of parts) c.in_default.not-Arrival c.in_default.not-Timer
    c.requires.target in
    record {
      parts = same_stage parts c.requires.parts;
      can = can_change is.change c.args.target parts c.requires.sound (subst IsFitAct is.act_is c.requires.fit)
          c.in_default.not-Inject is.at;
      room = same_room c.args.target parts c.requires.room;
    }

pub inject-requires : goal.inject-requires
inject-requires g c =
    let parts = c.args.self.now in
    record {
      parts = same_stage parts c.requires.parts;
      link = subst (λ target. IsWithin target parts) c.in-Inject.is
          (aim_within c.args.act.now c.args.target parts c.requires.target);
      few = c.octets_of.ensures.few;
      room = subst (λ target. HasRoomForTarget target parts) c.in-Inject.is c.requires.room;
    }

pub returns-in-Inject : goal.returns-in-Inject
returns-in-Inject g c =
    let parts = c.args.self.now in let lane = c.in-Inject.lane in let act = c.args.act.now in
    record {
      parts = c.inject.ensures.parts;
      acted = injection_told g.F.Fate.answers act lane c.args.fate.now c.inject.new.fate parts c.inject.new.self
          (subst (IsTargetOf act (world_of parts)) c.in-Inject.is c.requires.target)
          (rw c.octets_of.ensures.is at c.inject.ensures.injected);
    }

pub returns-in_default : goal.returns-in_default
returns-in_default g c =
    let parts = c.args.self.now in
    let is = is_change c.args.act.now c.args.target (world_of parts) c.in_default.not-Arrival c.in_default.not-Timer
    c.requires.target in
    record {
      parts = c.change.ensures.parts;
      acted = change_told g.F.Fate.answers c.args.act.now c.args.target c.args.fate.now c.change.new.fate parts
          c.change.new.self is c.change.ensures.changed;
    }

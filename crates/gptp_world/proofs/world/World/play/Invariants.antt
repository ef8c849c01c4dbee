use Rattle.std.proofs.Common.{take}
use Rattle.gptp_model.specs.Playing.{Plays}
use Rattle.gptp_model.specs.Prompt.{AllDelaysFitIntervals}
use Rattle.gptp_world.proofs.world.World.play.Given as goal

-- those before this place were done, and all are as prompt as they were
abbrev pub invariant-loop-place : goal.invariant-loop-place
invariant-loop-place g l = record {
  played : Plays g.F.Fate.answers (take l.place l.acts) l.initial.self.fate l.self.fate l.initial.self.world_core
      l.self.world_core;
  prompt : AllDelaysFitIntervals l.self.world_core l.acts;
}

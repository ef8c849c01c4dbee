use Rattle.std.specs.Prelude.{◌≡◌, drop}
use Rattle.std.specs.Io.KnownBytes.{Appends}
use Rattle.gptp_model.specs.Prompt.{AllDelaysFitIntervals}
use Rattle.gptp_report.proofs.RunLemmas.{WentSoFar}
use Rattle.gptp_report.proofs.run.play.Given as goal

-- the events before the place are made where they are due, all are as prompt as they were, and no write has failed
abbrev pub invariant-loop-place : goal.invariant-loop-place
invariant-loop-place g l = record {
  so_far : WentSoFar g.F.Fate.answers g.O.Observer.tells l.until l.events (drop l.place l.events) l.initial.world.fate
      l.world.fate l.initial.world.world_core l.world.world_core l.initial.observer l.observer
      (Appends (g.K.Sink.written l.initial.sink) (g.K.Sink.written l.sink));
  prompt : AllDelaysFitIntervals l.world.world_core l.events;
  works : g.K.Sink.failures l.sink ≡ g.K.Sink.failures l.initial.sink;
}

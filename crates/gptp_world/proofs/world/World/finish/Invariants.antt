use Rattle.std.specs.Prelude.{◌≡◌}
use Rattle.std.specs.Io.KnownBytes.{Appends}
use Rattle.gptp_model.specs.Ahead.{due_by}
use Rattle.gptp_model.specs.Pending.{NothingBefore}
use Rattle.gptp_world.specs.Following.{Follows, IsUpcoming}
use Rattle.gptp_world.proofs.world.World.finish.Given as goal

-- it went on so far, nothing is pending before the time, and no write has failed
abbrev pub invariant-loop-due : goal.invariant-loop-due
invariant-loop-due g l = record {
  followed : Follows g.F.Fate.answers g.O.Observer.tells l.time l.initial.self.fate l.self.fate
      l.initial.self.world_core
      l.self.world_core l.initial.observer l.observer
      (Appends (g.K.Sink.written l.initial.sink) (g.K.Sink.written l.sink));
  next : IsUpcoming l.next l.self.world_core.net.pending;
  first : NothingBefore l.time l.self.world_core.net.pending;
  works : g.K.Sink.failures l.sink ≡ g.K.Sink.failures l.initial.sink;
}

abbrev pub decreases-loop-due : goal.decreases-loop-due
decreases-loop-due g l = due_by l.time l.self.world_core.net.pending

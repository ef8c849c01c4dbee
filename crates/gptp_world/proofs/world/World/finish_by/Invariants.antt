use Rattle.std.specs.Prelude.{◌≡◌, ◌+◌, ◌-◌}
use Rattle.std.specs.Io.KnownBytes.{Appends}
use Rattle.gptp_model.specs.Pending.{NothingBefore}
use Rattle.gptp_world.specs.Following.{Follows, IsUpcoming}
use Rattle.gptp_world.proofs.world.World.finish_by.Given as goal

-- it went on so far, nothing is pending before the time from which it goes on, and no write has failed
abbrev pub invariant-loop-from : goal.invariant-loop-from
invariant-loop-from g l = record {
  followed : Follows g.F.Fate.answers g.O.Observer.tells l.until l.initial.self.fate l.self.fate
      l.initial.self.world_core
      l.self.world_core l.initial.observer l.observer
      (Appends (g.K.Sink.written l.initial.sink) (g.K.Sink.written l.sink));
  next : IsUpcoming l.next l.self.world_core.net.pending;
  first : NothingBefore l.from l.self.world_core.net.pending;
  works : g.K.Sink.failures l.sink ≡ g.K.Sink.failures l.initial.sink;
}

abbrev pub decreases-loop-from : goal.decreases-loop-from
decreases-loop-from g l = l.until + 1 - l.from

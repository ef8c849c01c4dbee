use Rattle.std.specs.Io.KnownBytes.{Appends}
use Rattle.gptp_sink.proofs.SinkLemmas.{after_error}
use Rattle.gptp_world.proofs.SettlingInvariantLemmas.{stopped_in_time}
use Rattle.gptp_world.proofs.FollowLemmas.{follows_stopped, goes_on_seen}
use Rattle.gptp_world.proofs.world.World.go_on.Goals as goal

pub returns-in_err-finish_by-clause-broken : goal.returns-in_err-finish_by-clause-broken
returns-in_err-finish_by-clause-broken g c = after_error c.from_residual.result c.in_err-finish_by.ensures.went

-- no act passes the time
pub wait-requires-clause-ahead : goal.wait-requires-clause-ahead
wait-requires-clause-ahead g c =
    stopped_in_time g.F.Fate.answers c.args.until c.args.self.now.fate c.finish_by.new.self.fate
    c.args.self.now.world_core
    c.finish_by.new.self.world_core c.well_formed-2.ensures.sound c.requires.ahead
    (follows_stopped g.F.Fate.answers g.O.Observer.tells c.args.until c.args.self.now.fate c.finish_by.new.self.fate
    c.args.self.now.world_core c.finish_by.new.self.world_core c.args.observer.now c.finish_by.new.observer
    (Appends (g.K.Sink.written c.args.sink.now) (g.K.Sink.written c.finish_by.new.sink))
    c.in_ok-finish_by.ensures.followed)

pub returns-clause-gone : goal.returns-clause-gone
returns-clause-gone g c =
    goes_on_seen g.F.Fate.answers g.O.Observer.tells c.args.until c.args.self.now.fate c.finish_by.new.self.fate
    c.args.self.now.world_core c.finish_by.new.self.world_core c.wait.new.self c.args.observer.now
    c.finish_by.new.observer
    (Appends (g.K.Sink.written c.args.sink.now) (g.K.Sink.written c.finish_by.new.sink)) c.requires.ahead
    c.in_ok-finish_by.ensures.followed c.in_ok-finish_by.ensures.done c.wait.ensures

use Rattle.std.proofs.Common.{[], arith}
use Rattle.std.specs.Io.KnownBytes.{Appends}
use Rattle.gptp_model.proofs.AdvanceLemmas.{next_not_before}
use Rattle.gptp_sink.specs.Sink.{AppendsSome}
use Rattle.gptp_world.proofs.FollowLemmas.{follows_later, follows_none}
use Rattle.gptp_sink.proofs.SinkLemmas.{appends_none, none_of}
use Rattle.gptp_world.proofs.world.World.finish_next.Goals as goal

pub returns-in_err-further-in-Some-clause-went : goal.returns-in_err-further-in-Some-clause-went
returns-in_err-further-in-Some-clause-went g c =
    let went = c.finish.ensures.went in (
      went.0,
      follows_later g.F.Fate.answers g.O.Observer.tells c.in-Some.time c.args.until c.args.self.now.fate
          c.finish.new.self.fate c.args.self.now.world_core c.finish.new.self.world_core
          c.args.observer.now went.0
          (AppendsSome (g.K.Sink.written c.args.sink.now) (g.K.Sink.written c.finish.new.sink))
          c.in-Some.ensures.early went.1,
    )

pub returns-in_ok-further-in-Some-clause-went : goal.returns-in_ok-further-in-Some-clause-went
returns-in_ok-further-in-Some-clause-went g c =
    let went = c.in_ok-further-in-Some.ensures.went in (
      went.0,
      follows_later g.F.Fate.answers g.O.Observer.tells c.in-Some.time c.args.until c.args.self.now.fate
          c.finish.new.self.fate c.args.self.now.world_core c.finish.new.self.world_core
          c.args.observer.now went.0
          (AppendsSome (g.K.Sink.written c.args.sink.now) (g.K.Sink.written c.finish.new.sink))
          c.in-Some.ensures.early went.1,
    )

pub returns-in_ok-further-in-Some-clause-followed : goal.returns-in_ok-further-in-Some-clause-followed
returns-in_ok-further-in-Some-clause-followed g c =
    follows_later g.F.Fate.answers g.O.Observer.tells c.in-Some.time c.args.until c.args.self.now.fate
    c.finish.new.self.fate c.args.self.now.world_core c.finish.new.self.world_core c.args.observer.now
    c.finish.new.observer
    (Appends (g.K.Sink.written c.args.sink.now) (g.K.Sink.written c.finish.new.sink))
    c.in-Some.ensures.early c.in_ok-further-in-Some.ensures.followed

pub returns-in_ok-further-in-Some-clause-later : goal.returns-in_ok-further-in-Some-clause-later
returns-in_ok-further-in-Some-clause-later g c =
    let next = c.in-Some.ensures.next in
    let late = next_not_before c.args.from c.args.self.now.world_core.net.pending c.in-Some.time
    c.in-Some.field-0-1 next
    c.requires.first in
    omega (arith, late)

pub returns-in-None-clause-went : goal.returns-in-None-clause-went
returns-in-None-clause-went g c = (
  c.args.observer.now,
  follows_none g.F.Fate.answers g.O.Observer.tells c.args.until c.args.self.now.fate c.args.self.now.world_core
      c.args.observer.now (AppendsSome (g.K.Sink.written c.args.sink.now) (g.K.Sink.written c.args.sink.now))
      (none_of (g.K.Sink.written c.args.sink.now) []),
)

pub returns-in-None-clause-followed : goal.returns-in-None-clause-followed
returns-in-None-clause-followed g c =
    follows_none g.F.Fate.answers g.O.Observer.tells c.args.until c.args.self.now.fate c.args.self.now.world_core
    c.args.observer.now (Appends (g.K.Sink.written c.args.sink.now) (g.K.Sink.written c.args.sink.now))
    (appends_none (g.K.Sink.written c.args.sink.now))

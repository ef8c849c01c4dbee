use Rattle.std.proofs.Common.{[], refl}
use Rattle.std.specs.Io.KnownBytes.{Appends}
use Rattle.gptp_sink.specs.Sink.{AppendsSome}
use Rattle.gptp_sink.proofs.SinkLemmas.{appends_none, none_of}
use Rattle.gptp_world.proofs.FollowLemmas.{follows_none, follows_unseen}
use Rattle.gptp_world.proofs.world.World.do_next.Goals as goal

-- nothing happened
pub returns-in_err-pass-clause-went : goal.returns-in_err-pass-clause-went
returns-in_err-pass-clause-went g c =
    let written = g.K.Sink.written c.args.sink.now in (
      c.args.observer.now,
      rw (c.in_err-pass.ensures.kept, c.in_err-pass.ensures.fate)
          (follows_none g.F.Fate.answers g.O.Observer.tells c.args.time c.args.self.now.fate c.args.self.now.world_core
          c.args.observer.now (AppendsSome written written) (none_of written [])),
    )

pub returns-clause-went : goal.returns-clause-went
returns-clause-went g c =
    let written = g.K.Sink.written c.args.sink.now in (
      c.args.observer.now,
      follows_unseen g.F.Fate.answers g.O.Observer.tells c.args.time c.args.self.now.fate c.pass.new.fate
          c.args.self.now.world_core c.pass.new.self c.args.observer.now (AppendsSome written written)
          c.in_ok-pass.ensures.done (c.if-wants.ensures.unseen refl) (none_of written []),
    )

pub returns-clause-followed : goal.returns-clause-followed
returns-clause-followed g c =
    let written = g.K.Sink.written c.args.sink.now in
    follows_unseen g.F.Fate.answers g.O.Observer.tells c.args.time c.args.self.now.fate c.pass.new.fate
    c.args.self.now.world_core c.pass.new.self c.args.observer.now (Appends written written)
    c.in_ok-pass.ensures.done (c.if-wants.ensures.unseen refl) (appends_none written)

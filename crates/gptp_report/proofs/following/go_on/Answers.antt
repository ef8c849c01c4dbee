use Rattle.std.proofs.Common.{[]}
use Rattle.std.proofs.lemmas.Result.{on_err_weaker}
use Rattle.gptp_sink.specs.Sink.{AppendsSome}
use Rattle.gptp_sink.proofs.SinkLemmas.{none_of}
use Rattle.gptp_world.proofs.FollowLemmas.{follows_none}
use Rattle.gptp_report.proofs.RunLemmas.{breaks_seen}
use Rattle.gptp_report.proofs.following.go_on.Goals as goal

-- nothing happened
pub returns-then-until-now-clause-broken : goal.returns-then-until-now-clause-broken
returns-then-until-now-clause-broken g c =
    let known = g.K.Sink.written c.args.sink.now in let w = c.args.world.now.world_core in let fate =
    c.args.world.now.fate in
    breaks_seen g.F.Fate.answers g.O.Observer.tells c.args.until fate fate w w c.args.observer.now c.args.observer.now
    (AppendsSome known known) (follows_none g.F.Fate.answers g.O.Observer.tells c.args.until fate w
    c.args.observer.now (AppendsSome known known) (none_of known []))

pub returns-clause-broken : goal.returns-clause-broken
returns-clause-broken g c = on_err_weaker c.go_on.result (λ broken.
    breaks_seen g.F.Fate.answers g.O.Observer.tells c.args.until c.args.world.now.fate c.go_on.new.self.fate
    c.args.world.now.world_core c.go_on.new.self.world_core c.args.observer.now broken.0
    (AppendsSome (g.K.Sink.written c.args.sink.now) (g.K.Sink.written c.go_on.new.sink)) broken.1)
    c.go_on.ensures.broken

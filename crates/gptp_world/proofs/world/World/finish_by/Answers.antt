use Rattle.std.proofs.Common.{◌∙◌}
use Rattle.std.specs.Io.KnownBytes.{Appends}
use Rattle.gptp_sink.specs.Sink.{AppendsSome}
use Rattle.gptp_world.proofs.FollowLemmas.{follows_more, follows_so}
use Rattle.gptp_sink.proofs.SinkLemmas.{all_of, appends_both, some_behind}
use Rattle.gptp_world.proofs.world.World.finish_by.Goals as goal

pub loop-from-preserved : goal.loop-from-preserved
loop-from-preserved g c =
    let old = g.K.Sink.written c.args.sink.now in let between = g.K.Sink.written c.loop-from.sink in
    let new = g.K.Sink.written c.finish_next.new.sink in
    record {
      followed = follows_more g.F.Fate.answers g.O.Observer.tells c.args.until c.args.self.now.fate
          c.loop-from.self.fate c.finish_next.new.self.fate c.args.self.now.world_core c.loop-from.self.world_core
          c.finish_next.new.self.world_core c.args.observer.now c.loop-from.observer c.finish_next.new.observer
          (Appends old between) (Appends between new) (Appends old new) (appends_both old between new)
          c.loop-from.invariant.followed c.in_ok-later.ensures.followed;
      next = c.in_ok-later.ensures.next;
      first = c.in_ok-later.ensures.done;
      works = c.in_ok-later.ensures.works (λ no. absurd cc) ∙ c.loop-from.invariant.works;
    }

pub returns-in_err-later-clause-went : goal.returns-in_err-later-clause-went
returns-in_err-later-clause-went g c =
    let old = g.K.Sink.written c.args.sink.now in let between = g.K.Sink.written c.loop-from.sink in
    let new = g.K.Sink.written c.finish_next.new.sink in let went = c.in_err-later.ensures.went in (
      went.0,
      follows_more g.F.Fate.answers g.O.Observer.tells c.args.until c.args.self.now.fate c.loop-from.self.fate
          c.finish_next.new.self.fate c.args.self.now.world_core c.loop-from.self.world_core
          c.finish_next.new.self.world_core
          c.args.observer.now c.loop-from.observer went.0 (Appends old between) (AppendsSome between new)
          (AppendsSome old new) (some_behind old between new) c.loop-from.invariant.followed went.1,
    )

pub returns-clause-went : goal.returns-clause-went
returns-clause-went g c =
    let old = g.K.Sink.written c.args.sink.now in let new = g.K.Sink.written c.loop-from.sink in (
      c.loop-from.observer,
      follows_so g.F.Fate.answers g.O.Observer.tells c.args.until c.args.self.now.fate c.loop-from.self.fate
          c.args.self.now.world_core c.loop-from.self.world_core c.args.observer.now c.loop-from.observer
          (Appends old new)
          (AppendsSome old new) (all_of old new) c.loop-from.invariant.followed,
    )

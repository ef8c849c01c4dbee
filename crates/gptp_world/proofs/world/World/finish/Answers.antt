use Rattle.std.proofs.Common.{◌≡◌, ◌<◌, ◌∙◌, refl, subst, arith}
use Rattle.std.specs.Io.KnownBytes.{Appends}
use Rattle.gptp_model.specs.Ahead.{due_by}
use Rattle.gptp_model.specs.Pending.{NothingBefore}
use Rattle.gptp_model.proofs.AdvanceLemmas.{next_not_before}
use Rattle.gptp_world.specs.Following.{Follows}
use Rattle.gptp_sink.specs.Sink.{AppendsSome}
use Rattle.gptp_world.proofs.FollowLemmas.{follows_more, follows_none, follows_so}
use Rattle.gptp_sink.proofs.SinkLemmas.{all_of, appends_both, appends_none, some_behind}
use Rattle.gptp_world.proofs.world.World.finish.Goals as goal

pub loop-due-init : goal.loop-due-init
loop-due-init g c = record {
  followed = follows_none g.F.Fate.answers g.O.Observer.tells c.args.time c.args.self.now.fate
      c.args.self.now.world_core c.args.observer.now
      (Appends (g.K.Sink.written c.args.sink.now) (g.K.Sink.written c.args.sink.now))
      (appends_none (g.K.Sink.written c.args.sink.now));
  next = c.requires.next;
  first = c.requires.first;
  works = refl;
}

pub loop-due-smaller : goal.loop-due-smaller
loop-due-smaller g c =
    let es = c.loop-due.self.world_core.net.pending in let next = c.in-Some.ensures.next in
    let late = next_not_before c.args.time es c.in-Some.due c.in-Some.item next c.loop-due.invariant.first in
    let early = c.in-Some.ensures.early in
    let same : c.in-Some.due ≡ c.args.time = omega (arith, late, early) in
    subst (λ t. due_by t c.do_next.new.self.world_core.net.pending < due_by t es) same c.in_ok-do_next.ensures.less

pub loop-due-preserved : goal.loop-due-preserved
loop-due-preserved g c =
    let so_far = c.loop-due.invariant in let one = c.in_ok-do_next.ensures in
    let es = c.loop-due.self.world_core.net.pending in let next = c.in-Some.ensures.next in
    let late = next_not_before c.args.time es c.in-Some.due c.in-Some.item next so_far.first in
    let early = c.in-Some.ensures.early in
    let same : c.in-Some.due ≡ c.args.time = omega (arith, late, early) in
    let old = g.K.Sink.written c.args.sink.now in let between = g.K.Sink.written c.loop-due.sink in
    let new = g.K.Sink.written c.do_next.new.sink in
    record {
      followed = follows_more g.F.Fate.answers g.O.Observer.tells c.args.time c.args.self.now.fate
          c.loop-due.self.fate c.do_next.new.self.fate c.args.self.now.world_core c.loop-due.self.world_core
          c.do_next.new.self.world_core c.args.observer.now c.loop-due.observer c.do_next.new.observer
          (Appends old between) (Appends between new) (Appends old new) (appends_both old between new)
          so_far.followed
          (subst
          (λ t. Follows g.F.Fate.answers g.O.Observer.tells t c.loop-due.self.fate c.do_next.new.self.fate
          c.loop-due.self.world_core c.do_next.new.self.world_core c.loop-due.observer c.do_next.new.observer
          (Appends between new)) same one.followed);
      next = c.upcoming-next.ensures;
      first = subst (λ t. NothingBefore t c.do_next.new.self.world_core.net.pending) same one.first;
      works = one.works (λ no. absurd cc) ∙ so_far.works;
    }

pub returns-in_err-do_next-clause-went : goal.returns-in_err-do_next-clause-went
returns-in_err-do_next-clause-went g c =
    let so_far = c.loop-due.invariant in let went = c.in_err-do_next.ensures.went in
    let es = c.loop-due.self.world_core.net.pending in let next = c.in-Some.ensures.next in
    let late = next_not_before c.args.time es c.in-Some.due c.in-Some.item next so_far.first in
    let early = c.in-Some.ensures.early in
    let same : c.in-Some.due ≡ c.args.time = omega (arith, late, early) in
    let old = g.K.Sink.written c.args.sink.now in let between = g.K.Sink.written c.loop-due.sink in
    let new = g.K.Sink.written c.do_next.new.sink in (
      went.0,
      follows_more g.F.Fate.answers g.O.Observer.tells c.args.time c.args.self.now.fate c.loop-due.self.fate
          c.do_next.new.self.fate c.args.self.now.world_core c.loop-due.self.world_core c.do_next.new.self.world_core
          c.args.observer.now c.loop-due.observer went.0 (Appends old between) (AppendsSome between new)
          (AppendsSome old new) (some_behind old between new) so_far.followed
          (subst
          (λ t. Follows g.F.Fate.answers g.O.Observer.tells t c.loop-due.self.fate c.do_next.new.self.fate
          c.loop-due.self.world_core c.do_next.new.self.world_core c.loop-due.observer went.0 (AppendsSome between new))
          same went.1),
    )

pub returns-clause-went : goal.returns-clause-went
returns-clause-went g c =
    let old = g.K.Sink.written c.args.sink.now in let new = g.K.Sink.written c.loop-due.sink in (
      c.loop-due.observer,
      follows_so g.F.Fate.answers g.O.Observer.tells c.args.time c.args.self.now.fate c.loop-due.self.fate
          c.args.self.now.world_core c.loop-due.self.world_core c.args.observer.now c.loop-due.observer
          (Appends old new)
          (AppendsSome old new) (all_of old new) c.loop-due.invariant.followed,
    )

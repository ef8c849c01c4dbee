use Rattle.std.proofs.Common.{◌<◌, [], subst, arith}
use Rattle.std.specs.Io.KnownBytes.{Appends}
use Rattle.std.proofs.lemmas.Result.{on_ok_weaker}
use Rattle.gptp_model.specs.Ahead.{due_by}
use Rattle.gptp_model.specs.Pending.{NothingBefore}
use Rattle.gptp_model.proofs.AdvanceLemmas.{can_happen, happened}
use Rattle.gptp_model.proofs.PromptLemmas.{next_prompt}
use Rattle.gptp_sink.specs.Sink.{AppendsSome}
use Rattle.gptp_sink.proofs.SinkLemmas.{none_of}
use Rattle.gptp_world.proofs.ActTargetLemmas.{next_aimed}
use Rattle.gptp_world.proofs.SettlingInvariantLemmas.{next_octet}
use Rattle.gptp_world.proofs.FollowLemmas.{follows_none, follows_one}
use Rattle.gptp_world.proofs.world.World.do_seen.Goals as goal

pub perform-requires : goal.perform-requires
perform-requires g c =
    let w = c.args.self.now.world_core in let timed = c.next_act-timed.result in
    let next = c.next_act-timed.ensures.next in let is = c.next_act-timed.ensures.act in
    let sound = c.well_formed-2.ensures.sound in
    let can = can_happen c.args.item timed.at timed.act w sound next is in
    record {
      moment = rw c.next_act-timed.ensures.time c.requires.moment;
      fit = can.fit;
      prompt = next_prompt w timed (record { item = c.args.item; next = next; act = is });
      octet = next_octet c.args.item timed.act w is;
      target = rw c.aim_of.ensures (next_aimed c.args.item timed.at timed.act w sound next is);
      ready = can.ready;
    }

-- nothing happened
pub returns-in_err-done-clause-went : goal.returns-in_err-done-clause-went
returns-in_err-done-clause-went g c = (
  c.args.observer.now,
  rw (c.in_err-done.ensures.kept, c.in_err-done.ensures.fate)
      (follows_none g.F.Fate.answers g.O.Observer.tells c.args.time c.args.self.now.fate c.args.self.now.world_core
      c.args.observer.now (AppendsSome (g.K.Sink.written c.args.sink.now) (g.K.Sink.written c.args.sink.now))
      (none_of (g.K.Sink.written c.args.sink.now) [])),
)

pub returns-clause-went : goal.returns-clause-went
returns-clause-went g c =
    let some = c.observe-seen.ensures.some in (
      some.0,
      rw c.recycle.ensures
          (follows_one g.F.Fate.answers g.O.Observer.tells c.args.time c.next_act-timed.result c.in_ok-done.done
          c.args.self.now.fate c.perform.new.fate c.args.self.now.world_core c.perform.new.self
          c.args.observer.now some.0
          (AppendsSome (g.K.Sink.written c.args.sink.now) (g.K.Sink.written c.observe-seen.new.sink))
          (record {
            next = record {
              item = c.args.item;
              next = c.next_act-timed.ensures.next;
              act = c.next_act-timed.ensures.act;
            };
            early = omega (arith, c.next_act-timed.ensures.time);
            was_done = c.in_ok-done.ensures.done;
          }) some.1),
    )

pub returns-clause-followed : goal.returns-clause-followed
returns-clause-followed g c = on_ok_weaker c.observe-seen.result (λ whole.
    rw c.recycle.ensures
    (follows_one g.F.Fate.answers g.O.Observer.tells c.args.time c.next_act-timed.result c.in_ok-done.done
    c.args.self.now.fate c.perform.new.fate c.args.self.now.world_core c.perform.new.self
    c.args.observer.now c.observe-seen.new.self
    (Appends (g.K.Sink.written c.args.sink.now) (g.K.Sink.written c.observe-seen.new.sink))
    (record {
      next = record { item = c.args.item; next = c.next_act-timed.ensures.next; act = c.next_act-timed.ensures.act };
      early = omega (arith, c.next_act-timed.ensures.time);
      was_done = c.in_ok-done.ensures.done;
    }) whole)) c.observe-seen.ensures.whole

pub returns-clause-less : goal.returns-clause-less
returns-clause-less g c = on_ok_weaker c.observe-seen.result (λ whole.
    subst (λ t. due_by t c.recycle.new.self.net.pending < due_by t c.args.self.now.world_core.net.pending)
    c.next_act-timed.ensures.time (rw c.recycle.ensures
    (happened g.F.Fate.answers c.next_act-timed.result c.in_ok-done.done c.args.self.now.fate c.perform.new.fate
    c.args.self.now.world_core c.perform.new.self c.well_formed-2.ensures.sound
    (record { item = c.args.item; next = c.next_act-timed.ensures.next; act = c.next_act-timed.ensures.act })
    c.in_ok-done.ensures.done).less)) c.observe-seen.ensures.whole

pub returns-clause-first : goal.returns-clause-first
returns-clause-first g c = on_ok_weaker c.observe-seen.result (λ whole.
    subst (λ t. NothingBefore t c.recycle.new.self.net.pending) c.next_act-timed.ensures.time (rw c.recycle.ensures
    (happened g.F.Fate.answers c.next_act-timed.result c.in_ok-done.done c.args.self.now.fate c.perform.new.fate
    c.args.self.now.world_core c.perform.new.self c.well_formed-2.ensures.sound
    (record { item = c.args.item; next = c.next_act-timed.ensures.next; act = c.next_act-timed.ensures.act })
    c.in_ok-done.ensures.done).first)) c.observe-seen.ensures.whole

use Rattle.std.proofs.Common.{inl, inr}
use Rattle.std.specs.Io.KnownBytes.{Appends}
use Rattle.std.proofs.lemmas.Result.{on_ok_weaker}
use Rattle.gptp_model.proofs.PromptLemmas.{stays_prompt}
use Rattle.gptp_sink.specs.Sink.{AppendsSome}
use Rattle.gptp_world.proofs.FollowLemmas.{observed_so}
use Rattle.gptp_report.proofs.RunLemmas.{makes_seen, passed_stays}
use Rattle.gptp_sink.proofs.SinkLemmas.{after_error, all_of, appends_both, some_behind}
use Rattle.gptp_report.proofs.run.make.Goals as goal

pub done_of-requires-clause-prompt : goal.done_of-requires-clause-prompt
done_of-requires-clause-prompt g c =
    let went = c.in_ok-go_on.ensures.gone in
    stays_prompt c.args.event.now.act c.args.world.now.world_core c.go_on.new.world.world_core
    (passed_stays g.F.Fate.answers c.args.event.now.at went.ts c.args.world.now.fate c.go_on.new.world.fate
    c.args.world.now.world_core c.go_on.new.world.world_core c.well_formed-2.ensures.sound.wired.setups went.passes)
    c.requires.prompt

-- it broke off before the event
pub returns-in_err-go_on-clause-broken : goal.returns-in_err-go_on-clause-broken
returns-in_err-go_on-clause-broken g c =
    let broken = c.in_err-go_on.ensures.broken in
    after_error c.from_residual.result (broken.ts, broken.o_after, inl broken.breaks, broken.observed)

-- after all that is due before it
pub returns-in_err-done-clause-broken : goal.returns-in_err-done-clause-broken
returns-in_err-done-clause-broken g c =
    let went = c.in_ok-go_on.ensures.gone in
    let old = g.K.Sink.written c.args.sink.now in let new = g.K.Sink.written c.go_on.new.sink in
    after_error c.from_residual-in_err-done.result (
      went.ts,
      c.go_on.new.observer,
      inl (record {
        fate_after = c.go_on.new.world.fate;
        after = went.passes.between;
        passes = went.passes.passes;
      }),
      observed_so g.O.Observer.tells went.ts c.args.observer.now c.go_on.new.observer (Appends old new)
          (AppendsSome old new) (all_of old new) went.observed,
    )

-- or after the event
pub returns-clause-broken : goal.returns-clause-broken
returns-clause-broken g c =
    let went = c.in_ok-go_on.ensures.gone in let some = c.observe.ensures.some in
    let old = g.K.Sink.written c.args.sink.now in let between = g.K.Sink.written c.go_on.new.sink in
    let new = g.K.Sink.written c.observe.new.sink in
    let seen = makes_seen g.F.Fate.answers g.O.Observer.tells c.args.event.now c.in_ok-done.done c.args.world.now.fate
    c.go_on.new.world.fate c.done_of.new.world.fate c.args.world.now.world_core c.go_on.new.world.world_core
    c.done_of.new.world.world_core c.args.observer.now c.go_on.new.observer some.0 (Appends old between)
    (AppendsSome between new) (AppendsSome old new) (some_behind old between new) went c.in_ok-done.ensures.done some.1
    in after_error c.observe.result
    (seen.0, some.0, inr (c.done_of.new.world.fate, c.done_of.new.world.world_core, seen.1), seen.2)

pub returns-clause-made : goal.returns-clause-made
returns-clause-made g c = on_ok_weaker c.observe.result (λ whole.
    let old = g.K.Sink.written c.args.sink.now in let between = g.K.Sink.written c.go_on.new.sink in
    let new = g.K.Sink.written c.observe.new.sink in
    makes_seen g.F.Fate.answers g.O.Observer.tells c.args.event.now c.in_ok-done.done c.args.world.now.fate
    c.go_on.new.world.fate c.done_of.new.world.fate c.args.world.now.world_core c.go_on.new.world.world_core
    c.done_of.new.world.world_core c.args.observer.now c.go_on.new.observer c.observe.new.self (Appends old between)
    (Appends between new) (Appends old new) (appends_both old between new) c.in_ok-go_on.ensures.gone
    c.in_ok-done.ensures.done whole) c.observe.ensures.whole

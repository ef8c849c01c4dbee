use Rattle.std.proofs.Common.{◌≡◌, ◌+◌, ◌∷◌, Some, drop, nat_le, refl, ap, sym, subst, ◌∙◌}
use Rattle.std.specs.Io.KnownBytes.{Appends}
use Rattle.std.proofs.lemmas.List.{drop_all, drop_more}
use Rattle.std.proofs.lemmas.Option.{slice_get-get_or}
use Rattle.std.proofs.lemmas.Result.{on_err_weaker, on_ok_weaker}
use Rattle.gptp_model.proofs.PromptLemmas.{stay_prompt}
use Rattle.gptp_sink.specs.Sink.{AppendsSome}
use Rattle.gptp_report.proofs.RunLemmas.{made_if_stays, went_all, went_more, went_none, went_to_end, went_to_event, WentSoFar}
use Rattle.gptp_sink.proofs.SinkLemmas.{after_error, appends_both, appends_none, some_behind}
use Rattle.gptp_report.proofs.run.play.Goals as goal

pub loop-place-init : goal.loop-place-init
loop-place-init g c = record {
  so_far = went_none g.F.Fate.answers g.O.Observer.tells c.args.until c.args.events.now c.args.world.now.fate
      c.args.world.now.world_core c.args.observer.now
      (Appends (g.K.Sink.written c.args.sink.now) (g.K.Sink.written c.args.sink.now))
      (appends_none (g.K.Sink.written c.args.sink.now));
  prompt = c.requires.prompt;
  works = refl;
}

pub make_if_due-requires-clause-prompt : goal.make_if_due-requires-clause-prompt
make_if_due-requires-clause-prompt g c =
    let i = c.loop-place.place in let events = c.args.events.now in let event = c.index-events-place.result in
    c.loop-place.invariant.prompt i event
    (slice_get-get_or events i event c.loop-place-test.true ∙ ap Some (sym c.index-events-place.is))

pub loop-place-preserved : goal.loop-place-preserved
loop-place-preserved g c =
    let i = c.loop-place.place in let events = c.args.events.now in let event = c.index-events-place.result in
    let here : drop i events ≡ event ∷ drop (i + 1) events =
    drop_more events i event c.loop-place-test.true ∙ ap (λ y. y ∷ drop (i + 1) events) (sym c.index-events-place.is) in
    let made = c.in_ok-make_if_due.ensures.made in
    let old = g.K.Sink.written c.args.sink.now in let between = g.K.Sink.written c.loop-place.sink in
    let new = g.K.Sink.written c.make_if_due.new.sink in
    let so_far = subst
    (λ left. WentSoFar g.F.Fate.answers g.O.Observer.tells c.args.until events left c.args.world.now.fate
    c.loop-place.world.fate c.args.world.now.world_core c.loop-place.world.world_core c.args.observer.now
    c.loop-place.observer
    (Appends old between)) here c.loop-place.invariant.so_far in
    record {
      so_far = went_more g.F.Fate.answers g.O.Observer.tells c.args.until events event (drop (i + 1) events)
          c.args.world.now.fate c.loop-place.world.fate c.make_if_due.new.world.fate c.args.world.now.world_core
          c.loop-place.world.world_core c.make_if_due.new.world.world_core c.args.observer.now c.loop-place.observer
          c.make_if_due.new.observer (Appends old between) (Appends between new)
          (Appends old new) made.0 (appends_both old between new) so_far made.1 made.2;
      prompt = stay_prompt events c.loop-place.world.world_core c.make_if_due.new.world.world_core
          (made_if_stays g.F.Fate.answers (nat_le event.at c.args.until) event made.0 c.loop-place.world.fate
          c.make_if_due.new.world.fate c.loop-place.world.world_core c.make_if_due.new.world.world_core
          c.well_formed-in-loop-place.ensures.sound.wired.setups made.1) c.loop-place.invariant.prompt;
      works = c.in_ok-make_if_due.ensures.works (λ no. absurd cc) ∙ c.loop-place.invariant.works;
    }

pub returns-in_err-make_if_due-clause-broken : goal.returns-in_err-make_if_due-clause-broken
returns-in_err-make_if_due-clause-broken g c =
    let i = c.loop-place.place in let events = c.args.events.now in let event = c.index-events-place.result in
    let here : drop i events ≡ event ∷ drop (i + 1) events =
    drop_more events i event c.loop-place-test.true ∙ ap (λ y. y ∷ drop (i + 1) events) (sym c.index-events-place.is) in
    let broken = c.in_err-make_if_due.ensures.broken in
    let old = g.K.Sink.written c.args.sink.now in let between = g.K.Sink.written c.loop-place.sink in
    let new = g.K.Sink.written c.make_if_due.new.sink in
    let so_far = subst
    (λ left. WentSoFar g.F.Fate.answers g.O.Observer.tells c.args.until events left c.args.world.now.fate
    c.loop-place.world.fate c.args.world.now.world_core c.loop-place.world.world_core c.args.observer.now
    c.loop-place.observer
    (Appends old between)) here c.loop-place.invariant.so_far in
    after_error c.from_residual.result
    (went_to_event g.F.Fate.answers g.O.Observer.tells c.args.until events event (drop (i + 1) events)
    c.args.world.now.fate c.loop-place.world.fate c.args.world.now.world_core c.loop-place.world.world_core
    c.args.observer.now c.loop-place.observer broken.1
    (Appends old between) (AppendsSome between new) (AppendsSome old new) broken.0 (some_behind old between new)
    so_far c.in_err-make_if_due.ensures.due broken.2 broken.3)

pub returns-clause-played : goal.returns-clause-played
returns-clause-played g c = on_ok_weaker c.go_on.result (λ went.
    let events = c.args.events.now in
    let old = g.K.Sink.written c.args.sink.now in let between = g.K.Sink.written c.loop-place.sink in
    let new = g.K.Sink.written c.go_on.new.sink in
    let all = subst
    (λ left. WentSoFar g.F.Fate.answers g.O.Observer.tells c.args.until events left c.args.world.now.fate
    c.loop-place.world.fate c.args.world.now.world_core c.loop-place.world.world_core c.args.observer.now
    c.loop-place.observer
    (Appends old between))
    (drop_all c.loop-place.place events c.loop-place-test.false) c.loop-place.invariant.so_far in
    went_all g.F.Fate.answers g.O.Observer.tells c.args.until events c.args.world.now.fate c.loop-place.world.fate
    c.go_on.new.world.fate c.args.world.now.world_core c.loop-place.world.world_core c.go_on.new.world.world_core
    c.args.observer.now c.loop-place.observer c.go_on.new.observer
    (Appends old between) (Appends between new) (Appends old new) (appends_both old between new) all went)
    c.go_on.ensures.gone

pub returns-clause-broken : goal.returns-clause-broken
returns-clause-broken g c = on_err_weaker c.go_on.result (λ broken.
    let events = c.args.events.now in
    let old = g.K.Sink.written c.args.sink.now in let between = g.K.Sink.written c.loop-place.sink in
    let new = g.K.Sink.written c.go_on.new.sink in
    let all = subst
    (λ left. WentSoFar g.F.Fate.answers g.O.Observer.tells c.args.until events left c.args.world.now.fate
    c.loop-place.world.fate c.args.world.now.world_core c.loop-place.world.world_core c.args.observer.now
    c.loop-place.observer
    (Appends old between))
    (drop_all c.loop-place.place events c.loop-place-test.false) c.loop-place.invariant.so_far in
    went_to_end g.F.Fate.answers g.O.Observer.tells c.args.until events c.args.world.now.fate c.loop-place.world.fate
    c.args.world.now.world_core c.loop-place.world.world_core c.args.observer.now c.loop-place.observer broken.o_after
    (Appends old between) (AppendsSome between new) (AppendsSome old new) broken.ts (some_behind old between new) all
    broken.breaks broken.observed) c.go_on.ensures.broken

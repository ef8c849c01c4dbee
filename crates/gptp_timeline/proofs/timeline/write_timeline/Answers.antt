use Rattle.std.proofs.Common.{◌≡◌, Err, ap, ◌∙◌, refl, subst}
use Rattle.std.proofs.lemmas.Result.{err_from_is_err_and}
use Rattle.gptp_sink.specs.declared.cut.Cut.TheVariants.{Write}
use Rattle.std.specs.Io.KnownBytes.{Appends}
use Rattle.gptp_sink.specs.Sink.{AppendsSome}
use Rattle.gptp_sink.proofs.SinkLemmas.{after_error}
use Rattle.gptp_words.specs.Lines.{text_of}
use Rattle.gptp_model.specs.Views.{rising_clocks}
use Rattle.gptp_timeline.specs.Aside.{nobody_aside}
use Rattle.gptp_timeline.specs.LastStretches.{first_aside}
use Rattle.gptp_timeline.specs.Passing.{aside_kept, watch_before}
use Rattle.gptp_timeline.specs.Timeline.{tracks}
use Rattle.gptp_timeline.specs.Watch.{event_look, see_all}
use Rattle.gptp_timeline.proofs.StretchesSoFarLemmas.{exceeded_is}
use Rattle.gptp_timeline.proofs.AccountLemmas.{nobody_kept, starts_with_kept}
use Rattle.gptp_timeline.proofs.ObservedLemmas.{start_told}
use Rattle.gptp_timeline.proofs.PassLemmas.{if_ok_both}
use Rattle.gptp_timeline.proofs.TimelineLemmas.{all_written, no_failed_write, nothing_begun, start_begun, stretches_begun, verdict_begun}
use Rattle.gptp_timeline.proofs.timeline.write_timeline.Goals as goal

pub all_stretches-requires-clause-begun : goal.all_stretches-requires-clause-begun
all_stretches-requires-clause-begun g c = (c.args.fate, c.in_ok-world.ensures.begun)

pub all_stretches-requires-clause-starts : goal.all_stretches-requires-clause-starts
all_stretches-requires-clause-starts g c =
    let w = c.in_ok-world.world.world_core in
    starts_with_kept c.args.options.now nobody_aside w c.write_start.new.watch
    (c.in_ok-write_start.ensures.sees
    ∙ ap (see_all (event_look 0) w) (c.in_ok-watch.ensures
    ∙ ap (λ a. watch_before c.args.options.now a w) c.nobody.ensures))

-- ---- it breaks off

pub returns-in_err-settling-clause-some : goal.returns-in_err-settling-clause-some
returns-in_err-settling-clause-some g c =
    after_error c.from_residual.result
    (nothing_begun g.F.Fate.answers c.args.document.now c.args.until c.args.options.now c.args.fate
    (g.K.Sink.written c.args.sink.now))

pub returns-in_err-world-clause-some : goal.returns-in_err-world-clause-some
returns-in_err-world-clause-some g c =
    after_error c.from_residual-in_err-world.result
    (nothing_begun g.F.Fate.answers c.args.document.now c.args.until c.args.options.now c.args.fate
    (g.K.Sink.written c.args.sink.now))

pub returns-in_err-watch-clause-some : goal.returns-in_err-watch-clause-some
returns-in_err-watch-clause-some g c =
    after_error c.from_residual-in_err-watch.result
    (nothing_begun g.F.Fate.answers c.args.document.now c.args.until c.args.options.now c.args.fate
    (g.K.Sink.written c.args.sink.now))

pub returns-in_err-write_start-clause-some : goal.returns-in_err-write_start-clause-some
returns-in_err-write_start-clause-some g c =
    let w = c.in_ok-world.world.world_core in let options = c.args.options.now in
    let old = g.K.Sink.written c.args.sink.now in let new = g.K.Sink.written c.write_start.new.sink in
    after_error c.from_residual-in_err-write_start.result
    (start_begun g.F.Fate.answers c.args.document.now c.args.until options c.args.fate c.in_ok-world.world.fate w
    c.in_ok-world.ensures.begun old old old new
    (subst (λ lines. AppendsSome old new (text_of lines)) (start_told options c.nobody.result w c.in_ok-watch.watch
    c.in_ok-watch.ensures)
    c.in_err-write_start.ensures.some))

pub returns-in_err-kept-clause-some : goal.returns-in_err-kept-clause-some
returns-in_err-kept-clause-some g c =
    let w = c.in_ok-world.world.world_core in let options = c.args.options.now in
    let old = g.K.Sink.written c.args.sink.now in let first = g.K.Sink.written c.write_start.new.sink in
    let new = g.K.Sink.written c.all_stretches.new.sink in
    after_error c.from_residual-in_err-kept.result
    (stretches_begun g.F.Fate.answers c.args.document.now c.args.until options c.args.fate c.in_ok-world.world.fate w
    c.in_ok-world.ensures.begun old first first new
    (subst (λ lines. Appends old first (text_of lines)) (start_told options c.nobody.result w c.in_ok-watch.watch
    c.in_ok-watch.ensures)
    c.in_ok-write_start.ensures.whole) (
      c.in_err-kept.ensures.broken.0,
      c.in_err-kept.ensures.broken.1,
      c.in_err-kept.ensures.broken.2,
      c.in_err-kept.ensures.broken.3 (nobody_kept options nobody_aside w refl c.write_start.new.watch
          (c.in_ok-write_start.ensures.sees
          ∙ ap (see_all (event_look 0) w) (c.in_ok-watch.ensures ∙ ap (λ a. watch_before options a w) c.nobody.ensures))),
    ))

-- a device that fails is told as such

pub returns-in_err-write_start-clause-works : goal.returns-in_err-write_start-clause-works
returns-in_err-write_start-clause-works g c = λ other.
    let passed = err_from_is_err_and c.from_residual-in_err-write_start.result
    c.from_residual-in_err-write_start.ensures.1 in
    c.in_err-write_start.ensures.works (λ same.
    let is : c.in_err-write_start.field-0.0 ≡ Write = cc in
    other (passed.1 ∙ ap Err (passed.2 ∙ is)))

pub returns-in_err-kept-clause-works : goal.returns-in_err-kept-clause-works
returns-in_err-kept-clause-works g c = λ other.
    let passed = err_from_is_err_and c.from_residual-in_err-kept.result
    c.from_residual-in_err-kept.ensures.1 in
    c.in_err-kept.ensures.works (λ same.
    let is : c.in_err-kept.field-0.0 ≡ Write = cc in
    other (passed.1 ∙ ap Err (passed.2 ∙ is)))
    ∙ c.in_ok-write_start.ensures.works (no_failed_write _)

pub returns-clause-works : goal.returns-clause-works
returns-clause-works g c = λ other.
    c.end_verdict.ensures.works other ∙ c.in_ok-kept.ensures.works (no_failed_write _)
    ∙ c.in_ok-write_start.ensures.works (no_failed_write _)

pub returns-clause-some : goal.returns-clause-some
returns-clause-some g c =
    let w = c.in_ok-world.world.world_core in let options = c.args.options.now in
    let old = g.K.Sink.written c.args.sink.now in let first = g.K.Sink.written c.write_start.new.sink in
    let second = g.K.Sink.written c.all_stretches.new.sink in let new = g.K.Sink.written c.end_verdict.new.sink in
    let passed = c.in_ok-kept.ensures.passed in
    let nobody = nobody_kept options nobody_aside w refl c.write_start.new.watch
    (c.in_ok-write_start.ensures.sees
    ∙ ap (see_all (event_look 0) w) (c.in_ok-watch.ensures ∙ ap (λ a. watch_before options a w) c.nobody.ensures)) in
    after_error c.end_verdict.result
    (verdict_begun g.F.Fate.answers c.args.document.now c.args.until options c.args.fate c.in_ok-world.world.fate w
    c.in_ok-world.ensures.begun old first second new
    (subst (λ lines. Appends old first (text_of lines)) (start_told options c.nobody.result w c.in_ok-watch.watch
    c.in_ok-watch.ensures)
    c.in_ok-write_start.ensures.whole) c.all_stretches.new.world.fate c.all_stretches.new.world.world_core
    c.in_ok-kept.kept.exceeded passed.0 passed.1
    (exceeded_is options.limits (rising_clocks w) passed.0
    (first_aside (tracks options) (aside_kept c.write_start.new.watch) (rising_clocks w)) c.in_ok-kept.kept nobody
    passed.2) (passed.3 nobody)
    c.end_verdict.ensures.some)

-- ---- it ends

pub returns-clause-whole : goal.returns-clause-whole
returns-clause-whole g c =
    if_ok_both c.end_verdict.result _ _ _ (λ exceeded is whole.
    let w = c.in_ok-world.world.world_core in let options = c.args.options.now in
    let old = g.K.Sink.written c.args.sink.now in let first = g.K.Sink.written c.write_start.new.sink in
    let second = g.K.Sink.written c.all_stretches.new.sink in let new = g.K.Sink.written c.end_verdict.new.sink in
    let passed = c.in_ok-kept.ensures.passed in
    let nobody = nobody_kept options nobody_aside w refl c.write_start.new.watch
    (c.in_ok-write_start.ensures.sees
    ∙ ap (see_all (event_look 0) w) (c.in_ok-watch.ensures ∙ ap (λ a. watch_before options a w) c.nobody.ensures)) in
    all_written g.F.Fate.answers c.args.document.now c.args.until options c.args.fate c.in_ok-world.world.fate w
    c.in_ok-world.ensures.begun old first second new
    (subst (λ lines. Appends old first (text_of lines)) (start_told options c.nobody.result w c.in_ok-watch.watch
    c.in_ok-watch.ensures)
    c.in_ok-write_start.ensures.whole) c.all_stretches.new.world.fate c.all_stretches.new.world.world_core
    c.in_ok-kept.kept.exceeded passed.0 passed.1
    (exceeded_is options.limits (rising_clocks w) passed.0
    (first_aside (tracks options) (aside_kept c.write_start.new.watch) (rising_clocks w)) c.in_ok-kept.kept nobody
    passed.2) (passed.3 nobody) exceeded is whole)
    c.end_verdict.ensures.is
    c.end_verdict.ensures.whole

use Rattle.std.proofs.Common.{Err, ap, ◌∙◌, refl}
use Rattle.std.proofs.lemmas.Result.{err_from_is_err_and}
use Rattle.gptp_model.specs.Views.{rising_clocks}
use Rattle.gptp_timeline.specs.LastStretches.{aside_if, first_aside, last_behind, none_last}
use Rattle.gptp_timeline.specs.Timeline.{tracks}
use Rattle.gptp_timeline.specs.Watch.{event_look, see_all}
use Rattle.gptp_timeline.specs.Passing.{aside_kept}
use Rattle.gptp_timeline.proofs.AccountLemmas.{kept_at_start, starts_with_kept}
use Rattle.gptp_timeline.proofs.PassLemmas.{memory_alone}
use Rattle.gptp_timeline.proofs.StretchesSoFarLemmas.{last_are}
use Rattle.gptp_timeline.proofs.timeline.last_stretches.Goals as goal

pub all_stretches-requires-clause-begun : goal.all_stretches-requires-clause-begun
all_stretches-requires-clause-begun g c = (c.args.fate, c.in_ok-world.ensures.begun)

pub all_stretches-requires-clause-starts : goal.all_stretches-requires-clause-starts
all_stretches-requires-clause-starts g c =
    let w = c.in_ok-world.world.world_core in
    starts_with_kept c.summary_with-options.result c.args.aside w c.write_start.new.watch
    (c.in_ok-write_start.ensures.sees ∙ ap (see_all (event_look 0) w) c.in_ok-watch.ensures)

pub returns-in_err-watch-clause-memory : goal.returns-in_err-watch-clause-memory
returns-in_err-watch-clause-memory g c =
    let passed = err_from_is_err_and c.from_residual-in_err-watch.result c.from_residual-in_err-watch.ensures.1 in
    rw (passed.1 ∙ ap Err passed.2) refl

pub returns-in_err-write_start-clause-memory : goal.returns-in_err-write_start-clause-memory
returns-in_err-write_start-clause-memory g c =
    let passed = err_from_is_err_and c.from_residual-in_err-write_start.result
    c.from_residual-in_err-write_start.ensures.1 in
    rw (passed.1 ∙ ap Err passed.2) (memory_alone c.in_err-write_start.field-0.0
    (λ is. c.in_err-write_start.ensures.fails (ap Err is) refl))

pub returns-in_err-kept-clause-memory : goal.returns-in_err-kept-clause-memory
returns-in_err-kept-clause-memory g c =
    let passed = err_from_is_err_and c.from_residual-in_err-kept.result c.from_residual-in_err-kept.ensures.1 in
    rw (passed.1 ∙ ap Err passed.2) (memory_alone c.in_err-kept.field-0.0
    (λ is. c.in_err-kept.ensures.fails (ap Err is) refl))

pub returns-clause-ends : goal.returns-clause-ends
returns-clause-ends g c =
    let passed = c.in_ok-kept.ensures.passed in let options = c.summary_with-options.result in
    let start = c.in_ok-world.world.world_core in let names = rising_clocks start in
    record {
      started = c.in_ok-world.world.fate;
      start = c.in_ok-world.world.world_core;
      begun = c.in_ok-world.ensures.begun;
      passages = passed.0;
      fate_after = c.all_stretches.new.world.fate;
      after = c.all_stretches.new.world.world_core;
      pass = passed.1;
      are = last_are options.limits names passed.0
          (first_aside (tracks options) (aside_kept c.write_start.new.watch) names) c.in_ok-kept.kept passed.2
          ∙ ap (λ aside. last_behind names (first_aside (tracks options) aside names) passed.0 none_last)
          (ap aside_kept (c.in_ok-write_start.ensures.sees ∙ ap (see_all (event_look 0) start) c.in_ok-watch.ensures)
          ∙ kept_at_start options c.args.aside start)
          ∙ ap (λ asked. last_behind names (first_aside asked (aside_if asked c.args.aside) names) passed.0 none_last)
          c.summary_with-options.ensures.tracks;
    }

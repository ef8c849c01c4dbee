use Rattle.std.proofs.Common.{◌≡◌, false, Err, List, length, ap, ◌∙◌, refl, subst, arith}
use Rattle.std.proofs.lemmas.Result.{err_from_is_err_and}
use Rattle.gptp_report.specs.Transitions.{Courses}
use Rattle.gptp_scenario.specs.declared.change.Timed.{Timed}
use Rattle.gptp_world.specs.Observing.{Tells}
use Rattle.gptp_timeline.specs.Aside.{nobody_aside}
use Rattle.gptp_timeline.specs.LastStretches.{none_kept}
use Rattle.gptp_timeline.specs.Limits.{no_limits}
use Rattle.gptp_timeline.specs.Passing.{EarlierAreSeen, standing, watch_at_start, watch_before}
use Rattle.gptp_timeline.specs.RunSoFar.{summary_of}
use Rattle.gptp_timeline.specs.Watch.{event_look, see_all, tells_changes, WatchState}
use Rattle.gptp_timeline.specs.declared.ends.StretchesSoFar.{StretchesSoFar}
use Rattle.gptp_timeline.specs.declared.limits.Limits.{Limits}
use Rattle.gptp_timeline.specs.declared.timeline.TimelineOptions.{TimelineOptions}
use Rattle.gptp_timeline.proofs.EventLemmas.{due_all, may_before}
use Rattle.gptp_timeline.proofs.PassLemmas.{begun_is, memory_alone}
use Rattle.gptp_timeline.proofs.run_so_far.RunSoFar.new.Goals as goal

pub earlier_stretches-requires-clause-may : goal.earlier_stretches-requires-clause-may
earlier_stretches-requires-clause-may g c =
    let d = c.args.document.now in let early = c.requires.early in
    rw c.events.ensures (may_before c.args.at d.events c.in_ok-world.world.world_core
    c.well_formed-2.ensures.events.in_order c.well_formed-2.ensures.allowed c.in_ok-world.ensures.prompt
    (omega (arith, early)))

pub play-requires-clause-events : goal.play-requires-clause-events
play-requires-clause-events g c = c.in_ok-last.ensures.may.allowed

pub play-requires-clause-prompt : goal.play-requires-clause-prompt
play-requires-clause-prompt g c = c.in_ok-last.ensures.may.prompt

pub returns-in_err-watch-clause-memory : goal.returns-in_err-watch-clause-memory
returns-in_err-watch-clause-memory g c =
    let passed = err_from_is_err_and c.from_residual-in_err-watch.result c.from_residual-in_err-watch.ensures.1 in
    rw (passed.1 ∙ ap Err passed.2) refl

pub returns-in_err-write_start-clause-memory : goal.returns-in_err-write_start-clause-memory
returns-in_err-write_start-clause-memory g c =
    let passed = err_from_is_err_and c.from_residual-in_err-write_start.result
    c.from_residual-in_err-write_start.ensures.1 in
    rw (passed.1 ∙ ap Err passed.2) (memory_alone c.in_err-write_start.field-0.0
    (λ is. c.in_err-write_start.ensures.fails (ap Err is) refl))

pub returns-in_err-last-clause-memory : goal.returns-in_err-last-clause-memory
returns-in_err-last-clause-memory g c =
    let passed = err_from_is_err_and c.from_residual-in_err-last.result c.from_residual-in_err-last.ensures.1 in
    rw (passed.1 ∙ ap Err passed.2) (memory_alone c.in_err-last.field-0.0
    (λ is. c.in_err-last.ensures.fails (ap Err is) refl))

pub returns-in_err-play-clause-memory : goal.returns-in_err-play-clause-memory
returns-in_err-play-clause-memory g c =
    let passed = err_from_is_err_and c.from_residual-in_err-play.result c.from_residual-in_err-play.ensures.1 in
    rw (passed.1 ∙ ap Err passed.2) (memory_alone c.in_err-play.field-0.0
    (λ is. c.in_err-play.ensures.fails (ap Err is) refl))

pub returns-clause-run : goal.returns-clause-run
returns-clause-run g c =
    let answers = g.F.Fate.answers in let d = c.args.document.now in let at = c.args.at in
    let start = c.in_ok-world.world.world_core in let started = c.in_ok-world.world.fate in
    let options = summary_of c.args.times in let last = c.in_ok-last.last in let passed = c.in_ok-last.ensures.passed in
    let drawn = c.earlier_stretches.new.world.fate in let between = c.earlier_stretches.new.world.world_core in
    let o = c.earlier_stretches.new.watch in let played = c.in_ok-play.ensures.played in
    let options_are = c.summary_with-options.ensures.is in let asked = c.summary_with-options.result in
    let ending = standing last.from last.left.now drawn between o last.kept in
    let watch : c.write_start.new.watch ≡ watch_at_start options nobody_aside start =
    c.in_ok-write_start.ensures.sees
    ∙ ap (see_all (event_look 0) start) (c.in_ok-watch.ensures ∙ ap (λ a. watch_before asked a start) c.nobody.ensures)
    ∙ ap (λ k. watch_at_start k nobody_aside start) options_are in
    let begins =
    ap (λ (es : List Timed). standing 0 es started start c.write_start.new.watch c.none_kept.result) c.events.ensures
    ∙ ap (λ (v : WatchState). standing 0 d.events started start v c.none_kept.result) watch
    ∙ ap (λ (k : StretchesSoFar). standing 0 d.events started start (watch_at_start options nobody_aside start) k)
    c.none_kept.ensures in
    let limits : asked.limits ≡ no_limits = ap (λ (k : TimelineOptions). k.limits) options_are in
    record {
      early = c.requires.early;
      started = started;
      start = start;
      begun = c.in_ok-world.ensures.begun;
      count = passed.0;
      last = ending;
      lines = passed.1;
      earlier = subst (λ (l : Limits). EarlierAreSeen answers false d l passed.0
          (standing 0 d.events started start (watch_at_start options nobody_aside start) none_kept) ending passed.1)
          limits
          (subst (λ s. EarlierAreSeen answers false d asked.limits passed.0 s ending passed.1)
          begins passed.2);
      none_later = c.in_ok-last.ensures.last;
      acts = played.0;
      told = played.2.lines;
      courses = subst (λ es. Courses answers at es played.0 drawn c.play.new.world.fate between
          c.play.new.world.world_core) (due_all at last.left.now c.in_ok-last.ensures.may.due) played.1;
      tells = subst (λ (v : WatchState). Tells tells_changes played.0 v c.play.new.observer played.2.lines)
          c.begin-2.ensures played.2.are;
      asked_is = refl;
      events_are = ap length c.events-2.ensures;
      from_is = refl;
      begins_is = begun_is last.left.now c.is_empty.result c.is_empty.ensures;
    }

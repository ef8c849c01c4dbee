use Rattle.std.proofs.Common.{◌≡◌, ◌<◌, ◌≤◌, suc, [], ◌++◌, Some, length, nat_le, ◌∙◌, refl, subst, sym, arith}
use Rattle.std.specs.Io.KnownBytes.{Appends}
use Rattle.gptp_model.specs.Prompt.{AllDelaysFitIntervals, DelaysFitIntervals}
use Rattle.gptp_network.specs.Snapshot.{events_by}
use Rattle.gptp_scenario.specs.Allowed.{AreAllowed, IsAllowed}
use Rattle.gptp_scenario.specs.declared.change.Timed.{Timed}
use Rattle.gptp_sink.specs.Sink.{AppendsSome}
use Rattle.gptp_sink.proofs.SinkLemmas.{after_error, appends_both, appends_none, some_behind}
use Rattle.gptp_words.specs.Lines.{text_of}
use Rattle.gptp_world.proofs.FollowLemmas.{text_append}
use Rattle.gptp_timeline.specs.Passing.{first_time, standing, StretchIsSeen, StopsSeen}
use Rattle.gptp_timeline.specs.Timeline.{end_lines, is_begun, IsTimelinePlan, later_than, now_of}
use Rattle.gptp_timeline.proofs.EventLemmas.{ends_before, ends_in_time, ends_later, fewer_later, filter_each, may_next, none_left, now_by}
use Rattle.gptp_timeline.proofs.PassLemmas.{courses_stay, earlier_more, none_there}
use Rattle.gptp_timeline.proofs.timeline.earlier_stretches.Goals as goal

pub loop-to-init : goal.loop-to-init
loop-to-init g c = record {
  passed = (0, [], (refl, refl), appends_none (g.K.Sink.written c.args.sink.now));
  may = c.requires.may;
  works = refl;
}

-- ---- a stretch after which another comes

pub next_stretch-requires-clause-allowed : goal.next_stretch-requires-clause-allowed
next_stretch-requires-clause-allowed g c =
    subst AreAllowed (sym c.events_by-now.ensures)
    (filter_each IsAllowed (λ (e : Timed). nat_le e.at c.loop-to.from) c.loop-to.left.now
    c.loop-to.invariant.may.allowed)

pub next_stretch-requires-clause-prompt : goal.next_stretch-requires-clause-prompt
next_stretch-requires-clause-prompt g c =
    let w = c.loop-to.world.world_core in
    subst (AllDelaysFitIntervals w) (sym c.events_by-now.ensures)
    (filter_each (λ (e : Timed). DelaysFitIntervals w e.act)
    (λ (e : Timed). nat_le e.at c.loop-to.from) c.loop-to.left.now
    c.loop-to.invariant.may.prompt)

pub next_stretch-requires-clause-due : goal.next_stretch-requires-clause-due
next_stretch-requires-clause-due g c =
    let from = c.loop-to.from in let left = c.loop-to.left.now in
    let is : first_time (later_than from left) ≡ Some c.in-Some.to = sym c.next_time.ensures ∙ c.in-Some.is in
    subst (λ es. events_by c.in-Some.to es ≡ es) (sym c.events_by-now.ensures)
    (now_by from c.in-Some.to left (ends_later from c.in-Some.to left is))

pub next_stretch-requires-clause-moment : goal.next_stretch-requires-clause-moment
next_stretch-requires-clause-moment g c =
    let from = c.loop-to.from in let left = c.loop-to.left.now in let to = c.in-Some.to in
    let is : first_time (later_than from left) ≡ Some to = sym c.next_time.ensures ∙ c.in-Some.is in
    let early : to ≤ c.args.until = ends_in_time c.args.until from to left c.loop-to.world.world_core
    c.loop-to.invariant.may is
    in
    let moment = c.requires.moment in omega (arith, early, moment)

pub loop-to-preserved : goal.loop-to-preserved
loop-to-preserved g c =
    let answers = g.F.Fate.answers in let exact = c.args.exact in let d = c.args.document.now in
    let limits = c.args.limits.now in
    let begins = standing c.args.begins.from c.args.begins.left.now c.args.world.now.fate
    c.args.world.now.world_core c.args.watch.now c.args.begins.kept in
    let from = c.loop-to.from in let to = c.in-Some.to in let left = c.loop-to.left.now in
    let drawn = c.loop-to.world.fate in let between = c.loop-to.world.world_core in
    let next = c.next_stretch.new.world.fate in let after = c.next_stretch.new.world.world_core in
    let o = c.loop-to.watch in let o_after = c.next_stretch.new.watch in
    let old = g.K.Sink.written c.args.sink.now in let mid = g.K.Sink.written c.loop-to.sink in
    let new = g.K.Sink.written c.next_stretch.new.sink in
    let i = c.loop-to.invariant in let passed = c.in_ok-kept.ensures.passed in
    let is : first_time (later_than from left) ≡ Some to = sym c.next_time.ensures ∙ c.in-Some.is in
    let known = subst (λ es. IsTimelinePlan exact d from to (is_begun es) passed.0) c.events_by-now.ensures passed.2 in
    let seen = subst (λ es. StretchIsSeen answers passed.0 es drawn next between after o o_after passed.1)
    c.events_by-now.ensures passed.3 in
    let stays = courses_stay answers passed.0.to _ seen.acts drawn next between after
    c.well_formed-in-Some.ensures.sound.wired.setups seen.courses in
    let lines = i.passed.1 in let more = passed.1 ++ end_lines passed.0 after o_after in
    rw c.events_after-left.ensures (record {
      passed = (
        suc i.passed.0,
        lines ++ more,
        earlier_more answers exact d limits i.passed.0 begins (standing from left drawn between o c.loop-to.kept)
            (standing to (later_than from left) next after o_after c.in_ok-kept.kept) lines more i.passed.2 (record {
              left_is = refl;
              plan = passed.0;
              known = known;
              told = passed.1;
              seen = seen;
              kept_is = passed.4;
              are = refl;
            }) is,
        subst (Appends old new) (sym (text_append lines more))
            (appends_both old mid new (text_of lines) (text_of more) i.passed.3 passed.5),
      );
      may = may_next c.args.until from to left between after i.may stays is;
      works = c.in_ok-kept.ensures.works (λ no. absurd cc) ∙ i.works;
    })

pub loop-to-smaller : goal.loop-to-smaller
loop-to-smaller g c =
    let from = c.loop-to.from in let left = c.loop-to.left.now in let to = c.in-Some.to in
    let is : first_time (later_than from left) ≡ Some to = sym c.next_time.ensures ∙ c.in-Some.is in
    subst (λ es. length (later_than to es) < length (later_than from left)) (sym c.events_after-left.ensures)
    (fewer_later (later_than from left) to is)

pub returns-in_err-kept-clause-broken : goal.returns-in_err-kept-clause-broken
returns-in_err-kept-clause-broken g c =
    let answers = g.F.Fate.answers in let exact = c.args.exact in let d = c.args.document.now in
    let from = c.loop-to.from in let to = c.in-Some.to in
    let left = c.loop-to.left.now in let drawn = c.loop-to.world.fate in let between = c.loop-to.world.world_core in
    let o = c.loop-to.watch in let old = g.K.Sink.written c.args.sink.now in
    let mid = g.K.Sink.written c.loop-to.sink in let new = g.K.Sink.written c.next_stretch.new.sink in
    let broken = c.in_err-kept.ensures.broken in let i = c.loop-to.invariant in
    let is : first_time (later_than from left) ≡ Some to = sym c.next_time.ensures ∙ c.in-Some.is in
    let stops = subst (λ time. StopsSeen answers exact d from time (now_of from left) drawn between o broken.0)
    (sym (ends_before c.args.until (later_than from left) to is))
    (subst (λ es. StopsSeen answers exact d from to es drawn between o broken.0) c.events_by-now.ensures broken.1) in
    after_error c.from_residual.result (
      i.passed.1 ++ broken.0,
      record {
        count = i.passed.0;
        last = standing from left drawn between o c.loop-to.kept;
        before = i.passed.1;
        more = broken.0;
        earlier = i.passed.2;
        stops = stops;
        are = refl;
      },
      subst (AppendsSome old new) (sym (text_append i.passed.1 broken.0))
          (some_behind old mid new (text_of i.passed.1) (text_of broken.0) i.passed.3 broken.2),
    )

-- ---- none comes after

pub returns-clause-last : goal.returns-clause-last
returns-clause-last g c =
    none_left (later_than c.loop-to.from c.loop-to.left.now)
    (sym c.next_time.ensures ∙ none_there c.next_time.result c.in_default.not-Some)

use Rattle.std.proofs.Common.{◌≡◌, ◌++◌, refl, ap, subst, sym}
use Rattle.std.specs.Io.KnownBytes.{Appends}
use Rattle.std.proofs.lemmas.Result.{IfOk-weaker, on_err_weaker}
use Rattle.gptp_network.specs.Snapshot.{events_by}
use Rattle.gptp_sink.specs.Sink.{AppendsSome}
use Rattle.gptp_sink.proofs.SinkLemmas.{after_error, appends_both, some_behind}
use Rattle.gptp_words.specs.Lines.{text_of}
use Rattle.gptp_world.proofs.FollowLemmas.{text_append}
use Rattle.gptp_timeline.specs.Passing.{standing, StretchIsSeen, StopsSeen}
use Rattle.gptp_timeline.specs.Timeline.{end_before, end_lines, is_begun, IsTimelinePlan, now_of}
use Rattle.gptp_timeline.proofs.EventLemmas.{all_now, now_by}
use Rattle.gptp_timeline.proofs.timeline.stretches_from.Goals as goal

pub next_stretch-requires-clause-due : goal.next_stretch-requires-clause-due
next_stretch-requires-clause-due g c =
    let last = c.in_ok-last.last in let none = c.in_ok-last.ensures.last in
    subst (λ es. events_by c.args.until es ≡ es) (all_now last.from last.left.now none)
    (now_by last.from c.args.until last.left.now c.in_ok-last.ensures.may.within)

pub returns-in_err-last-clause-broken : goal.returns-in_err-last-clause-broken
returns-in_err-last-clause-broken g c = after_error c.from_residual.result c.in_err-last.ensures.broken

pub returns-clause-passed : goal.returns-clause-passed
returns-clause-passed g c =
    let answers = g.F.Fate.answers in let exact = c.args.exact in let d = c.args.document.now in
    let last = c.in_ok-last.last in let before = c.in_ok-last.ensures.passed in
    let drawn = c.earlier_stretches.new.world.fate in let between = c.earlier_stretches.new.world.world_core in
    let o = c.earlier_stretches.new.watch in let next = c.next_stretch.new.world.fate in
    let after = c.next_stretch.new.world.world_core in let o_after = c.next_stretch.new.watch in
    let old = g.K.Sink.written c.args.sink.now in let mid = g.K.Sink.written c.earlier_stretches.new.sink in
    let new = g.K.Sink.written c.next_stretch.new.sink in
    let all = sym (all_now last.from last.left.now c.in_ok-last.ensures.last) in
    IfOk-weaker c.next_stretch.result _ _ (λ kept passed.
    let lines = before.1 in let more = passed.1 ++ end_lines passed.0 after o_after in (
      lines ++ more,
      record {
        count = before.0;
        last = standing last.from last.left.now drawn between o last.kept;
        before = lines;
        more = more;
        earlier = before.2;
        final = record {
          left_is = sym c.in_ok-last.ensures.last;
          plan = passed.0;
          known = subst (λ es. IsTimelinePlan exact d last.from c.args.until (is_begun es) passed.0) all passed.2;
          told = passed.1;
          seen = subst (λ es. StretchIsSeen answers passed.0 es drawn next between after o o_after passed.1) all
              passed.3;
          kept_is = passed.4;
          are = refl;
        };
        none_left = refl;
        are = refl;
      },
      subst (Appends old new) (sym (text_append lines more))
          (appends_both old mid new (text_of lines) (text_of more) before.3 passed.5),
    )) c.next_stretch.ensures.passed

pub returns-clause-broken : goal.returns-clause-broken
returns-clause-broken g c =
    let answers = g.F.Fate.answers in let exact = c.args.exact in let d = c.args.document.now in
    let last = c.in_ok-last.last in let before = c.in_ok-last.ensures.passed in
    let drawn = c.earlier_stretches.new.world.fate in let between = c.earlier_stretches.new.world.world_core in
    let o = c.earlier_stretches.new.watch in
    let old = g.K.Sink.written c.args.sink.now in let mid = g.K.Sink.written c.earlier_stretches.new.sink in
    let new = g.K.Sink.written c.next_stretch.new.sink in let none = c.in_ok-last.ensures.last in
    on_err_weaker c.next_stretch.result (λ broken. (
      before.1 ++ broken.0,
      record {
        count = before.0;
        last = standing last.from last.left.now drawn between o last.kept;
        before = before.1;
        more = broken.0;
        earlier = before.2;
        stops = subst (λ to. StopsSeen answers exact d last.from to (now_of last.from last.left.now) drawn between o
            broken.0) (sym (ap (end_before c.args.until) none))
            (subst (λ es. StopsSeen answers exact d last.from c.args.until es drawn between o broken.0)
            (sym (all_now last.from last.left.now none)) broken.1);
        are = refl;
      },
      subst (AppendsSome old new) (sym (text_append before.1 broken.0))
          (some_behind old mid new (text_of before.1) (text_of broken.0) before.3 broken.2),
    )) c.next_stretch.ensures.broken

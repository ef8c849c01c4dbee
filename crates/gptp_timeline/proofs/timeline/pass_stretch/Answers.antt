use Rattle.std.proofs.Common.{◌++◌, length, ap, ◌∙◌, inl, inr, refl, sym, subst}
use Rattle.std.specs.Io.KnownBytes.{Appends}
use Rattle.gptp_sink.specs.Sink.{AppendsSome}
use Rattle.gptp_world.proofs.FollowLemmas.{text_append}
use Rattle.gptp_sink.proofs.SinkLemmas.{after_error, appends_both, some_behind}
use Rattle.gptp_words.specs.Lines.{text_of}
use Rattle.gptp_timeline.specs.Timeline.{end_lines}
use Rattle.gptp_timeline.specs.Watch.{watch_begun}
use Rattle.gptp_timeline.proofs.PassLemmas.{if_ok_both, sees_all, sees_some}
use Rattle.gptp_timeline.proofs.timeline.pass_stretch.Goals as goal

-- it broke off among the acts
pub returns-in_err-play-clause-broken : goal.returns-in_err-play-clause-broken
returns-in_err-play-clause-broken g c =
    let broken = c.in_err-play.ensures.broken in
    let old = g.K.Sink.written c.args.sink.now in let new = g.K.Sink.written c.play.new.sink in
    let began = c.begin.ensures
    ∙ ap (λ from. watch_begun c.args.plan.now.from from (length c.args.events.now) c.args.watch.now) c.exact_time.ensures in
    after_error c.from_residual.result (
      broken.3.lines,
      inl (sees_some g.F.Fate.answers c.args.plan.now c.args.events.now c.args.world.now.fate
          c.args.world.now.world_core
          c.args.watch.now c.begin.new.self began c.requires.due broken.0 broken.1 (AppendsSome old new) broken.3
          broken.2),
      broken.3.so,
    )

-- where it ended
pub returns-clause-broken : goal.returns-clause-broken
returns-clause-broken g c =
    let played = c.in_ok-play.ensures.played in
    let old = g.K.Sink.written c.args.sink.now in let between = g.K.Sink.written c.play.new.sink in
    let new = g.K.Sink.written c.end_stretch.new.sink in
    let began = c.begin.ensures
    ∙ ap (λ from. watch_begun c.args.plan.now.from from (length c.args.events.now) c.args.watch.now) c.exact_time.ensures in
    let told = played.2.lines in let ends = end_lines c.args.plan.now c.play.new.world.world_core c.play.new.observer in
    after_error c.end_stretch.result (
      told ++ ends,
      inr (record {
        fate_after = c.play.new.world.fate;
        after = c.play.new.world.world_core;
        o_after = c.play.new.observer;
        told = told;
        seen = sees_all g.F.Fate.answers c.args.plan.now c.args.events.now c.args.world.now.fate
            c.args.world.now.world_core c.args.watch.now c.begin.new.self began c.requires.due played.0
            c.play.new.observer
            (Appends old between) played.2 c.play.new.world.fate c.play.new.world.world_core played.1;
        are = refl;
      }),
      subst (AppendsSome old new) (sym (text_append told ends))
          (some_behind old between new (text_of told) (text_of ends) played.2.so c.end_stretch.ensures.some),
    )

pub returns-clause-passed : goal.returns-clause-passed
returns-clause-passed g c =
    if_ok_both c.end_stretch.result _ _ _ (λ stretch is whole.
    let played = c.in_ok-play.ensures.played in
    let old = g.K.Sink.written c.args.sink.now in let between = g.K.Sink.written c.play.new.sink in
    let new = g.K.Sink.written c.end_stretch.new.sink in
    let began = c.begin.ensures
    ∙ ap (λ from. watch_begun c.args.plan.now.from from (length c.args.events.now) c.args.watch.now) c.exact_time.ensures in
    let told = played.2.lines in
    let ends = end_lines c.args.plan.now c.play.new.world.world_core c.play.new.observer in (
      told,
      sees_all g.F.Fate.answers c.args.plan.now c.args.events.now c.args.world.now.fate c.args.world.now.world_core
          c.args.watch.now c.begin.new.self began c.requires.due played.0 c.play.new.observer (Appends old between)
          played.2 c.play.new.world.fate c.play.new.world.world_core played.1,
      is,
      subst (Appends old new) (sym (text_append told ends))
          (appends_both old between new (text_of told) (text_of ends) played.2.so whole),
    )) c.end_stretch.ensures.end c.end_stretch.ensures.whole

use Rattle.std.proofs.Common.{◌≡◌, ℕ, Option, ap, subst, ◌∙◌}
use Rattle.gptp_model.specs.World.{WorldState}
use Rattle.gptp_timeline.specs.TimeWatch.{TimeState}
use Rattle.gptp_timeline.specs.Timeline.{asks_lines, times_ended}
use Rattle.gptp_timeline.specs.declared.looks.TimeMeasures.{TimeMeasures}
use Rattle.std.specs.Io.KnownBytes.{Appends}
use Rattle.gptp_sink.specs.Sink.{AppendsSome}
use Rattle.gptp_sink.proofs.SinkLemmas.{all_of, front_of}
use Rattle.gptp_timeline.proofs.PassLemmas.{end_made, end_text}
use Rattle.gptp_timeline.proofs.timeline.end_stretch.Goals as goal

times_are : (to : ℕ) (w : WorldState) (measured : Option TimeMeasures) (lent kept : Option TimeState)
    → measured ≡ times_ended to w lent → lent ≡ kept → measured ≡ times_ended to w kept
times_are to w measured lent kept is same = is ∙ ap (times_ended to w) same

pub returns-in_err-write_whole-clause-some : goal.returns-in_err-write_whole-clause-some
returns-in_err-write_whole-clause-some g c =
    let old = g.K.Sink.written c.args.sink.now in let new = g.K.Sink.written c.write_whole.new.sink in
    subst (AppendsSome old new)
    (end_text c.args.plan.now c.args.world.now.world_core c.args.watch.now c.in_ok-stretch.stretch c.measures.result
    c.systems.result.now c.times_ended.result c.in_ok-stretch.ensures c.measures.ensures c.systems.ensures.are
    (times_are c.args.plan.now.to c.args.world.now.world_core _ _ _ c.times_ended.ensures c.times.ensures)
    c.asks_lines.result _ _ _ _ c.as_bytes.result.now (c.asks_lines.ensures ∙ ap asks_lines c.times-2.ensures)
    c.new-text.ensures.bytes c.in_ok-write_after.ensures c.in_ok-write_times_if.ensures c.in_ok-write_errors.ensures
    c.as_bytes.ensures.value)
    (front_of old new c.as_bytes.result.now c.in_err-write_whole.ensures.front)

pub returns-clause-some : goal.returns-clause-some
returns-clause-some g c =
    let old = g.K.Sink.written c.args.sink.now in let new = g.K.Sink.written c.write_whole.new.sink in
    subst (AppendsSome old new)
    (end_text c.args.plan.now c.args.world.now.world_core c.args.watch.now c.in_ok-stretch.stretch c.measures.result
    c.systems.result.now c.times_ended.result c.in_ok-stretch.ensures c.measures.ensures c.systems.ensures.are
    (times_are c.args.plan.now.to c.args.world.now.world_core _ _ _ c.times_ended.ensures c.times.ensures)
    c.asks_lines.result _ _ _ _ c.as_bytes.result.now (c.asks_lines.ensures ∙ ap asks_lines c.times-2.ensures)
    c.new-text.ensures.bytes c.in_ok-write_after.ensures c.in_ok-write_times_if.ensures c.in_ok-write_errors.ensures
    c.as_bytes.ensures.value)
    (all_of old new c.as_bytes.result.now c.in_ok-write_whole.ensures.whole)

pub returns-clause-end : goal.returns-clause-end
returns-clause-end g c =
    end_made c.args.plan.now c.args.world.now.world_core c.args.watch.now c.in_ok-stretch.stretch c.measures.result
    c.systems.result.now c.times_ended.result c.in_ok-stretch.ensures c.measures.ensures c.systems.ensures.are
    (times_are c.args.plan.now.to c.args.world.now.world_core _ _ _ c.times_ended.ensures c.times.ensures)
    c.systems-2.result.now c.systems-3.result.now c.in_ok-roots.roots.items c.in_ok-keepers.keepers.items c.new.result
    c.in_ok-roots.ensures c.systems-2.ensures.are c.in_ok-keepers.ensures c.systems-3.ensures.are c.new.ensures

pub returns-clause-whole : goal.returns-clause-whole
returns-clause-whole g c =
    let old = g.K.Sink.written c.args.sink.now in let new = g.K.Sink.written c.write_whole.new.sink in
    subst (Appends old new)
    (end_text c.args.plan.now c.args.world.now.world_core c.args.watch.now c.in_ok-stretch.stretch c.measures.result
    c.systems.result.now c.times_ended.result c.in_ok-stretch.ensures c.measures.ensures c.systems.ensures.are
    (times_are c.args.plan.now.to c.args.world.now.world_core _ _ _ c.times_ended.ensures c.times.ensures)
    c.asks_lines.result _ _ _ _ c.as_bytes.result.now (c.asks_lines.ensures ∙ ap asks_lines c.times-2.ensures)
    c.new-text.ensures.bytes c.in_ok-write_after.ensures c.in_ok-write_times_if.ensures c.in_ok-write_errors.ensures
    c.as_bytes.ensures.value)
    c.in_ok-write_whole.ensures.whole

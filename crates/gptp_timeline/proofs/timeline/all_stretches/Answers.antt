use Rattle.std.proofs.Common.{[], refl, subst, sym}
use Rattle.std.specs.Io.KnownBytes.{Appends}
use Rattle.std.proofs.lemmas.Result.{IfOk-weaker, on_err_weaker}
use Rattle.gptp_model.specs.Views.{rising_clocks}
use Rattle.gptp_network.specs.Snapshot.{events_by}
use Rattle.gptp_sink.specs.Sink.{AppendsSome}
use Rattle.gptp_words.specs.Lines.{text_of}
use Rattle.gptp_timeline.specs.LastStretches.{first_aside, none_kept}
use Rattle.gptp_timeline.specs.Passing.{aside_kept, standing, watch_before}
use Rattle.gptp_timeline.specs.Timeline.{tracks}
use Rattle.gptp_timeline.proofs.EventLemmas.{may_begin}
use Rattle.gptp_timeline.proofs.ObservedLemmas.{Rests, start_rests}
use Rattle.gptp_timeline.proofs.PassLemmas.{all_seen, stops_seen}
use Rattle.gptp_timeline.proofs.timeline.all_stretches.Goals as goal

pub stretches_from-requires-clause-may : goal.stretches_from-requires-clause-may
stretches_from-requires-clause-may g c =
    let d = c.args.document.now in
    rw (c.events_by.ensures, c.events.ensures) (may_begin c.args.until d.events c.args.world.now.world_core
    c.well_formed-2.ensures.events.in_order c.well_formed-2.ensures.allowed c.requires.prompt)

pub returns-clause-passed : goal.returns-clause-passed
returns-clause-passed g c =
    let answers = g.F.Fate.answers in let exact = c.args.exact in let d = c.args.document.now in
    let until = c.args.until in let options = c.args.options.now in
    let fate = c.args.world.now.fate in let w = c.args.world.now.world_core in let o = c.args.watch.now in
    let names = rising_clocks w in let a = aside_kept o in let events = events_by until d.events in
    let next = c.stretches_from.new.world.fate in let after = c.stretches_from.new.world.world_core in
    let o_after = c.stretches_from.new.watch in
    let old = g.K.Sink.written c.args.sink.now in let new = g.K.Sink.written c.stretches_from.new.sink in
    let first = first_aside (tracks options) a names in
    let rests = subst (Rests options names first w) (sym c.requires.starts)
    (start_rests answers d.network c.requires.begun.0 fate options a w (watch_before options a w) c.requires.begun.1
    c.well_formed-3.ensures.sound refl) in
    let begins = standing 0 events fate w o none_kept in
    IfOk-weaker c.stretches_from.result _ _ (λ kept passed.
    let seen = rw (c.events_by.ensures, c.events.ensures, c.none_kept.ensures) at passed.1 in
    let all = all_seen answers exact d until options names begins first (standing until [] next after o_after kept)
    passed.0 rests seen refl in (
      all.passages,
      all.pass,
      all.verdict_is,
      λ nobody. subst (λ ls. Appends old new (text_of ls)) (all.are nobody) passed.2,
    )) c.stretches_from.ensures.passed

pub returns-clause-broken : goal.returns-clause-broken
returns-clause-broken g c =
    let answers = g.F.Fate.answers in let exact = c.args.exact in let d = c.args.document.now in
    let until = c.args.until in let options = c.args.options.now in
    let fate = c.args.world.now.fate in let w = c.args.world.now.world_core in let o = c.args.watch.now in
    let names = rising_clocks w in let a = aside_kept o in let events = events_by until d.events in
    let old = g.K.Sink.written c.args.sink.now in let new = g.K.Sink.written c.stretches_from.new.sink in
    let first = first_aside (tracks options) a names in
    let rests = subst (Rests options names first w) (sym c.requires.starts)
    (start_rests answers d.network c.requires.begun.0 fate options a w (watch_before options a w) c.requires.begun.1
    c.well_formed-3.ensures.sound refl) in
    on_err_weaker c.stretches_from.result (λ broken.
    let stops = rw (c.events_by.ensures, c.events.ensures, c.none_kept.ensures) at broken.1 in
    let some = stops_seen answers exact d until options names (standing 0 events fate w o none_kept) first broken.0
    rests stops in (
      some.passages,
      some.acts,
      some.pass,
      λ nobody. subst (λ ls. AppendsSome old new (text_of ls)) (some.are nobody) broken.2,
    )) c.stretches_from.ensures.broken

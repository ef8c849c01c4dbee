use Rattle.std.proofs.Common.{subst}
use Rattle.gptp_sink.specs.Sink.{AppendsSome}
use Rattle.gptp_sink.proofs.SinkLemmas.{all_of, front_of}
use Rattle.gptp_timeline.proofs.PassLemmas.{appended_text}
use Rattle.gptp_timeline.proofs.timeline.write_start.Goals as goal

pub returns-in_err-write_whole-clause-some : goal.returns-in_err-write_whole-clause-some
returns-in_err-write_whole-clause-some g c =
    let old = g.K.Sink.written c.args.sink.now in let new = g.K.Sink.written c.write_whole.new.sink in
    subst (AppendsSome old new)
    (appended_text _ _ c.as_bytes.result.now _ c.new-text.ensures.bytes c.in_ok-see_start.ensures.tells
    c.as_bytes.ensures.value)
    (front_of old new c.as_bytes.result.now c.in_err-write_whole.ensures.front)

pub returns-clause-some : goal.returns-clause-some
returns-clause-some g c =
    let old = g.K.Sink.written c.args.sink.now in let new = g.K.Sink.written c.write_whole.new.sink in
    subst (AppendsSome old new)
    (appended_text _ _ c.as_bytes.result.now _ c.new-text.ensures.bytes c.in_ok-see_start.ensures.tells
    c.as_bytes.ensures.value)
    (all_of old new c.as_bytes.result.now c.in_ok-write_whole.ensures.whole)

use Rattle.std.proofs.Common.{◌≡◌, ◌∷◌, ◌++◌, [], ap, subst, ◌∙◌}
use Rattle.std.specs.Io.KnownBytes.{Appends}
use Rattle.gptp_words.specs.Lines.{text_of}
use Rattle.gptp_report.specs.FrameLine.{frame_line}
use Rattle.gptp_sink.specs.Sink.{AppendsSome}
use Rattle.gptp_report.proofs.LineLemmas.{line_alone}
use Rattle.gptp_sink.proofs.SinkLemmas.{all_of, front_of, none_of}
use Rattle.gptp_report.proofs.frame_line.write_frame_line.Goals as goal

pub returns-in_err-write-clause-some : goal.returns-in_err-write-clause-some
returns-in_err-write-clause-some g c =
    let line = frame_line c.args.at c.args.clock c.args.port c.type_of-kind.result c.args.answer c.args.frame.now.items in
    (c.type_of-kind.result, c.type_of-kind.ensures, none_of (g.K.Sink.written c.args.sink.now) (text_of (line ∷ [])))

pub returns-in_err-append_frame_line-clause-some : goal.returns-in_err-append_frame_line-clause-some
returns-in_err-append_frame_line-clause-some g c =
    let line = frame_line c.args.at c.args.clock c.args.port c.type_of-kind.result c.args.answer c.args.frame.now.items in
    (c.type_of-kind.result, c.type_of-kind.ensures, none_of (g.K.Sink.written c.args.sink.now) (text_of (line ∷ [])))

pub returns-in_err-write_whole-clause-some : goal.returns-in_err-write_whole-clause-some
returns-in_err-write_whole-clause-some g c =
    let old = g.K.Sink.written c.args.sink.now in let new = g.K.Sink.written c.write_whole.new.sink in
    let line = frame_line c.args.at c.args.clock c.args.port c.type_of-kind.result c.args.answer c.args.frame.now.items in
    let octets : c.deref.result.now ≡ c.args.frame.now.items =
    c.deref.ensures.value ∙ c.in_ok-write.ensures.ok
    ∙ ap (λ written. written ++ c.args.frame.now.items) c.new-octets.ensures.items in
    let text : c.as_bytes.result.now ≡ text_of (line ∷ []) =
    c.as_bytes.ensures.value
    ∙ line_alone line _ _ c.new-line.ensures.bytes (rw octets at c.in_ok-append_frame_line.ensures) in (
      c.type_of-kind.result,
      c.type_of-kind.ensures,
      subst (AppendsSome old new) text (front_of old new c.as_bytes.result.now c.in_err-write_whole.ensures.front),
    )

pub returns-clause-some : goal.returns-clause-some
returns-clause-some g c =
    let old = g.K.Sink.written c.args.sink.now in let new = g.K.Sink.written c.write_whole.new.sink in
    let line = frame_line c.args.at c.args.clock c.args.port c.type_of-kind.result c.args.answer c.args.frame.now.items in
    let octets : c.deref.result.now ≡ c.args.frame.now.items =
    c.deref.ensures.value ∙ c.in_ok-write.ensures.ok
    ∙ ap (λ written. written ++ c.args.frame.now.items) c.new-octets.ensures.items in
    let text : c.as_bytes.result.now ≡ text_of (line ∷ []) =
    c.as_bytes.ensures.value
    ∙ line_alone line _ _ c.new-line.ensures.bytes (rw octets at c.in_ok-append_frame_line.ensures) in (
      c.type_of-kind.result,
      c.type_of-kind.ensures,
      subst (AppendsSome old new) text (all_of old new c.as_bytes.result.now c.in_ok-write_whole.ensures.whole),
    )

pub returns-clause-whole : goal.returns-clause-whole
returns-clause-whole g c =
    let old = g.K.Sink.written c.args.sink.now in let new = g.K.Sink.written c.write_whole.new.sink in
    let line = frame_line c.args.at c.args.clock c.args.port c.type_of-kind.result c.args.answer c.args.frame.now.items in
    let octets : c.deref.result.now ≡ c.args.frame.now.items =
    c.deref.ensures.value ∙ c.in_ok-write.ensures.ok
    ∙ ap (λ written. written ++ c.args.frame.now.items) c.new-octets.ensures.items in
    let text : c.as_bytes.result.now ≡ text_of (line ∷ []) =
    c.as_bytes.ensures.value
    ∙ line_alone line _ _ c.new-line.ensures.bytes (rw octets at c.in_ok-append_frame_line.ensures) in (
      c.type_of-kind.result,
      c.type_of-kind.ensures,
      subst (Appends old new) text c.in_ok-write_whole.ensures.whole,
    )

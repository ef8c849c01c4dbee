use Rattle.std.proofs.Common.{◌≡◌, [], ◌++◌, inl, inr, refl, ap, subst, ◌∙◌}
use Rattle.std.specs.Io.KnownBytes.{Appends}
use Rattle.gptp_words.specs.Lines.{text_of}
use Rattle.gptp_sink.specs.Sink.{AppendsSome}
use Rattle.gptp_sink.proofs.SinkLemmas.{after_error, front_of, none_of}
use Rattle.gptp_commands.proofs.run.write_all.Goals as goal

-- nothing was written
pub returns-in_err-write_report-clause-some : goal.returns-in_err-write_report-clause-some
returns-in_err-write_report-clause-some g c =
    after_error c.from_residual.result ([], inl refl, none_of (g.K.Sink.written c.args.sink.now) [])

pub returns-in_err-write_whole-clause-some : goal.returns-in_err-write_whole-clause-some
returns-in_err-write_whole-clause-some g c =
    let told = c.in_ok-write_report.ensures in
    let old = g.K.Sink.written c.args.sink.now in let new = g.K.Sink.written c.write_whole.new.sink in
    let text : c.as_bytes.result.now ≡ text_of told.0 =
    c.as_bytes.ensures.value ∙ told.2 ∙ ap (λ t. t ++ text_of told.0) c.new-text.ensures.bytes in
    after_error c.from_residual-in_err-write_whole.result (
      told.0,
      inr told.1,
      subst (AppendsSome old new) text (front_of old new c.as_bytes.result.now c.in_err-write_whole.ensures.front),
    )

pub returns-clause-whole : goal.returns-clause-whole
returns-clause-whole g c =
    let told = c.in_ok-write_report.ensures in
    let text : c.as_bytes.result.now ≡ text_of told.0 =
    c.as_bytes.ensures.value ∙ told.2 ∙ ap (λ t. t ++ text_of told.0) c.new-text.ensures.bytes in (
      told.0,
      told.1,
      subst (Appends (g.K.Sink.written c.args.sink.now) (g.K.Sink.written c.write_whole.new.sink)) text
          c.in_ok-write_whole.ensures.whole,
    )

use Rattle.std.proofs.Common.{inr}
use Rattle.std.specs.Io.KnownBytes.{Appends}
use Rattle.gptp_network.specs.declared.fault.DocumentFault.TheVariants.{TooMany}
use Rattle.gptp_commands.specs.FaultsText.{AnswersFaults}
use Rattle.gptp_commands.specs.Documents.{document_limit, RefusesFault}
use Rattle.gptp_sink.specs.Sink.{AppendsFront}
use Rattle.gptp_commands.proofs.LimitedLemmas.{text_holds}
use Rattle.gptp_commands.proofs.faults.faults.Goals as goal

pub returns-clause-done : goal.returns-clause-done
returns-clause-done g c =
    text_holds document_limit (AnswersFaults c.args.options.now) (RefusesFault TooMany) _ _ c.in_ok-input.input.items
    c.in_ok-output.output.text.items
    c.in_ok-output.output.status
    (λ text. Appends (g.K.Sink.written c.args.sink.now) (g.K.Sink.written c.write_whole.new.sink) text)
    c.in_ok-input.ensures.whole (rw c.deref.ensures.value at c.in_ok-output.ensures.text)
    (rw c.deref-2.ensures.value at c.in_ok-write_whole.ensures.whole)

pub returns-in_err-write_whole-clause-front : goal.returns-in_err-write_whole-clause-front
returns-in_err-write_whole-clause-front g c failed = inr (
  c.in_ok-output.output.status,
  text_holds document_limit (AnswersFaults c.args.options.now) (RefusesFault TooMany) _ _ c.in_ok-input.input.items
      c.in_ok-output.output.text.items
      c.in_ok-output.output.status
      (λ text. AppendsFront (g.K.Sink.written c.args.sink.now) (g.K.Sink.written c.write_whole.new.sink) text)
      c.in_ok-input.ensures.whole (rw c.deref.ensures.value at c.in_ok-output.ensures.text)
      (rw c.deref-2.ensures.value at c.in_err-write_whole.ensures.front),
)

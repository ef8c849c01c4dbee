use Rattle.std.proofs.Common.{◌≢◌}
use Rattle.gptp_sink.proofs.SinkLemmas.{after_error}
use Rattle.gptp_network.specs.declared.fault.DocumentFault.TheVariants.{TooMany}
use Rattle.gptp_commands.specs.declared.failure.SimError.TheVariants.{Read}
use Rattle.gptp_commands.specs.Documents.{document_limit, Answers, AnswersSoFar, RefusesFault}
use Rattle.gptp_commands.proofs.LimitedLemmas.{if_error, none_holds, some_holds, writes_holds}
use Rattle.gptp_commands.proofs.documents.tell_of_document.Goals as goal

-- nothing was written
pub returns-in_err-input-clause-front : goal.returns-in_err-input-clause-front
returns-in_err-input-clause-front g c =
    if_error _ (λ e. e ≢ Read) c.from_residual.result (after_error c.from_residual.result
    (none_holds document_limit (Answers (g.C.DocumentCommand.tells c.args.command.now)) (RefusesFault TooMany)
    (AnswersSoFar (g.C.DocumentCommand.tells_so_far c.args.command.now)) (g.S.Source.left c.args.source.now)
    (g.K.Sink.written c.args.sink.now)))

pub returns-in-Ok-clause-done : goal.returns-in-Ok-clause-done
returns-in-Ok-clause-done g c =
    writes_holds document_limit (Answers (g.C.DocumentCommand.tells c.args.command.now)) (RefusesFault TooMany)
    (g.S.Source.left c.args.source.now) _ c.in_ok-input.input.items (g.K.Sink.written c.args.sink.now)
    (g.K.Sink.written c.tell_input.new.sink) c.in-Ok.status c.in_ok-input.ensures.whole
    (rw c.deref.ensures.value at c.in-Ok.ensures.whole)

pub returns-in-Err-Memory-clause-front : goal.returns-in-Err-Memory-clause-front
returns-in-Err-Memory-clause-front g c = λ known.
    some_holds document_limit (Answers (g.C.DocumentCommand.tells c.args.command.now)) (RefusesFault TooMany)
    (AnswersSoFar (g.C.DocumentCommand.tells_so_far c.args.command.now)) (g.S.Source.left c.args.source.now) _
    c.in_ok-input.input.items (g.K.Sink.written c.args.sink.now) (g.K.Sink.written c.tell_input.new.sink)
    c.in_ok-input.ensures.whole (rw c.deref.ensures.value at c.in-Err-Memory.ensures.some)

pub returns-clause-front : goal.returns-clause-front
returns-clause-front g c = λ known.
    some_holds document_limit (Answers (g.C.DocumentCommand.tells c.args.command.now)) (RefusesFault TooMany)
    (AnswersSoFar (g.C.DocumentCommand.tells_so_far c.args.command.now)) (g.S.Source.left c.args.source.now) _
    c.in_ok-input.input.items (g.K.Sink.written c.args.sink.now) (g.K.Sink.written c.tell_input.new.sink)
    c.in_ok-input.ensures.whole (rw c.deref.ensures.value at c.in-Err-Write.ensures.some)

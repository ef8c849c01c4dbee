use Rattle.std.proofs.Common.{◌≡◌, false, nat_le, length, inr}
use Rattle.std.proofs.lemmas.Bool.{lt-leb}
use Rattle.std.proofs.lemmas.Result.{on_err_weaker}
use Rattle.gptp_sink.proofs.SinkLemmas.{after_error}
use Rattle.gptp_commands.specs.declared.failure.Status.TheVariants.{Refused}
use Rattle.gptp_commands.specs.Documents.{document_limit}
use Rattle.gptp_commands.proofs.DocumentLemmas.{begins_within}
use Rattle.gptp_commands.proofs.documents.tell_input.Goals as goal

pub returns-then-input-le-DOCUMENT_LIMIT-clause-some : goal.returns-then-input-le-DOCUMENT_LIMIT-clause-some
returns-then-input-le-DOCUMENT_LIMIT-clause-some g c = on_err_weaker c.tell_document.result
    (begins_within (g.C.DocumentCommand.tells c.args.command.now)
    (g.C.DocumentCommand.tells_so_far c.args.command.now) c.args.input.now c.if-input-le-DOCUMENT_LIMIT.true
    (g.K.Sink.written c.args.sink.now) (g.K.Sink.written c.tell_document.new.sink)) c.tell_document.ensures.some

pub returns-clause-some : goal.returns-clause-some
returns-clause-some g c =
    let long : nat_le (length c.args.input.now) document_limit ≡ false =
    lt-leb (length c.args.input.now) document_limit c.if-input-le-DOCUMENT_LIMIT.false in
    let refused = c.write_refusal.ensures.some in
    after_error c.write_refusal.result (refused.0, inr (inr (Refused, rw long refused.1)), refused.2)

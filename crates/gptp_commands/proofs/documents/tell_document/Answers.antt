use Rattle.std.proofs.Common.{inl, inr, rules}
use Rattle.std.proofs.lemmas.Result.{on_err_weaker}
use Rattle.gptp_network.specs.Document.{Fails}
use Rattle.gptp_sink.proofs.SinkLemmas.{after_error}
use Rattle.gptp_commands.specs.declared.failure.Status.TheVariants.{Refused}
use Rattle.gptp_commands.proofs.DocumentLemmas.{answers_some}
use Rattle.gptp_commands.proofs.RunLemmas.{if_ok_more}
use Rattle.gptp_commands.proofs.documents.tell_document.Goals as goal

pub returns-in-Ok-clause-some : goal.returns-in-Ok-clause-some
returns-in-Ok-clause-some g c = on_err_weaker c.tell.result
    (answers_some (g.C.DocumentCommand.tells c.args.command.now)
    (g.C.DocumentCommand.tells_so_far c.args.command.now) c.args.input.now c.in-Ok.document
    c.in-Ok.ensures.document (g.K.Sink.written c.args.sink.now) (g.K.Sink.written c.tell.new.sink))
    c.tell.ensures.some

pub returns-in-Ok-clause-whole : goal.returns-in-Ok-clause-whole
returns-in-Ok-clause-whole g c =
    if_ok_more _ _ (λ status told. (told.0, inl (c.in-Ok.document, c.in-Ok.ensures.document, told.1), told.2))
    c.tell.result c.tell.ensures.whole

pub returns-in-Err-clause-some : goal.returns-in-Err-clause-some
returns-in-Err-clause-some g c =
    let fails : Fails c.args.input.now c.in-Err.fault = search rules in
    let refused = c.write_refusal.ensures.some in
    after_error c.write_refusal.result
    (refused.0, inr (inr (Refused, inr (c.in-Err.fault, fails, refused.1))), refused.2)

pub returns-in-Err-clause-whole : goal.returns-in-Err-clause-whole
returns-in-Err-clause-whole g c =
    let fails : Fails c.args.input.now c.in-Err.fault = search rules in
    if_ok_more _ _ (λ status refused. (refused.0, inr (c.in-Err.fault, fails, refused.1), refused.2))
    c.write_refusal.result c.write_refusal.ensures.whole

use Rattle.std.proofs.Common.{◌≢◌}
use Rattle.gptp_sink.proofs.SinkLemmas.{after_error}
use Rattle.std.proofs.lemmas.Result.{on_err_weaker}
use Rattle.gptp_commands.specs.declared.failure.SimError.TheVariants.{Read}
use Rattle.gptp_commands.specs.CompareText.{size_limit, AnswersLines, AnswersSome, RefusesSize}
use Rattle.gptp_commands.proofs.LimitedLemmas.{if_error, none_holds, some_holds, writes_holds}
use Rattle.gptp_commands.proofs.RunLemmas.{if_ok_more}
use Rattle.gptp_commands.proofs.compare.compare_lines.Goals as goal

-- nothing was written
pub returns-in_err-input-clause-front : goal.returns-in_err-input-clause-front
returns-in_err-input-clause-front g c =
    if_error _ (λ e. e ≢ Read) c.from_residual.result (after_error c.from_residual.result
    (none_holds size_limit AnswersLines RefusesSize AnswersSome (g.S.Source.left c.args.source.now)
    (g.K.Sink.written c.args.sink.now)))

pub returns-clause-done : goal.returns-clause-done
returns-clause-done g c = if_ok_more _ _ (λ status text.
    writes_holds size_limit AnswersLines RefusesSize (g.S.Source.left c.args.source.now) _ c.in_ok-input.input.items
    (g.K.Sink.written c.args.sink.now) (g.K.Sink.written c.answer_input.new.sink) status c.in_ok-input.ensures.whole
    text) c.answer_input.result (rw c.deref.ensures.value at c.answer_input.ensures.text)

pub returns-clause-front : goal.returns-clause-front
returns-clause-front g c =
    if_error _ (λ e. e ≢ Read) c.answer_input.result (on_err_weaker c.answer_input.result
    (some_holds size_limit AnswersLines RefusesSize AnswersSome (g.S.Source.left c.args.source.now) _
    c.in_ok-input.input.items (g.K.Sink.written c.args.sink.now) (g.K.Sink.written c.answer_input.new.sink)
    c.in_ok-input.ensures.whole) (rw c.deref.ensures.value at c.answer_input.ensures.begun))

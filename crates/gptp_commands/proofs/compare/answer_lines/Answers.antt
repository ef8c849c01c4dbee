use Rattle.std.proofs.Common.{◌≡◌, [], ◌∙◌, refl, arith}
use Rattle.std.proofs.lemmas.List.{nil_from_length}
use Rattle.std.proofs.lemmas.Bool.Decides.{nat_tests}
use Rattle.gptp_sink.proofs.SinkLemmas.{after_error}
use Rattle.gptp_commands.proofs.CompareLemmas.{answered_all, answered_more, answered_none, answered_part, answered_some}
use Rattle.gptp_commands.proofs.compare.answer_lines.Goals as goal

pub loop-rest-init : goal.loop-rest-init
loop-rest-init g c =
    record { answered = answered_none c.args.input.now (g.K.Sink.written c.args.sink.now); works = refl }

pub loop-rest-preserved : goal.loop-rest-preserved
loop-rest-preserved g c = record {
  answered = answered_more c.args.input.now _ _ _ _ _ _ _ c.is_refusal-refused.result c.in_ok-answer.answer
      c.loop-rest.invariant.answered c.first_line.ensures.first c.in_ok-answer.ensures.answers
      c.in_ok-write_answer.ensures.whole c.is_refusal-refused.ensures;
  works = c.in_ok-write_answer.ensures.works (λ no. absurd cc) ∙ c.loop-rest.invariant.works;
}

pub returns-in_err-answer-clause-some : goal.returns-in_err-answer-clause-some
returns-in_err-answer-clause-some g c =
    after_error c.from_residual.result (answered_some c.args.input.now _ _ _ _ c.loop-rest.invariant.answered)

pub returns-in_err-write_answer-clause-some : goal.returns-in_err-write_answer-clause-some
returns-in_err-write_answer-clause-some g c =
    after_error c.from_residual-in_err-write_answer.result
    (answered_part c.args.input.now _ _ c.first_line.result.1.now _ _ _ _ c.in_ok-answer.answer
    c.loop-rest.invariant.answered c.first_line.ensures.first c.in_ok-answer.ensures.answers
    c.in_err-write_answer.ensures.some)

pub returns-clause-answers : goal.returns-clause-answers
returns-clause-answers g c =
    let none : c.loop-rest.rest.now ≡ [] = nil_from_length c.loop-rest.rest.now (grind (arith, nat_tests)) in
    rw c.of_refusal.ensures (answered_all c.args.input.now _ _ _ _ c.loop-rest.invariant.answered none)

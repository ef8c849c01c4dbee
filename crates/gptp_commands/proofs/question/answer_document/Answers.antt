use Rattle.gptp_commands.proofs.question.answer_document.Goals as goal

-- the answer by what is asked
pub returns-in-Choice-clause-answers : goal.returns-in-Choice-clause-answers
returns-in-Choice-clause-answers c = rw c.in-Choice.is c.choose_at.ensures.chooses

pub returns-in-Accuracy-clause-answers : goal.returns-in-Accuracy-clause-answers
returns-in-Accuracy-clause-answers c = rw c.in-Accuracy.is c.tell_accuracy.ensures.tells

pub returns-in-Explain-clause-answers : goal.returns-in-Explain-clause-answers
returns-in-Explain-clause-answers c = rw c.in-Explain.is c.explain_at.ensures.explains

pub returns-in-Lint-clause-answers : goal.returns-in-Lint-clause-answers
returns-in-Lint-clause-answers c = rw c.in-Lint.is c.tell_findings.ensures.tells

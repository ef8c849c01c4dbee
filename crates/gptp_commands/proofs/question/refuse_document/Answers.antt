use Rattle.gptp_commands.proofs.question.refuse_document.Goals as goal

pub returns-in-Lint-clause-refuses : goal.returns-in-Lint-clause-refuses
returns-in-Lint-clause-refuses c = rw c.in-Lint.is c.refuse_at_place.ensures.refuses

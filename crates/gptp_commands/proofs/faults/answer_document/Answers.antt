use Rattle.std.proofs.Common.{◌∙◌, inl, inr, subst}
use Rattle.std.proofs.lemmas.Result.{IfOk-weaker}
use Rattle.gptp_faults.specs.Faults.{AnswersFaultsOf}
use Rattle.gptp_faults.specs.Refusals.{RefusesFaults}
use Rattle.gptp_faults.specs.declared.faults.Answer.TheVariants.{Table}
use Rattle.gptp_theorem.proofs.OctetLemmas.{documents_playable}
use Rattle.gptp_commands.proofs.faults.answer_document.Goals as goal

pub returns-in-Ok-Refused-clause-tells : goal.returns-in-Ok-Refused-clause-tells
returns-in-Ok-Refused-clause-tells g c =
    let d = c.args.document.now in let options = c.args.options.now in
    let refuses : RefusesFaults d options c.in-Ok-Refused.fault =
    subst (AnswersFaultsOf d options) c.in-Ok-Refused.field-0-is c.in-Ok-Refused.ensures.answer in
    IfOk-weaker c.refuse.result _ _
    (λ o refused. (refused.0, inr (c.in-Ok-Refused.fault, refuses, refused.1), refused.2))
    c.refuse.ensures.refuses

pub returns-in-Ok-Table-clause-tells : goal.returns-in-Ok-Table-clause-tells
returns-in-Ok-Table-clause-tells g c =
    let d = c.args.document.now in let options = c.args.options.now in
    let exceeded = c.in-Ok-Table.exceeded in
    let network = rw c.network.ensures at c.well_formed-3.ensures in
    let playable =
    documents_playable c.requires.read.0 d c.requires.read.1 network c.well_formed-2.ensures.events in
    let (lines, table, text) : AnswersFaultsOf d options (Table c.in-Ok-Table.text exceeded) =
    subst (AnswersFaultsOf d options) c.in-Ok-Table.field-0-is c.in-Ok-Table.ensures.answer in (
      lines,
      inl (
        exceeded,
        table,
        (
          c.follow_lines_settle.ensures d options lines exceeded table playable,
          c.lines_settle_within.ensures d options lines exceeded table playable,
        ),
        c.of.ensures.status ∙ c.of_refusal.ensures,
      ),
      c.of.ensures.text ∙ text,
    )

use Rattle.std.proofs.Common.{List, length, ap, subst, sym, ◌∙◌}
use Rattle.std.specs.Io.KnownBytes.{Appends}
use Rattle.std.proofs.lemmas.Result.{IfOk-weaker}
use Rattle.gptp_network.specs.Document.{DocumentState}
use Rattle.gptp_faults.specs.Faults.{IsTable}
use Rattle.gptp_faults.specs.Refusals.{any_late, fault_before}
use Rattle.gptp_faults.specs.Progress.{part_begun}
use Rattle.gptp_faults.specs.declared.cases.Case.{Case}
use Rattle.gptp_words.specs.Lines.{text_of}
use Rattle.gptp_timeline.proofs.PassLemmas.{if_ok_both}
use Rattle.gptp_faults.proofs.AnswerLemmas.{answered}
use Rattle.gptp_faults.proofs.ProgressLemmas.{tells}
use Rattle.gptp_faults.proofs.faults.fail_each.Goals as goal

pub returns-clause-answer : goal.returns-clause-answer
returns-clause-answer g c =
    let d = c.args.document.now in let options = c.args.options.now in let t = c.in_ok-times.times in
    let cases = c.in_ok-cases.cases.items in let before = c.in_ok-fault.ensures in
    let same = c.in_ok-any_late.ensures.same ∙ before.same in
    IfOk-weaker c.table_of.result _ _ (λ answer table.
    answered d options cases t c.in_ok-cases.ensures c.in_ok-times.ensures.times
    (ap (fault_before d options t) (sym c.deref.ensures.value) ∙ sym before.refusal ∙ c.in_default.is)
    (ap (any_late d options t) (sym c.deref-2.ensures.value)
    ∙ sym (c.in_ok-any_late.ensures.late
    ∙ ap (λ (e : DocumentState). any_late e options t c.deref-2.result.now) before.same)
    ∙ c.if-branch.false) answer
    (subst (λ (cs : List Case). IsTable d options t cs answer) c.deref-3.ensures.value
    (subst (λ (e : DocumentState). IsTable e options t c.deref-3.result.now answer) same table)))
    c.table_of.ensures.table

pub returns-clause-told : goal.returns-clause-told
returns-clause-told g c =
    let d = c.args.document.now in let options = c.args.options.now in let t = c.in_ok-times.times in
    let cases = c.in_ok-cases.cases.items in let before = c.in_ok-fault.ensures in
    let same = c.in_ok-any_late.ensures.same ∙ before.same in
    if_ok_both c.table_of.result _ _ _ (λ answer table told.
    tells d options t cases (g.P.Sink.written c.args.progress.now) (g.P.Sink.written c.table_of.new.progress)
    c.in_ok-cases.ensures answer
    (subst (λ (cs : List Case). IsTable d options t cs answer) c.deref-3.ensures.value
    (subst (λ (e : DocumentState). IsTable e options t c.deref-3.result.now answer) same table))
    (subst (λ (cs : List Case). Appends (g.P.Sink.written c.args.progress.now)
    (g.P.Sink.written c.table_of.new.progress) (text_of (part_begun options (length cs))))
    c.deref-3.ensures.value told))
    c.table_of.ensures.table c.table_of.ensures.told

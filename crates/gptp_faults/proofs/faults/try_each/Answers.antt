use Rattle.std.proofs.Common.{◌≡◌, ◌+◌, ◌∙◌, [], ◌∷◌, Some, false, length, slice_get, ap, subst, sym, arith}
use Rattle.std.specs.Io.KnownBytes.{Appends}
use Rattle.std.proofs.lemmas.List.{length-append}
use Rattle.std.proofs.lemmas.Option.{slice_get-get_or}
use Rattle.gptp_network.specs.Document.{DocumentState}
use Rattle.gptp_words.specs.Lines.{text_of}
use Rattle.gptp_faults.specs.Progress.{all_begun, begun, part_count}
use Rattle.gptp_faults.specs.Outcomes.{IsOutcome, IsOutcomeAt, case_numbers}
use Rattle.gptp_faults.specs.Refusals.{case_events, is_late}
use Rattle.gptp_faults.specs.Runs.{IsKept}
use Rattle.gptp_timeline.specs.Each.{Each}
use Rattle.gptp_faults.specs.declared.cases.Case.{Case}
use Rattle.gptp_faults.proofs.OutcomeLemmas.{case_passed, case_tried}
use Rattle.gptp_faults.proofs.RefusalLemmas.{not_late}
use Rattle.gptp_faults.proofs.ProgressLemmas.{each_length, told_all, told_more, told_still}
use Rattle.gptp_faults.proofs.faults.try_each.Goals as goal
use Rattle.gptp_faults.proofs.faults.try_each.Goals.{then-belongs+in_ok-try_next, else-belongs}

pub loop-number-preserved : goal.loop-number-preserved
loop-number-preserved g c =
    let d = c.args.document.now in let t = c.args.times.now in let cases = c.args.cases.now in
    let parts = c.args.options.now.parts in let part = c.args.options.now.part in
    let number = c.loop-number.number in let before = c.loop-number.outcomes.items in
    let so_far = c.loop-number.invariant in let below = c.loop-number-test.true in
    let written = g.P.Sink.written in let start = written c.args.progress.now in
    let options = c.args.options.now in let asked = options.progress in
    let count = c.count_of-count.result in
    elim c.if-belongs.branch [
      | then-belongs+in_ok-try_next w ↦
          let tried = w.in_ok-try_next.ensures.tried in let failing = w.index-cases-number.result in
          let there : slice_get cases number ≡ Some failing =
          slice_get-get_or cases number failing c.loop-number-test.true
          ∙ ap (λ (x : Case). Some x) (sym w.index-cases-number.is) in
          let outcome : IsOutcome options d t number failing tried.0 =
          subst (λ (e : DocumentState). IsOutcome options e t number failing tried.0) so_far.same tried.1 in
          let after = ap (λ v. v.items) w.outcomes-is ∙ tried.2 in
          record {
            tried = subst (Each (IsOutcomeAt options d t cases) (case_numbers parts part (number + 1))) (sym after)
                (case_tried options d t cases parts part number before so_far.tried
                (sym c.belongs.ensures ∙ w.if-belongs.true) tried.0 (failing, there, outcome));
            told = told_more asked count (length before) _ start (written c.loop-number.progress) _
                (ap length after ∙ length-append before (tried.0 ∷ [])) so_far.told
                (subst (λ now. Appends (written c.loop-number.progress) (written now)
                (text_of (begun asked count (length before + 1)))) (sym w.progress-is)
                w.in_ok-try_next.ensures.told);
            most = omega (arith, below);
            same = w.document-is ∙ w.in_ok-try_next.ensures.same ∙ so_far.same;
            works = ap g.P.Sink.failures w.progress-is ∙ w.in_ok-try_next.ensures.works (λ no. absurd cc)
                ∙ so_far.works;
          }
      | else-belongs w ↦
          record {
            tried = subst (Each (IsOutcomeAt options d t cases) (case_numbers parts part (number + 1)))
                (sym (ap (λ v. v.items) w.outcomes-is))
                (case_passed options d t cases parts part number before so_far.tried
                (sym c.belongs.ensures ∙ w.if-belongs.false));
            told = told_still asked count (length before) _ start _ (ap (λ v. length v.items) w.outcomes-is)
                (subst (λ now. Appends start (written now) (text_of (all_begun asked count (length before))))
                (sym w.progress-is) so_far.told);
            most = omega (arith, below);
            same = w.document-is ∙ so_far.same;
            works = ap g.P.Sink.failures w.progress-is ∙ so_far.works;
          }
    ]

pub returns-clause-told : goal.returns-clause-told
returns-clause-told g c =
    let options = c.args.options.now in let cases = c.args.cases.now in let number = c.loop-number.number in
    let in_order = c.loop-number.outcomes.items in
    let past = c.loop-number-test.false in let most = c.loop-number.invariant.most in
    let all : number ≡ length cases = omega (arith, past, most) in
    told_all options (length cases) c.count_of-count.result (length in_order)
    (g.P.Sink.written c.args.progress.now) (g.P.Sink.written c.loop-number.progress) c.count_of-count.ensures
    (sym (each_length _ (case_numbers options.parts options.part number) in_order c.loop-number.invariant.tried)
    ∙ ap (part_count options) all) c.loop-number.invariant.told

-- no case is late
pub try_next-requires-clause-in_time : goal.try_next-requires-clause-in_time
try_next-requires-clause-in_time g c =
    let options = c.args.options.now in let t = c.args.times.now in let number = c.loop-number.number in
    let failing = c.index-cases-number.result in
    let there : slice_get c.args.cases.now number ≡ Some failing =
    slice_get-get_or c.args.cases.now number failing c.loop-number-test.true
    ∙ ap (λ (x : Case). Some x) (sym c.index-cases-number.is) in
    subst (λ (d : DocumentState). is_late d options.hold t (case_events d options failing) ≡ false)
    (sym c.loop-number.invariant.same)
    (not_late c.args.document.now options t c.args.cases.now c.requires.in_time number failing there)

-- the run that is kept is of the document, which is as it was
pub try_next-requires-clause-kept : goal.try_next-requires-clause-kept
try_next-requires-clause-kept g c =
    subst (λ (d : DocumentState). IsKept d c.args.options.now c.args.times.now c.args.kept.now)
    (sym c.loop-number.invariant.same) c.requires.kept

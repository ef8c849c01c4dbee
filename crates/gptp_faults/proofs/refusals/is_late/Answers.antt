use Rattle.std.proofs.Common.{◌≡◌, ℕ, ap, sym, ◌∙◌, arith}
use Rattle.gptp_network.specs.Document.{DocumentState}
use Rattle.gptp_faults.specs.Refusals.{is_late_at}
use Rattle.gptp_faults.specs.Times.{moment}
use Rattle.gptp_faults.proofs.RefusalLemmas.{passes_here, passes_later}
use Rattle.gptp_faults.proofs.refusals.is_late.Goals as goal

pub returns-then-branch-clause-late : goal.returns-then-branch-clause-late
returns-then-branch-clause-late c =
    let d = c.args.document.now in let asked = c.args.asked in let t = c.args.times.now in
    let failing = c.args.events.now in let number = c.loop-number.number in let so_far = c.loop-number.invariant in
    let late : c.in_ok-is_late_at.field-0 ≡ is_late_at d asked failing (moment t number) =
    c.in_ok-is_late_at.ensures.late
    ∙ ap (λ (e : DocumentState). is_late_at e asked failing c.moment.result) so_far.same
    ∙ ap (is_late_at d asked failing) c.moment.ensures.is in
    sym (passes_here (λ (n : ℕ). is_late_at d asked failing (moment t n)) number t.moments c.loop-number-test.true
    (sym late ∙ c.if-branch.true)) ∙ so_far.late

pub loop-number-preserved : goal.loop-number-preserved
loop-number-preserved c =
    let d = c.args.document.now in let asked = c.args.asked in let t = c.args.times.now in
    let failing = c.args.events.now in let number = c.loop-number.number in let so_far = c.loop-number.invariant in
    let below = c.loop-number-test.true in
    let late : c.in_ok-is_late_at.field-0 ≡ is_late_at d asked failing (moment t number) =
    c.in_ok-is_late_at.ensures.late
    ∙ ap (λ (e : DocumentState). is_late_at e asked failing c.moment.result) so_far.same
    ∙ ap (is_late_at d asked failing) c.moment.ensures.is in
    record {
      late = sym (passes_later (λ (n : ℕ). is_late_at d asked failing (moment t n)) number t.moments below
          (sym late ∙ c.if-branch.false)) ∙ so_far.late;
      most = omega (arith, below);
      same = c.in_ok-is_late_at.ensures.same ∙ so_far.same;
    }

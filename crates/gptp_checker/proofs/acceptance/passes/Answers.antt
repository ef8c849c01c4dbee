use Rattle.std.proofs.Common.{◌≡◌, ◌↔◌, IsTrue, ap, subst, sym, ◌∙◌}
use Rattle.gptp_checker.specs.Faults.{test_of}
use Rattle.gptp_checker.specs.declared.line_test.LineTest.TheVariants.{TooFar}
use Rattle.gptp_checker.proofs.FaultLemmas.{found_by, found_by_lines}
use Rattle.gptp_checker.proofs.acceptance.passes.Goals as goal
use Rattle.gptp_checker.proofs.acceptance.passes.Goals.{in-Root, in-Steps, in-Parent, in-Identity, in-Tie, in-Role}

pub returns-in-Link : goal.returns-in-Link
returns-in-Link c =
    subst (λ fault. IsTrue c.passes_link.result
    ↔ test_of fault c.args.certificate.now.version c.args.snapshot.now c.args.certificate.now.lines) (sym c.in-Link.is)
    c.passes_link.ensures

pub returns-in-TooFar : goal.returns-in-TooFar
returns-in-TooFar c =
    subst (λ fault. IsTrue c.passes_too_far.result
    ↔ test_of fault c.args.certificate.now.version c.args.snapshot.now c.args.certificate.now.lines)
    (sym c.in-TooFar.is) c.passes_too_far.ensures

pub returns : goal.returns
returns c =
    let found : (c.args.fault ≡ found_by c.match-fault.test)
    × (c.match-fault.test ≡ TooFar → c.args.certificate.now.version ≡ 1) = elim c.match-fault.branch [
      | in-Root w ↦ (w.in-Root.is ∙ ap found_by (sym w.test-is), λ e. (let s = sym w.test-is ∙ e in absurd cc))
      | in-Steps w ↦ (w.in-Steps.is ∙ ap found_by (sym w.test-is), λ e. (let s = sym w.test-is ∙ e in absurd cc))
      | in-Parent w ↦ (w.in-Parent.is ∙ ap found_by (sym w.test-is), λ e. (let s = sym w.test-is ∙ e in absurd cc))
      | in-Identity w ↦ (w.in-Identity.is ∙ ap found_by (sym w.test-is), λ e. (let s = sym w.test-is ∙ e in absurd cc))
      | in-Tie w ↦ (w.in-Tie.is ∙ ap found_by (sym w.test-is), λ e. (let s = sym w.test-is ∙ e in absurd cc))
      | in-Role w ↦ (w.in-Role.is ∙ ap found_by (sym w.test-is), λ e. (let s = sym w.test-is ∙ e in absurd cc))
    ] in
    found_by_lines c.args.certificate.now.version c.args.snapshot.now c.args.certificate.now.lines c.args.fault
    c.match-fault.test c.every_line_passes.result c.well_formed-2.ensures.network c.requires found.1 found.0
    c.every_line_passes.ensures

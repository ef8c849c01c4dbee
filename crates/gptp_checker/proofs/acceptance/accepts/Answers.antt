use Rattle.std.proofs.Common.{◌≡◌, ℕ, IsTrue, false, Some, get_or, refl, sym, subst, ◌∙◌}
use Rattle.std.proofs.lemmas.Option.{slice_get-get_or}
use Rattle.gptp_checker.specs.Faults.{later_faults, test_of}
use Rattle.gptp_checker.specs.declared.fault.Fault.{Fault}
use Rattle.gptp_checker.specs.declared.fault.Fault.TheVariants.{Systems}
use Rattle.gptp_checker.proofs.EachLemmas.{all_hold, one_more}
use Rattle.gptp_checker.proofs.FaultLemmas.{IsAbsent, settled, no_fault, systems_first, later_first}
use Rattle.gptp_checker.proofs.acceptance.accepts.Goals as goal

not_true : IsTrue false → ⊥
not_true t = absurd cc

same_fault : (one two : Fault) → Some one ≡ Some two → one ≡ two
same_fault one two e = cc

pub returns-then-not-passes_systems : goal.returns-then-not-passes_systems
returns-then-not-passes_systems c =
    let v = c.args.certificate.now.version in
    let g = c.args.snapshot.now in
    let lines = c.args.certificate.now.lines in
    record {
      accepted = (
        (λ e. absurd cc),
        (λ is.
            let t = c.if-not-passes_systems.ensures.1 (no_fault v g lines Systems c.well_formed-2.ensures.network is) in
            absurd cc),
      );
      refused = systems_first v g lines (λ h. let t = c.if-not-passes_systems.ensures.1 h in absurd cc);
    }

-- the fault at the place
abbrev fault_at : ℕ → Fault
fault_at i = get_or later_faults i Systems

pub returns-then-not-passes : goal.returns-then-not-passes
returns-then-not-passes c =
    let v = c.args.certificate.now.version in
    let g = c.args.snapshot.now in
    let lines = c.args.certificate.now.lines in
    let i = c.loop-fault.fault-index in
    let fails : test_of (fault_at i) v g lines → ⊥ = λ h. let t = c.if-not-passes.ensures.1 h in not_true t in
    record {
      accepted = (
        (λ e. absurd cc),
        (λ is. absurd (fails (no_fault v g lines (fault_at i) c.well_formed-2.ensures.network is))),
      );
      refused = later_first v g lines i (fault_at i) (slice_get-get_or later_faults i Systems c.loop-fault-test.true)
          (c.if-not-passes_systems.ensures.0 refl) c.loop-fault.invariant fails;
    }

pub loop-fault-preserved : goal.loop-fault-preserved
loop-fault-preserved c =
    let i = c.loop-fault.fault-index in
    one_more _ later_faults i c.loop-fault.invariant (λ fault at.
    subst (IsAbsent c.args.certificate.now.version c.args.snapshot.now c.args.certificate.now.lines)
    (same_fault (fault_at i) fault (sym (slice_get-get_or later_faults i Systems c.loop-fault-test.true) ∙ at))
    (c.if-not-passes.ensures.0 refl))

pub returns : goal.returns
returns c =
    let v = c.args.certificate.now.version in
    let g = c.args.snapshot.now in
    let lines = c.args.certificate.now.lines in
    record {
      accepted = (
        (λ e. settled v g lines c.well_formed-2.ensures.network (c.if-not-passes_systems.ensures.0 refl)
            (all_hold _ later_faults c.loop-fault.fault-index c.loop-fault.invariant c.loop-fault-test.false)),
        (λ is. refl),
      );
      refused = tt;
    }

use Rattle.std.proofs.Common.{◌≡◌, ◌∙◌, ℕ, ℤ, slice_get, sym, ap, subst, arith}
use Rattle.std.proofs.lemmas.Bool.Decides.{nat_tests}
use Rattle.arrayvec.specs.ArrayVec.{ArrayVec}
use Rattle.gptp_lists.proofs.SystemSpecLemmas.{In-slice_get}
use Rattle.gptp_pdelay.specs.Clock.{IsDrift}
use Rattle.gptp_roles.specs.Selection.{clock_of}
use Rattle.gptp_scenario.specs.declared.network.SystemSpec.{SystemSpec}
use Rattle.gptp_accuracy.proofs.MachineLemmas.{drift_back}
use Rattle.gptp_accuracy.proofs.OptionLemmas.{mapped_from}
use Rattle.gptp_accuracy.proofs.drifts.drift_if_of.Goals as goal

pub returns-then-eq-clause-some : goal.returns-then-eq-clause-some
returns-then-eq-clause-some c =
    let systems = c.args.network.now.systems in
    let (m, there, is) =
    mapped_from (λ (m : SystemSpec). (m.identity, m.ports, m.phase, m.drift, m.intervals))
    (slice_get systems c.args.place) _
    c.in_ok-identity.ensures in
    let same : c.clock.result ≡ c.args.clock = grind (arith, nat_tests) in
    record {
      system = m;
      there = In-slice_get m systems c.args.place there;
      is = ap (λ (t : ℕ × ℕ × ℕ × ℤ × ArrayVec ℤ). clock_of t.0) (sym is) ∙ sym c.clock.ensures ∙ same;
      drift_is =
          let drift_is : c.in_ok-identity.drift ≡ m.drift = ap (λ (t : ℕ × ℕ × ℕ × ℤ × ArrayVec ℤ). t.3) is in
          drift_back c.in_ok-identity.drift (subst IsDrift (sym drift_is)
          (c.well_formed-2.ensures.systems c.args.place m there).drift) ∙ drift_is;
    }

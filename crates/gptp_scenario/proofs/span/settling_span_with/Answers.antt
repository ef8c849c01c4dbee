-- It is no longer than what is defined.
use Rattle.std.proofs.Common.{◌≡◌, ◌≤◌, ◌+◌, ◌*◌, to_z, of_z, w8, rules, ap₂, subst, sym}
use Rattle.gptp_setup.specs.Intervals.{IsLog}
use Rattle.gptp_scenario.proofs.SyncWaitLemmas.{short_time}
use Rattle.gptp_scenario.proofs.span.settling_span_with.Goals as goal

pub returns-clause-bound : goal.returns-clause-bound
returns-clause-bound c =
    let same = ap₂ (λ a b. a + c.args.live * b) c.settling_span.ensures.span c.step_more.ensures.is in
    let is : to_z w8 (of_z w8 c.args.largest) ≡ c.args.largest = search rules in
    subst (λ k. k ≤ 195000000000000) (sym same)
    (short_time (record { params = c.args.params.now; largest = to_z w8 (of_z w8 c.args.largest) }) c.args.paths
    c.args.live c.requires.params (subst IsLog (sym is) c.requires.largest) c.requires.live c.requires.short)

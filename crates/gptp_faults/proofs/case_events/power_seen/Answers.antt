use Rattle.std.proofs.Common.{◌≡◌, ◌++◌, ◌≤◌, List, map, sym, ap, subst, ◌∙◌, arith}
use Rattle.std.specs.List.{AllByRecursion}
use Rattle.gptp_setup.specs.declared.limits.TheConstants.{LAST_MOMENT}
use Rattle.gptp_faults.specs.CaseEvents.{IsChangeInRange}
use Rattle.gptp_faults.specs.declared.case_events.CaseChange.{CaseChange}
use Rattle.gptp_faults.specs.declared.case_events.CaseChange.TheVariants.{LinkDown}
use Rattle.gptp_faults.proofs.RangeLemmas.{downs_in_range, ups_in_range}
use Rattle.gptp_faults.proofs.case_events.power_seen.Goals as goal
use Rattle.gptp_faults.proofs.case_events.power_seen.Goals.{then-is_empty, else-is_empty}

pub invariant_of-result : goal.invariant_of-result
invariant_of-result c =
    let ports = c.args.ports.now in
    let seen : c.push_downs.new.changes.items ≡ map LinkDown ports =
    c.in_ok-push_downs.ensures ∙ ap (λ (cs : List CaseChange). cs ++ map LinkDown ports) c.new-seen.ensures.items in
    let early = c.requires in
    let delay : c.if-is_empty.result ≤ LAST_MOMENT = elim c.if-is_empty.branch [
      | then-is_empty w ↦ let is = w.result-is in omega (arith, is)
      | else-is_empty w ↦ let is = w.result-is in omega (arith, is, early)
    ] in
    record {
      at = subst (AllByRecursion IsChangeInRange) (sym c.in_ok-one.ensures) (tt, tt);
      seen = subst (AllByRecursion IsChangeInRange) (sym seen) (downs_in_range ports);
      delay = delay;
      back = subst (AllByRecursion IsChangeInRange) (sym c.in_ok-power_back.ensures) (tt, ups_in_range ports);
    }

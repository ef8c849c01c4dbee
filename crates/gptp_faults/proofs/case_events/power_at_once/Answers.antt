use Rattle.std.proofs.Common.{◌≡◌, ◌++◌, ◌∷◌, List, map, sym, ap, subst, ◌∙◌, arith}
use Rattle.std.specs.List.{AllByRecursion}
use Rattle.gptp_faults.specs.CaseEvents.{IsChangeInRange}
use Rattle.gptp_faults.specs.declared.case_events.CaseChange.{CaseChange}
use Rattle.gptp_faults.specs.declared.case_events.CaseChange.TheVariants.{Fail, LinkDown}
use Rattle.gptp_faults.proofs.RangeLemmas.{downs_in_range, ups_in_range}
use Rattle.gptp_faults.proofs.case_events.power_at_once.Goals as goal

pub invariant_of-result : goal.invariant_of-result
invariant_of-result c =
    let ports = c.args.ports.now in
    let at : c.push_downs.new.changes.items ≡ Fail c.args.clock ∷ map LinkDown ports =
    c.in_ok-push_downs.ensures ∙ ap (λ (cs : List CaseChange). cs ++ map LinkDown ports) c.in_ok-at.ensures in
    record {
      at = subst (AllByRecursion IsChangeInRange) (sym at) (tt, downs_in_range ports);
      seen = subst (AllByRecursion IsChangeInRange) (sym c.new.ensures.items) tt;
      delay = omega arith;
      back = subst (AllByRecursion IsChangeInRange) (sym c.in_ok-power_back.ensures) (tt, ups_in_range ports);
    }

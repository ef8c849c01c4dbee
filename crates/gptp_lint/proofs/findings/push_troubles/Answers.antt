-- What the events that name a system at one of the link's ends show is what all events do.
use Rattle.std.proofs.Common.{◌++◌, ap, ap₂, sym, ◌∙◌}
use Rattle.std.specs.Option.{option_to_list}
use Rattle.std.proofs.lemmas.List.{append-nil}
use Rattle.std.proofs.lemmas.Result.{on_ok_weaker}
use Rattle.gptp_scenario.specs.Network.{NetworkState}
use Rattle.gptp_topology.specs.Course.{course_from, course_of, first, naming, cable_wire}
use Rattle.gptp_lint.specs.Trouble.{long_of, stretches}
use Rattle.gptp_lint.proofs.ThinLemmas.{long_is, lossy_is}
use Rattle.gptp_lint.proofs.findings.push_troubles.Goals as goal

pub returns-clause-long : goal.returns-clause-long
returns-clause-long c =
    let d = c.args.document.now in
    let w = cable_wire c.args.cable.now in
    let course =
    c.deref.ensures.value ∙ c.in_ok-course.ensures
    ∙ ap (λ es. course_from (first w) (naming c.args.cable.now es)) c.events.ensures in
    let is =
    c.long_of.ensures
    ∙ ap₂ (λ p ss. long_of p ss) (c.params.ensures ∙ ap (λ (n : NetworkState). n.params) c.network.ensures) course
    ∙ long_is d w c.well_formed-2.ensures.events.in_order in
    on_ok_weaker c.push_stretches.result
    (λ h. c.in_ok-push_long.ensures ∙ ap (λ o. c.args.long.now.items ++ option_to_list o) is
    ∙ ap (λ ls. c.args.long.now.items ++ ls)
    (sym (append-nil (option_to_list (long_of d.network.params (course_of d.events w))))))
    c.push_stretches.ensures

pub returns-clause-lossy : goal.returns-clause-lossy
returns-clause-lossy c =
    let d = c.args.document.now in
    let w = cable_wire c.args.cable.now in
    let course =
    c.deref-2.ensures.value ∙ c.in_ok-course.ensures
    ∙ ap (λ es. course_from (first w) (naming c.args.cable.now es)) c.events.ensures in
    on_ok_weaker c.push_stretches.result
    (λ h. h ∙ ap (λ ls. c.args.lossy.now.items ++ ls)
    (ap (stretches w.bounds.link 0) course ∙ lossy_is d w c.well_formed-2.ensures.events.in_order
    ∙ sym (append-nil (stretches w.bounds.link 0 (course_of d.events w)))))
    c.push_stretches.ensures

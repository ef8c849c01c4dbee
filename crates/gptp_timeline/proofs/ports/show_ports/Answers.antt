use Rattle.std.proofs.Common.{◌≡◌, ◌<◌, ◌+◌, true, false, get_or, length, take, rules, sym, subst, ◌∙◌, arith}
use Rattle.std.proofs.lemmas.Grind.{common_steps}
use Rattle.std.proofs.lemmas.Option.{slice_get-get_or}
use Rattle.gptp_lists.proofs.MappedLemmas.{taken}
use Rattle.gptp_roles.specs.declared.role.Role.TheVariants.{Disabled}
use Rattle.gptp_timeline.specs.Ports.{shows_same_port, shown_port}
use Rattle.gptp_timeline.specs.declared.ports.ShownPort.{ShownPort}
use Rattle.gptp_timeline.proofs.PortLemmas.{next_port}
use Rattle.gptp_timeline.proofs.SameLemmas.{same_port_is}
use Rattle.gptp_timeline.proofs.ports.show_ports.Goals as goal

pub loop-place-preserved : goal.loop-place-preserved
loop-place-preserved c =
    let ports = c.args.ports.now in let place = c.loop-place.place in
    let none : ShownPort = record { role = Disabled; capable = false } in
    let below : place < length ports = grind (arith, common_steps) in
    let said : c.same_port.result ≡ true = search rules in
    let at : c.from-in-loop-place.result ≡ place = search rules in
    let same : shows_same_port c.shown_port.result (get_or ports place none) ≡ true =
    subst (λ i. shows_same_port c.shown_port.result (get_or ports i none) ≡ true) at (sym c.same_port.ensures ∙ said) in
    next_port (shown_port c.args.system.now) (take place ports) (take (place + 1) ports) (get_or ports place none) place
    c.loop-place.invariant (sym (same_port_is c.shown_port.result (get_or ports place none) same)
    ∙ c.shown_port.ensures) (taken ports place (get_or ports place none) (slice_get-get_or ports place none below))

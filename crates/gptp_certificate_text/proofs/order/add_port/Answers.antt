use Rattle.std.proofs.Common.{refl, sym, ◌∙◌}
use Rattle.std.specs.Option.{option_map}
use Rattle.gptp_certificate_text.specs.Certificate.{line_of, parent_of}
use Rattle.gptp_certificate_text.proofs.OrderLemmas.{last_clock, port_added}
use Rattle.gptp_certificate_text.proofs.order.add_port.Goals as goal

pub returns-clause-appended : goal.returns-clause-appended
returns-clause-appended c =
    let line = c.args.line.now in
    let follows = c.if-not-can_follow.ensures.0 refl in
    port_added line.clock line.root line.steps line.far (option_map parent_of line.parent) line.ports.items
    c.push.new.self.items
    (c.args.number, c.args.role) c.args.clock c.in_ok-push.ensures.items (sym (last_clock (line_of line)) ∙ follows.0)

use Rattle.std.proofs.Common.{ap, option_map, subst, sym}
use Rattle.gptp_certificate_text.specs.Certificate.{line_of, parent_of}
use Rattle.gptp_explain.specs.Ports.{OffersWay, parent_port}
use Rattle.gptp_explain.specs.declared.why.Why.TheVariants.{Offers}
use Rattle.gptp_explain.proofs.PortLemmas.{slave_has_parent, slave_offers}
use Rattle.gptp_explain.proofs.ports.why_slave.Goals as goal

pub returns-in-Some : goal.returns-in-Some
returns-in-Some c =
    let g = c.args.snapshot.now in let p = c.args.port.now in
    let l = parent_of (c.in-Some.field-0-0, c.in-Some.parent) in
    subst (λ steps. OffersWay g p (Offers (parent_port l) steps)) (sym c.from.ensures)
    (slave_offers g (line_of c.args.line.now) p c.requires l (ap (option_map parent_of) c.in-Some.is))

pub returns-in-None : goal.returns-in-None
returns-in-None c =
    absurd (slave_has_parent c.args.snapshot.now (line_of c.args.line.now) c.args.port.now c.requires
    (ap (option_map parent_of) c.in-None.is))

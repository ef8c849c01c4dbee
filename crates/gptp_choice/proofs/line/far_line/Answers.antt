use Rattle.std.proofs.Common.{ap, map, refl}
use Rattle.gptp_certificate_text.specs.Certificate.{port_line_of}
use Rattle.gptp_choice.proofs.LineLemmas.{far_settled}
use Rattle.gptp_choice.proofs.line.far_line.Goals as goal

pub returns : goal.returns
returns c = λ ports.
    far_settled c.args.snapshot.now c.args.clock ports c.args.own.now _ c.requires.own c.requires.far refl refl refl
    refl refl (ap (map port_line_of) c.new.ensures.items)

use Rattle.gptp_checker.proofs.FaultLemmas.{systems_before}
use Rattle.gptp_commands.proofs.place.place_of_fault.Goals as goal

pub locate-requires : goal.locate-requires
locate-requires c =
    systems_before c.args.certificate.now.version c.args.snapshot.now c.args.certificate.now.lines c.args.fault
    c.requires

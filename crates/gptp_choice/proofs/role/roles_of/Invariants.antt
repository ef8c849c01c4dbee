-- The roles of the first ports.
use Rattle.std.proofs.Common.{map}
use Rattle.gptp_certificate_text.specs.Certificate.{port_line_of}
use Rattle.gptp_choice.specs.Lines.{AreRoles}
use Rattle.gptp_choice.proofs.role.roles_of.Given as goal

abbrev pub invariant-loop-index : goal.invariant-loop-index
invariant-loop-index l = AreRoles l.snapshot l.clock l.index (map port_line_of l.ports.items)

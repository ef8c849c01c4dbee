use Rattle.std.proofs.Common.{sym, arith}
use Rattle.gptp_messages.proofs.PathLemmas.{path_octets-clocks}
use Rattle.gptp_messages.proofs.path.as_spelled.Goals as goal

pub returns : goal.returns
returns c = sym (path_octets-clocks c.args.octets.now c.requires (λ i. omega (arith, c.type_inv.octets i)))

use Rattle.std.proofs.Common.{sym}
use Rattle.gptp_messages.proofs.PathLemmas.{length-clocks}
use Rattle.gptp_messages.proofs.path.count_of.Goals as goal

pub returns : goal.returns
returns c = sym (length-clocks c.args.octets.now)

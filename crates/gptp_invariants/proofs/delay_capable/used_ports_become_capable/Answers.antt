use Rattle.gptp_invariants.proofs.DelayCapableLemmas.{used_capable}
use Rattle.gptp_invariants.proofs.delay_capable.used_ports_become_capable.Goals as goal

pub returns : goal.returns
returns c = used_capable

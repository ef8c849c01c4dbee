use Rattle.std.proofs.Common.{sym, arith}
use Rattle.std.proofs.lemmas.Grind.{common_steps}
use Rattle.gptp_timeline.proofs.PortLemmas.{other_lengths}
use Rattle.gptp_timeline.proofs.ports.same_ports.Goals as goal

pub returns-then-a-b : goal.returns-then-a-b
returns-then-a-b c =
    sym (other_lengths c.args.a.now c.args.b.now (λ same. absurd (grind (arith, common_steps))))

use Rattle.gptp_invariants.proofs.DelayStartFirstLemmas.{start_first}
use Rattle.gptp_invariants.proofs.delay_first_at.starts_are_first.Goals as goal

pub returns : goal.returns
returns g c = start_first g.F.Fate.answers

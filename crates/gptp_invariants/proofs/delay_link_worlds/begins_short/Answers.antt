use Rattle.gptp_invariants.proofs.WorldShortLemmas.{initially_short, starts_short}
use Rattle.gptp_invariants.proofs.delay_link_worlds.begins_short.Goals as goal

pub returns-clause-initially : goal.returns-clause-initially
returns-clause-initially c = initially_short

pub returns-clause-starts : goal.returns-clause-starts
returns-clause-starts c = starts_short

use Rattle.gptp_invariants.proofs.WorldShortLemmas.{acts_short, later_short}
use Rattle.gptp_invariants.proofs.delay_link_worlds.stays_short.Goals as goal

pub returns-clause-acts : goal.returns-clause-acts
returns-clause-acts c = acts_short

pub returns-clause-later : goal.returns-clause-later
returns-clause-later c = later_short

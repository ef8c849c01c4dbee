use Rattle.gptp_invariants.proofs.WorldDueLemmas.{frames_fresh, frames_not_late, frames_on_links}
use Rattle.gptp_invariants.proofs.world_known.frames_are_due.Goals as goal

pub returns-clause-links : goal.returns-clause-links
returns-clause-links c = frames_on_links

pub returns-clause-late : goal.returns-clause-late
returns-clause-late c = frames_not_late

pub returns-clause-fresh : goal.returns-clause-fresh
returns-clause-fresh c = frames_fresh

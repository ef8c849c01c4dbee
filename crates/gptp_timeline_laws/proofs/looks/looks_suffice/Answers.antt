use Rattle.gptp_timeline_laws.proofs.LookLemmas.{reading_looks, source_looks}
use Rattle.gptp_timeline_laws.proofs.looks.looks_suffice.Goals as goal

pub returns-clause-readings : goal.returns-clause-readings
returns-clause-readings c = reading_looks

pub returns-clause-sources : goal.returns-clause-sources
returns-clause-sources c = source_looks

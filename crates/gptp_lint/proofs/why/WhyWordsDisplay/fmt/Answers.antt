-- What is written is what the reason is worded as.
use Rattle.gptp_lint.proofs.why.WhyWordsDisplay.fmt.Goals as goal

pub returns-in-Duplicate-clause-writes : goal.returns-in-Duplicate-clause-writes
returns-in-Duplicate-clause-writes g c = rw c.in-Duplicate.is c.write-in-Duplicate.ensures.writes

pub returns-in-BothEnds-clause-writes : goal.returns-in-BothEnds-clause-writes
returns-in-BothEnds-clause-writes g c = rw c.in-BothEnds.is c.write-in-BothEnds.ensures.writes

pub returns-in-Taken-clause-writes : goal.returns-in-Taken-clause-writes
returns-in-Taken-clause-writes g c = rw c.in-Taken.is c.write-in-Taken.ensures.writes

pub returns-in-Timing-clause-writes : goal.returns-in-Timing-clause-writes
returns-in-Timing-clause-writes g c = rw c.in-Timing.is c.write-in-Timing.ensures.writes

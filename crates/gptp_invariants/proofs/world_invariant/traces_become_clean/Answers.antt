use Rattle.gptp_invariants.proofs.ChoiceTraceLemmas.{frames_become_clean, held_becomes_clean, held_becomes_whole, held_becomes_whole_sooner, held_is_no_better, traces_become_clean}
use Rattle.gptp_invariants.proofs.world_invariant.traces_become_clean.Goals as goal

pub returns-clause-traces : goal.returns-clause-traces
returns-clause-traces g c = traces_become_clean

pub returns-clause-held : goal.returns-clause-held
returns-clause-held g c = held_becomes_clean

pub returns-clause-frames : goal.returns-clause-frames
returns-clause-frames g c = frames_become_clean g.F.Fate.answers

pub returns-clause-whole : goal.returns-clause-whole
returns-clause-whole g c = held_becomes_whole

pub returns-clause-sooner : goal.returns-clause-sooner
returns-clause-sooner g c = held_becomes_whole_sooner

pub returns-clause-no_better : goal.returns-clause-no_better
returns-clause-no_better g c = held_is_no_better

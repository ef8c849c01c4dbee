use Rattle.gptp_timeline.proofs.TellingLemmas.{changes_told, last_lines}
use Rattle.gptp_timeline.proofs.laws.last_lines_tell.Goals as goal

pub returns-clause-told : goal.returns-clause-told
returns-clause-told g c = changes_told

pub returns-clause-last : goal.returns-clause-last
returns-clause-last g c d until options fate lines exceeded t name events =
    last_lines g.F.Fate.answers d until options fate lines exceeded t name events

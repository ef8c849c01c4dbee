use Rattle.gptp_determinism.proofs.CourseLemmas.{advances_once, begins_once, stops_on_the_way}
use Rattle.gptp_determinism.proofs.laws.worlds_go_on_in_one_way.Goals as goal

pub returns-clause-begins : goal.returns-clause-begins
returns-clause-begins g c = begins_once g.F.Fate.answers

pub returns-clause-advances : goal.returns-clause-advances
returns-clause-advances g c = advances_once g.F.Fate.answers

pub returns-clause-stops : goal.returns-clause-stops
returns-clause-stops g c = stops_on_the_way g.F.Fate.answers

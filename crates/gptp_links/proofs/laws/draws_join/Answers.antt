use Rattle.gptp_links.proofs.DrawLemmas.{draws-append}
use Rattle.gptp_links.proofs.laws.draws_join.Goals as goal

pub returns : goal.returns
returns g c = draws-append g.F.Fate.answers

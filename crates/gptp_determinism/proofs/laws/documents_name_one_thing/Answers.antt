use Rattle.gptp_determinism.proofs.MeantLemmas.{meant_named}
use Rattle.gptp_determinism.proofs.RunLemmas.{played_named}
use Rattle.gptp_determinism.proofs.laws.documents_name_one_thing.Goals as goal

pub returns-clause-meant : goal.returns-clause-meant
returns-clause-meant g c = meant_named

pub returns-clause-played : goal.returns-clause-played
returns-clause-played g c = played_named g.F.Fate.answers

use Rattle.gptp_bmca_machine.proofs.ReactionLemmas.{reaction_settles, rest_follows_reaction}
use Rattle.gptp_bmca_machine.proofs.sound.reaction_settles.Goals as goal

pub returns-clause-settle : goal.returns-clause-settle
returns-clause-settle g c = reaction_settles g.C.Coding.says

pub returns-clause-rest : goal.returns-clause-rest
returns-clause-rest g c = rest_follows_reaction g.C.Coding.says

use Rattle.std.proofs.lemmas.Slice.Eq.{strip_prefix_is}
use Rattle.std.proofs.lemmas.Bool.Decides.{Decides-eqb}
use Rattle.gptp_certificate_text.proofs.WordLemmas.{none_of, some_of}
use Rattle.gptp_certificate_text.proofs.words.after.Goals as goal

pub returns-clause-found : goal.returns-clause-found
returns-clause-found c = some_of _ _ c.strip_prefix.result
    (strip_prefix_is Decides-eqb c.args.text.now c.args.front.now c.strip_prefix.result c.strip_prefix.ensures.cases)

pub returns-clause-absent : goal.returns-clause-absent
returns-clause-absent c = none_of _ _ c.strip_prefix.result
    (strip_prefix_is Decides-eqb c.args.text.now c.args.front.now c.strip_prefix.result c.strip_prefix.ensures.cases)

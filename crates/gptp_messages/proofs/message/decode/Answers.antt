use Rattle.std.proofs.Common.{rules}
use Rattle.gptp_messages.proofs.GrammarLemmas.{only_reading, only_refusal}
use Rattle.gptp_messages.proofs.message.decode.Goals as goal

pub returns-clause-only : goal.returns-clause-only
returns-clause-only c = only_reading c.args.frame.now _ (search rules) (search rules)

pub returns-clause-first : goal.returns-clause-first
returns-clause-first c = only_refusal c.args.frame.now _ (search rules) (search rules)

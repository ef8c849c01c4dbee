use Rattle.gptp_lint.proofs.FeedLemmas.{in_one_line}
use Rattle.gptp_lint.proofs.laws.a_refusal_is_one_line.Goals as goal

pub returns : goal.returns
returns c = in_one_line

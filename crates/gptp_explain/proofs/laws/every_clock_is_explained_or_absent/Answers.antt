use Rattle.gptp_explain.proofs.EveryLemmas.{each_is_explained}
use Rattle.gptp_explain.proofs.laws.every_clock_is_explained_or_absent.Goals as goal

pub returns : goal.returns
returns c = each_is_explained

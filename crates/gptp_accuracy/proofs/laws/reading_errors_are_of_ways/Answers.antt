use Rattle.gptp_accuracy.proofs.ReadingLemmas.{reading_errors_are_of_ways}
use Rattle.gptp_accuracy.proofs.laws.reading_errors_are_of_ways.Goals as goal

pub returns : goal.returns
returns c = reading_errors_are_of_ways

use Rattle.gptp_error_laws.proofs.ExampleLemmas.{goes_over_two_links}
use Rattle.gptp_error_laws.proofs.examples.sync_over_two_links.Goals as goal

pub returns : goal.returns
returns c = goes_over_two_links

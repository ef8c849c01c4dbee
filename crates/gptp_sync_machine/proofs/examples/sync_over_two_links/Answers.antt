use Rattle.gptp_sync_machine.proofs.ExampleLemmas
use Rattle.gptp_sync_machine.proofs.examples.sync_over_two_links.Goals as goal

pub returns : goal.returns
returns c = ExampleLemmas.sync_over_two_links

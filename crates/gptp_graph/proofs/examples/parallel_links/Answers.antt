use Rattle.gptp_graph.proofs.ExampleLemmas.{parallel_settles}
use Rattle.gptp_graph.proofs.examples.parallel_links.Goals as goal

pub returns : goal.returns
returns c = parallel_settles

use Rattle.gptp_graph.proofs.ExampleLemmas.{ring_settles}
use Rattle.gptp_graph.proofs.examples.chain_with_a_ring.Goals as goal

pub returns : goal.returns
returns c = ring_settles

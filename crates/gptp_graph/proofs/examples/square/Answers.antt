use Rattle.gptp_graph.proofs.ExampleLemmas.{square_settles}
use Rattle.gptp_graph.proofs.examples.square.Goals as goal

pub returns : goal.returns
returns c = square_settles

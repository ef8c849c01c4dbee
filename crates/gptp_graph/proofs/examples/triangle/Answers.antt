use Rattle.gptp_graph.proofs.ExampleLemmas.{triangle_settles}
use Rattle.gptp_graph.proofs.examples.triangle.Goals as goal

pub returns : goal.returns
returns c = triangle_settles

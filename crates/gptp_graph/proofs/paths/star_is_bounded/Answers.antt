use Rattle.std.proofs.Common.{refl}
use Rattle.gptp_graph.proofs.paths.star_is_bounded.Goals as goal

pub returns : goal.returns
returns c = record { star = refl; square = refl }

-- The examples pass the tests, which compute on them.
use Rattle.std.proofs.Common.{◌≡◌, true, List, refl}
use native.Mathlib.Decide.{ℕ_discrete, dec_le, dec_lt}
use Rattle.gptp_graph.specs.Snapshot.{Snapshot}
use Rattle.gptp_graph.specs.Labelling.{SystemLine}
use Rattle.gptp_graph.specs.Examples.{SettlesAt, ring_network, ring_lines, parallel_network, parallel_lines, triangle_network, triangle_lines, square_network, square_lines}
use Rattle.gptp_graph.proofs.DecisionLemmas.{dec_both, dec_either}
use Rattle.gptp_graph.proofs.OrderLemmas.{IsLower-dec}
use Rattle.gptp_graph.proofs.LinkDecisions.{PortIdentity-dec}
use Rattle.gptp_graph.proofs.SoundLemmas.{sound}
use Rattle.gptp_graph.proofs.SureTests.{sure_well_formed, sure_passes}

-- where the tests compute to true, the lines are the settled choice
settles_at : (g : Snapshot) (lines : List SystemLine) → (sure_well_formed g).0 ≡ true
    → (sure_passes g lines).0 ≡ true → SettlesAt g lines
settles_at g lines network passes =
    let wf = (sure_well_formed g).1 network in
    record { network = wf; choice = sound g lines wf ((sure_passes g lines).1 passes) }

-- the ring of clocks 2, 3 and 4
pub ring_settles : SettlesAt ring_network ring_lines
unfolding ℕ_discrete dec_le dec_lt dec_both dec_either IsLower-dec PortIdentity-dec
ring_settles = settles_at ring_network ring_lines refl refl

-- two crossed links
pub parallel_settles : SettlesAt parallel_network parallel_lines
unfolding ℕ_discrete dec_le dec_lt dec_both dec_either IsLower-dec PortIdentity-dec
parallel_settles = settles_at parallel_network parallel_lines refl refl

-- the triangle
pub triangle_settles : SettlesAt triangle_network triangle_lines
unfolding ℕ_discrete dec_le dec_lt dec_both dec_either IsLower-dec PortIdentity-dec
triangle_settles = settles_at triangle_network triangle_lines refl refl

-- the ring with two ways from the best to the far corner
pub square_settles : SettlesAt square_network square_lines
unfolding ℕ_discrete dec_le dec_lt dec_both dec_either IsLower-dec PortIdentity-dec
square_settles = settles_at square_network square_lines refl refl

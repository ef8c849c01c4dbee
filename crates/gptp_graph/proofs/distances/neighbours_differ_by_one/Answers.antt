use Rattle.std.proofs.Common.{suc, ◌≤◌, arith}
use Rattle.gptp_graph.proofs.LinkLemmas.{Adjacent-sym}
use Rattle.gptp_graph.proofs.DistanceLemmas.{IsDistance-neighbour}
use Rattle.gptp_graph.proofs.distances.neighbours_differ_by_one.Goals as goal

pub returns : goal.returns
returns c = λ g v w d e wf adjacent here there.
    let back : d ≤ suc e = IsDistance-neighbour g w v e d wf (Adjacent-sym g v w adjacent) there here in
    let on : e ≤ suc d = IsDistance-neighbour g v w d e wf adjacent here there in
    (omega arith, omega arith)

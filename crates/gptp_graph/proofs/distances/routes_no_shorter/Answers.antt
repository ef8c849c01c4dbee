use Rattle.gptp_graph.proofs.DistanceLemmas.{least_route, distance_from}
use Rattle.gptp_graph.proofs.distances.routes_no_shorter.Goals as goal

pub returns-clause-any : goal.returns-clause-any
returns-clause-any c = least_route

pub returns-clause-best : goal.returns-clause-best
returns-clause-best c =
    λ g v d best us wf is here route. least_route g best.clock v d us (distance_from g v d best wf is here) route

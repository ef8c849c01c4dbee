-- The systems are those of the graph.
use Rattle.std.proofs.Common.{subst}
use Rattle.gptp_topology.specs.Tables.{systems_in}
use Rattle.gptp_lint.specs.Graph.{HaveOctets}
use Rattle.gptp_lint.proofs.labels.labels_of.Goals as goal

pub returns-clause-octets : goal.returns-clause-octets
returns-clause-octets c =
    subst (λ ns. HaveOctets (systems_in ns)) c.deref.ensures.value c.in_ok-labels.ensures.octets

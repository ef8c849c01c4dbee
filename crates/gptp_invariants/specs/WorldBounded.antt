-- What the live systems of a world state of themselves, and that it is bounded as in a settled network.
use Rattle.std.specs.Prelude.{if◌then◌else◌, List, [], ◌∷◌}
use Rattle.gptp_graph.specs.Marking.{Statement}
use Rattle.gptp_graph.specs.MarkingLaws.{StatementsAreBounded}
use Rattle.gptp_system.specs.State.{clock}
use Rattle.gptp_model.specs.declared.station.Station.{Station}
use Rattle.gptp_model.specs.World.{WorldState}
use Rattle.gptp_invariants.specs.WorldStanding.{snapshot_of}

-- what a system states of itself
abbrev pub statement_of : Station → Statement
statement_of station = record {
  clock = clock station.system;
  root = station.system.root;
  steps = station.system.steps;
}

-- what the live ones do, in their order
abbrev pub statements : List Station → List Statement
statements [] = []
statements (station ∷ stations) =
    if station.live then statement_of station ∷ statements stations else statements stations

abbrev pub statements_of : WorldState → List Statement
statements_of w = statements w.stations

-- No live system, near or far, states a root below its component's best, nor that root over fewer steps than its
-- distance; where the distance is below 255, it states both.
abbrev pub IsBoundedWorld : WorldState → Type 0
IsBoundedWorld w = StatementsAreBounded (snapshot_of w) (statements_of w)

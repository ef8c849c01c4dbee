-- The oldest frame is gone.
use Rattle.slab.specs.Slab.{get}
use Rattle.gptp_links.proofs.FlightLemmas.{changes-taken, frames-taken}
use Rattle.gptp_links.proofs.lane.Lane.take.Goals as goal

pub returns-clause-taken : goal.returns-clause-taken
returns-clause-taken c =
    let gone = c.remove-flight.ensures in
    rw c.without_first.ensures
    (frames-taken (get c.args.flights.now) (get c.remove-flight.new.self) c.args.self.now c.remove-flight.result
    gone.value gone.updates.others c.requires.some c.requires.chained)

pub returns-clause-others : goal.returns-clause-others
returns-clause-others c =
    let gone = c.remove-flight.ensures in
    rw c.without_first.ensures
    (changes-taken c.args.flights.now c.remove-flight.new.self c.args.self.now c.remove-flight.result gone.value
    gone.updates gone.len gone.capacity c.requires.some c.requires.chained)

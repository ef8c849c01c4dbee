-- The frame comes after the others.
use Rattle.slab.specs.Slab.{get}
use Rattle.gptp_links.specs.Flights.{flight_key}
use Rattle.gptp_links.proofs.FlightLemmas.{changes-pushed, frames-pushed}
use Rattle.gptp_links.proofs.lane.Lane.put.Goals as goal

pub returns-clause-frames : goal.returns-clause-frames
returns-clause-frames c =
    let new = c.insert_reserved-place.ensures in
    rw c.with_last.ensures
    (frames-pushed (get c.args.flights.now) (get c.insert_reserved-place.new.self) (get c.join.new.flights)
    c.args.self.now (flight_key c.insert_reserved-place.result) _ new.was_vacant new.updates.changed new.updates.others
    c.join.ensures.joined c.requires.chained)

pub returns-clause-others : goal.returns-clause-others
returns-clause-others c =
    let new = c.insert_reserved-place.ensures in
    rw c.with_last.ensures
    (changes-pushed c.args.flights.now c.insert_reserved-place.new.self c.join.new.flights c.args.self.now
    (flight_key c.insert_reserved-place.result) _ new.was_vacant new.updates new.len new.capacity c.join.ensures.room
    c.join.ensures.joined c.requires.chained c.requires.late)

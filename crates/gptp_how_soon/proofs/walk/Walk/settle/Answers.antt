-- What is told is what its view says.
use Rattle.std.proofs.Common.{if◌then◌else◌, ap, ◌∙◌}
use Rattle.std.specs.Option.{is_some}
use Rattle.gptp_how_soon.specs.Flight.{flight_over}
use Rattle.gptp_how_soon.specs.Rest.{no_moves}
use Rattle.gptp_how_soon.specs.Walk.{moves_seen}
use Rattle.gptp_how_soon.proofs.SettleLemmas.{settled_so, turned}
use Rattle.gptp_how_soon.proofs.walk.Walk.settle.Goals as goal

pub returns-clause-is : goal.returns-clause-is
returns-clause-is c =
    settled_so c.args.network.now c.args.self.now c.args.at c.is_none-first.result
    c.is_from_rest-from_rest.result c.is_calm.result c.sets_link.result c.up_is_used-all_used.result
    c.any_silent.result c.longest_up-longest.result c.flight_over-flight.result c.flight_over-flight_before.result
    c.in_ok-moves.moves
    c.args.paths
    c.as_slice-told.result.now c.as_slice-standings.result.now c.as_slice-used.result.now c.as_slice-new.result.now
    c.ready-ready.result c.heard.result c.way_span.result c.arrived_by-arrived.result
    c.arrived_before-arrived_before.result c.row_of.result c.times_by.result
    c.times_by.ensures.is
    (c.flight_over-flight.ensures
    ∙ ap (λ arrived. flight_over c.up_is_used-all_used.result c.args.paths.delay c.longest_up-longest.result arrived c.args.at)
    c.from.ensures)
    c.flight_over-flight_before.ensures
    c.longest_up-longest.ensures
    c.arrived_before-arrived_before.ensures
    c.up_is_used-all_used.ensures c.any_silent.ensures c.row_of.ensures
    (c.in_ok-moves.ensures.is
    ∙ ap (λ asked. if asked then moves_seen c.args.network.now c.args.self.now c.args.at else no_moves)
    c.asks_who_is_moved-asked.ensures)
    c.is_from_rest-from_rest.ensures c.way_span.ensures.is c.heard.ensures.is
    c.ready-ready.ensures.is c.sets_link.ensures c.is_calm.ensures
    (c.as_slice-new.ensures.value ∙ c.in_ok-new.ensures)
    c.as_slice-told.ensures.value c.as_slice-standings.ensures.value c.as_slice-used.ensures.value
    c.requires.paths
    (turned (is_some c.args.self.now.before) c.is_none-first.result c.is_none-first.ensures)
    c.arrived_by-arrived.ensures.is

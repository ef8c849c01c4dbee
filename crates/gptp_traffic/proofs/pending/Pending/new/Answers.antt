use Rattle.std.proofs.Common.{◌∙◌, map, sym, arith}
use Rattle.std.proofs.lemmas.List.{length-map}
use Rattle.gptp_model.specs.Pending.{arrival_place}
use Rattle.gptp_traffic.specs.Flight.{flight_place}
use Rattle.gptp_traffic.proofs.FlightLemmas.{frames-none, places-none}
use Rattle.gptp_traffic.proofs.pending.Pending.new.Goals as goal

pub invariant_of-result : goal.invariant_of-result
invariant_of-result c =
    let flights = c.in_ok-flights.flights in let places = c.in_ok-queue.ensures.places in
    let len = c.in_ok-items.ensures.len in let long = c.in_ok-items.items.ok.0 in
    rw (c.in_ok-queue.ensures.entries, c.new-3.ensures.items) (
      record {
        few_systems = c.requires.systems;
        few_links = c.requires.links;
        timers = omega (arith, places);
        queues_len = length-map flights.queues (map flight_place) ∙ c.in_ok-flights.ensures.len;
        known = tt;
        placed = tt;
        queues = λ link direction. sym (places-none flights (arrival_place link direction)
            (c.in_ok-flights.ensures.none (arrival_place link direction)));
        are_free = record { arrivals = tt; within = tt; vacant = tt; differ = tt };
      },
      record {
        in_queue = omega arith;
        in_index = omega arith;
        in_free = omega arith;
        each_place = omega (arith, places, len, long);
      },
    )

pub returns-clause-frames : goal.returns-clause-frames
returns-clause-frames c = λ lane. frames-none c.in_ok-flights.flights lane (c.in_ok-flights.ensures.none lane)

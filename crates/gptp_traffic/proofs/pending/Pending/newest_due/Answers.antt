use Rattle.std.proofs.Common.{◌≡◌, ◌-◌, length, Option, Some, None, slice_get, ap, sym, ◌∙◌}
use Rattle.std.specs.Option.{option_copied, option_map_or}
use Rattle.gptp_chain.specs.Queues.{queue_at}
use Rattle.gptp_model.specs.Pending.{arrival_place}
use Rattle.gptp_traffic.specs.Flight.{FlightState}
use Rattle.gptp_traffic.proofs.FlightLemmas.{due_of, last-due_at}
use Rattle.gptp_traffic.proofs.pending.Pending.newest_due.Goals as goal

pub returns-in-Some : goal.returns-in-Some
returns-in-Some c =
    let p = c.self.inside in let lane = arrival_place c.args.link c.args.direction in
    let here : Some c.in-Some.flight.now
    ≡ slice_get (queue_at lane p.flights) (length (queue_at lane p.flights) - 1) =
    sym (ap option_copied c.in-Some.is) ∙ rw c.arrival_place.ensures at c.last.ensures in
    rw (← c.self.view_is)
    (ap due_of c.flight.view_is ∙ ap (λ (o : Option FlightState). option_map_or due_of o 0) here
    ∙ last-due_at p.flights lane)

pub returns-in-None : goal.returns-in-None
returns-in-None c =
    let p = c.self.inside in let lane = arrival_place c.args.link c.args.direction in
    let none : None ≡ slice_get (queue_at lane p.flights) (length (queue_at lane p.flights) - 1) =
    sym (ap option_copied c.in-None.is) ∙ rw c.arrival_place.ensures at c.last.ensures in
    rw (← c.self.view_is)
    (ap (λ (o : Option FlightState). option_map_or due_of o 0) none ∙ last-due_at p.flights lane)

use Rattle.std.proofs.Common.{ap, arith}
use Rattle.gptp_queue.specs.Waiting.{WaitingState}
use Rattle.gptp_traffic.specs.Flight.{places_of}
use Rattle.gptp_traffic.proofs.PendingIndexLemmas.{index-grown}
use Rattle.gptp_traffic.proofs.pending.Pending.make_room.Goals as goal

pub invariant_of-self-in_err-make_places : goal.invariant_of-self-in_err-make_places
invariant_of-self-in_err-make_places c =
    let p = c.self.inside in let made = c.make_places.ensures.made in let has = c.self.invariant.1 in
    let in_queue = has.in_queue in let in_index = has.in_index in let in_free = has.in_free in
    let room = c.reserve.ensures.room in let more = c.reserve-2.ensures.room in let len = made.len in
    let same = ap (λ (q : WaitingState). q.room) made.queue in (
      index-grown p.systems p.links (places_of p.flights) (places_of c.reserve-2.new.self) p.queue c.reserve.new.self
          c.make_places.new.queue p.items.items c.make_places.new.items.items p.free.items
          c.make_places.new.free.items c.self.invariant.0 (ap places_of c.reserve-2.ensures.kept) c.reserve.ensures.kept made,
      record {
        in_queue = omega (arith, in_queue, room, same);
        in_index = omega (arith, in_index, more);
        in_free = omega (arith, in_free, len);
        each_place = made.each_place;
      },
    )

pub invariant_of-self-2 : goal.invariant_of-self-2
invariant_of-self-2 c =
    let p = c.self.inside in let made = c.make_places.ensures.made in
    let same = ap (λ (q : WaitingState). q.room) made.queue in let room = c.in_ok-reserve.ensures.ok in
    let more = c.in_ok-reserve-2.ensures.ok in let len = c.in_ok-make_places.ensures.ok in (
      index-grown p.systems p.links (places_of p.flights) (places_of c.reserve-2.new.self) p.queue c.reserve.new.self
          c.make_places.new.queue p.items.items c.make_places.new.items.items p.free.items
          c.make_places.new.free.items c.self.invariant.0 (ap places_of c.reserve-2.ensures.kept) c.reserve.ensures.kept made,
      record {
        in_queue = omega (arith, room, same);
        in_index = omega (arith, more);
        in_free = omega (arith, len);
        each_place = made.each_place;
      },
    )

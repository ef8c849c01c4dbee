use Rattle.std.proofs.Common.{map, refl, ap, arith}
use Rattle.gptp_traffic.specs.Flight.{flight_frame, flight_place, places_of}
use Rattle.gptp_traffic.specs.PendingIndex.{placed_items}
use Rattle.gptp_traffic.proofs.PendingLemmas.{same_state}
use Rattle.gptp_traffic.proofs.PendingIndexLemmas.{index-copied}
use Rattle.gptp_traffic.proofs.pending.Pending.copy.Goals as goal

pub invariant_of-result : goal.invariant_of-result
invariant_of-result c =
    let p = c.self.inside in let each = c.self.invariant.1.each_place in
    rw (
      c.in_ok-copy.ensures,
      c.in_ok-from_slice.ensures.items,
      c.deref.ensures.value,
      c.in_ok-from_slice-2.ensures.items,
      c.deref-2.ensures.value,
    ) (
      index-copied p.systems p.links (places_of p.flights) (places_of c.in_ok-copy-2.field-0) p.queue.places
          p.free.items (placed_items p.items.items p.queue.entries) c.self.invariant.0
          (ap (map (map flight_place)) c.in_ok-copy-2.ensures.queues),
      record {
        in_queue = omega arith;
        in_index = omega arith;
        in_free = omega arith;
        each_place = each;
      },
    )

pub returns : goal.returns
returns c =
    rw (
      ← c.self.view_is,
      c.in_ok-copy.ensures,
      c.in_ok-from_slice.ensures.items,
      c.deref.ensures.value,
    ) (same_state _ _ refl refl refl (ap (map (map flight_frame)) c.in_ok-copy-2.ensures.queues) refl)

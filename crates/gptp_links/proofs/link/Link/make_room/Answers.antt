-- The slab has room for what both directions can hold.
use Rattle.std.proofs.Common.{◌≡◌, arith, ap}
use Rattle.slab.specs.Slab.{slab_len}
use Rattle.gptp_links.specs.declared.lane.Lane.{Lane}
use Rattle.gptp_links.proofs.FlightLemmas.{linked-larger, linked-roomy}
use Rattle.gptp_links.proofs.link.Link.make_room.Goals as goal

pub invariant_of-self : goal.invariant_of-self
invariant_of-self c = (
  c.self.invariant.0,
  linked-larger c.self.inside.flights c.reserve.new.self c.self.inside.from_a c.self.inside.from_b
      c.self.invariant.1 c.reserve.ensures.rest_kept c.reserve.ensures.capacity,
)

pub invariant_of-self-2 : goal.invariant_of-self-2
invariant_of-self-2 c =
    let room = c.in_ok-reserve.ensures.room in
    let len = c.len.ensures in
    let same : slab_len c.reserve.new.self ≡ slab_len c.self.inside.flights =
    ap slab_len c.reserve.ensures.rest_kept in
    let capacity = c.in_ok-capacity.ensures in
    let from_a = ap (λ (l : Lane). l.limit) c.in_ok-from_a.ensures in
    let from_b = ap (λ (l : Lane). l.limit) c.in_ok-from_b.ensures in
    let all = c.self.invariant.1.alone in
    rw (c.in_ok-from_a.ensures, c.in_ok-from_b.ensures) (
      c.self.invariant.0,
      linked-roomy c.self.inside.flights c.reserve.new.self c.self.inside.from_a c.self.inside.from_b c.args.from_a
          c.args.from_b c.self.invariant.1 c.reserve.ensures.rest_kept
          (omega (arith, room, len, same, capacity, from_a, from_b, all)),
    )

-- What is in flight from end a is as it was where a frame from end b is sent.
use Rattle.std.proofs.Common.{refl}
use Rattle.gptp_links.proofs.FlightLemmas.{linked-changed_back, queue-changed_back, only-then}
use Rattle.gptp_links.proofs.link.Link.send.Goals as goal

pub invariant_of-self-in-FromB : goal.invariant_of-self-in-FromB
invariant_of-self-in-FromB g c = (
  c.self.invariant.0,
  linked-changed_back c.self.inside.flights c.send-in-FromB.new.flights c.self.inside.from_a
      c.self.inside.from_b c.send-in-FromB.new.self c.self.invariant.1 c.send-in-FromB.ensures.others
      c.send-in-FromB.ensures.few,
)

pub returns-in-FromB-clause-others : goal.returns-in-FromB-clause-others
returns-in-FromB-clause-others g c =
    only-then c.args.direction c.args.self.now c.make_room_for_one.new.self _ c.make_room_for_one.ensures.others
    (rw (c.in-FromB.is, ← c.self.view_is) (record {
      other_way = queue-changed_back c.self.inside.flights c.send-in-FromB.new.flights c.self.inside.from_a
          c.self.inside.from_b c.send-in-FromB.new.self c.self.invariant.1 c.send-in-FromB.ensures.others;
      bounds = refl;
      up = refl;
    }))

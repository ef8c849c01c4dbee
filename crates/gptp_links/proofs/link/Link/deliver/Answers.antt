-- What is in flight from end a is as it was where a frame from end b is taken out.
use Rattle.std.proofs.Common.{refl, arith}
use Rattle.gptp_links.proofs.FlightLemmas.{linked-changed_back, queue-changed_back}
use Rattle.gptp_links.proofs.link.Link.deliver.Goals as goal

pub invariant_of-self-in-FromB : goal.invariant_of-self-in-FromB
invariant_of-self-in-FromB c =
    let changes = c.deliver-in-FromB.ensures.others in
    let count = c.deliver-in-FromB.ensures.count in
    let limit = changes.limit in
    let few = c.self.invariant.1.few_from_b in (
      c.self.invariant.0,
      linked-changed_back c.self.inside.flights c.deliver-in-FromB.new.flights c.self.inside.from_a
          c.self.inside.from_b c.deliver-in-FromB.new.self c.self.invariant.1 changes
          (omega (arith, count, limit, few)),
    )

pub returns-in-FromB-clause-others : goal.returns-in-FromB-clause-others
returns-in-FromB-clause-others c =
    rw (c.in-FromB.is, ← c.self.view_is) (record {
      other_way = queue-changed_back c.self.inside.flights c.deliver-in-FromB.new.flights c.self.inside.from_a
          c.self.inside.from_b c.deliver-in-FromB.new.self c.self.invariant.1 c.deliver-in-FromB.ensures.others;
      bounds = refl;
      up = refl;
    })

use Rattle.std.proofs.Common.{arith}
use Rattle.gptp_queue.specs.Order.{Within}
use Rattle.gptp_queue.proofs.QueueLemmas.{first_swept, holds_swept}
use Rattle.gptp_queue.proofs.queue.Queue.make_room.Goals as goal

pub invariant_of-self : goal.invariant_of-self
invariant_of-self c =
    let q = c.self.inside in let old = c.self.invariant in let new = c.reserve.ensures in
    let fits = old.fits in let room = new.room in record {
      holds = holds_swept q.table.entries q.table.next (Within q.order.parts) old.holds (Within c.reserve.new.self.parts)
          new.swept;
      there = first_swept q.table.entries q.table.next (Within q.order.parts) old.holds (Within c.reserve.new.self.parts)
          q.order.first c.reserve.new.self.first old.there new.swept new.least;
      fits = omega (arith, fits, room);
      numbers = old.numbers;
    }

pub invariant_of-self-2 : goal.invariant_of-self-2
invariant_of-self-2 c =
    let q = c.self.inside in let old = c.self.invariant in let new = c.reserve.ensures in
    let numbers = c.numbers-numbers.ensures in let room = c.room.ensures in let least = c.min-self-inside.ensures in record {
      holds = holds_swept q.table.entries q.table.next (Within q.order.parts) old.holds (Within c.reserve.new.self.parts)
          new.swept;
      there = first_swept q.table.entries q.table.next (Within q.order.parts) old.holds (Within c.reserve.new.self.parts)
          q.order.first c.reserve.new.self.first old.there new.swept new.least;
      fits = omega (arith, least, room);
      numbers = omega (arith, least, numbers);
    }

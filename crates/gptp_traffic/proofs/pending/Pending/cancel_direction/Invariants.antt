use Rattle.std.proofs.Common.{length}
use Rattle.gptp_model.specs.declared.item.Item.TheVariants.{Arrival}
use Rattle.gptp_model.specs.Pending.{arrival_place}
use Rattle.gptp_traffic.proofs.PendingLemmas.{Cancels}
use Rattle.gptp_traffic.proofs.pending.Pending.cancel_direction.Given as goal

abbrev pub invariant-loop : goal.invariant-loop
invariant-loop l =
    Cancels (Arrival l.fn.link l.fn.direction) (arrival_place l.fn.link l.fn.direction) l.initial.self l.self

abbrev pub decreases-loop : goal.decreases-loop
decreases-loop l = length l.self.entries

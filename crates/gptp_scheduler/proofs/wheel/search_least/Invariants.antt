use Rattle.slab.specs.Slab.{get}
use Rattle.gptp_scheduler.specs.Chain.{numbers_in}
use Rattle.gptp_scheduler.specs.Wheel.{rank, Searched}
use Rattle.gptp_scheduler.proofs.wheel.search_least.Given as goal

-- the least of what was gone through
abbrev pub invariant-loop-next : goal.invariant-loop-next
invariant-loop-next g l = Searched (get l.nodes) l.slot l.least l.next

abbrev pub decreases-loop-next : goal.decreases-loop-next
decreases-loop-next g l = rank (numbers_in (get l.nodes) l.slot) l.next

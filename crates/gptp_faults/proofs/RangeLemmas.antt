-- The changes of a case are in their ranges.
use Rattle.std.proofs.Common.{List, [], ◌∷◌, map}
use Rattle.std.specs.List.{AllByRecursion}
use Rattle.gptp_vector.specs.declared.port.PortId.{PortId}
use Rattle.gptp_faults.specs.CaseEvents.{IsChangeInRange}
use Rattle.gptp_faults.specs.declared.case_events.CaseChange.TheVariants.{LinkDown, LinkUp}

pub downs_in_range : (ports : List PortId) → AllByRecursion IsChangeInRange (map LinkDown ports)
downs_in_range [] = tt
downs_in_range (p ∷ ps) = (tt, downs_in_range ps)

pub ups_in_range : (ports : List PortId) → AllByRecursion IsChangeInRange (map LinkUp ports)
ups_in_range [] = tt
ups_in_range (p ∷ ps) = (tt, ups_in_range ps)

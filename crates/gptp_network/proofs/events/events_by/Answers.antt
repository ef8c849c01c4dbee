-- The closure tests an event's time, and the events are in order.
use Rattle.std.proofs.Common.{rules, Bool, nat_le}
use Rattle.std.proofs.lemmas.List.Sorted.{IsPartitionPoint-from_clause, IsPartitionedBy-leb}
use Rattle.gptp_scenario.specs.declared.change.Timed.{Timed}
use Rattle.gptp_network.proofs.TakingLemmas.{front, in_time}
use Rattle.gptp_network.proofs.events.events_by.Goals as goal

pub returns : goal.returns
returns c =
    let events = c.args.events.now in
    let count = c.partition_point-count.result in
    let facts = c.partition_point-count.ensures in
    let early : Timed → Bool = λ t. nat_le t.at c.args.until in
    let parted = IsPartitionedBy-leb (λ (t : Timed). t.at) events c.args.until (in_time events c.requires) in
    front early events count facts.bound
    (IsPartitionPoint-from_clause early events count facts.partitioned parted (λ a r q called. search rules))

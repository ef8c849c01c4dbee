-- What is left, by its number, added to what there is, is what all make of what there was.
use Rattle.std.proofs.Common.{◌≡◌, drop}
use Rattle.toml.specs.View.{items_view}
use Rattle.gptp_network.specs.Events.{AreEvents}
use Rattle.gptp_network.specs.ReadEvents.{read_with_event}
use Rattle.gptp_network.specs.ReadMembers.{read_each}
use Rattle.gptp_network.specs.declared.place.Section.TheVariants.{Event}
use Rattle.gptp_network.proofs.events.add_each.Given as goal

abbrev pub invariant-loop-number : goal.invariant-loop-number
invariant-loop-number l =
    (read_each Event (read_with_event l.network) l.number (items_view (drop l.number l.values)) l.events.items
    ≡ read_each Event (read_with_event l.network) 0 (items_view l.values) l.initial.events.items)
    × AreEvents l.network l.events.items

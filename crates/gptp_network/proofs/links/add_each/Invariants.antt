-- What is left, by its number, added to what there is, is what all make of what there was.
use Rattle.std.proofs.Common.{◌≡◌, drop}
use Rattle.toml.specs.View.{items_view}
use Rattle.gptp_network.specs.ReadLinks.{read_with_link}
use Rattle.gptp_network.specs.ReadMembers.{read_each}
use Rattle.gptp_network.specs.declared.place.Section.TheVariants.{Link}
use Rattle.gptp_network.proofs.links.add_each.Given as goal

abbrev pub invariant-loop-number : goal.invariant-loop-number
invariant-loop-number l =
    read_each Link read_with_link l.number (items_view (drop l.number l.links)) l.network
    ≡ read_each Link read_with_link 0 (items_view l.links) l.initial.network

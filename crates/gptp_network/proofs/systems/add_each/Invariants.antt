-- What is left, by its number, added to what there is, is what all make of what there was.
use Rattle.std.proofs.Common.{◌≡◌, drop}
use Rattle.toml.specs.View.{items_view}
use Rattle.gptp_network.specs.ReadMembers.{read_each}
use Rattle.gptp_network.specs.ReadSystems.{read_with_system}
use Rattle.gptp_network.specs.declared.place.Section.TheVariants.{System}
use Rattle.gptp_network.proofs.systems.add_each.Given as goal

abbrev pub invariant-loop-number : goal.invariant-loop-number
invariant-loop-number l =
    read_each System (read_with_system l.version) l.number (items_view (drop l.number l.systems)) l.network
    ≡ read_each System (read_with_system l.version) 0 (items_view l.systems) l.initial.network

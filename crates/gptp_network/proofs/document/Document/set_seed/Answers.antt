-- The events are those of the network whatever its seed.
use Rattle.std.proofs.Common.{subst, sym}
use Rattle.gptp_network.specs.Events.{AreEvents}
use Rattle.gptp_network.proofs.EventLemmas.{events_seeded}
use Rattle.gptp_network.proofs.document.Document.set_seed.Goals as goal

pub invariant_of-self : goal.invariant_of-self
invariant_of-self c =
    let events = c.self.inside.events.items in
    subst (λ n. AreEvents n events) (sym c.set_seed.ensures) (events_seeded _ c.args.seed events c.self.invariant)

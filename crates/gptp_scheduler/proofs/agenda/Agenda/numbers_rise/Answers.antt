use Rattle.slab.specs.Slab.{get}
use Rattle.gptp_scheduler.proofs.AgendaLemmas.{rise}
use Rattle.gptp_scheduler.proofs.agenda.Agenda.numbers_rise.Goals as goal

pub returns : goal.returns
returns g c = rw (← c.self.view_is)
    (rise (get c.self.inside.nodes) c.self.inside.base c.self.inside.next c.self.inside.slots c.self.inside.filed.items
    c.self.inside.first c.self.invariant.0)

-- Where the bound of a stretch is over, near systems read from the clock of the best of their component.
use Rattle.std.proofs.Common.{◌++◌, ℕ, Option, sym, subst, ◌∙◌}
use Rattle.gptp_links.specs.declared.bounds.Bounds.{Bounds}
use Rattle.gptp_model.specs.Acts.{at}
use Rattle.gptp_model.specs.Views.{rising_clocks}
use Rattle.gptp_network.specs.Snapshot.{events_by}
use Rattle.gptp_roles.specs.Selection.{clock_of}
use Rattle.gptp_timeline.specs.Readings.{readings_after}
use Rattle.gptp_timeline_laws.specs.Moments.{world_after}
use Rattle.gptp_timeline_laws.specs.Sources.{ReadsFromClock, TimelinesReadFromBests}
use Rattle.gptp_timeline_laws.proofs.RootLemmas.{timelines_read_from_roots}
use Rattle.gptp_timeline_laws.proofs.StandsLemmas.{root_then, span_over_then, stands_so}

pub timelines_read_from_bests : {F : Type 0} (answers : Bounds → ℕ → F → Option ℕ → F → Type 0)
    → TimelinesReadFromBests answers
timelines_read_from_bests answers d until options fate lines exceeded t playable ends p w c rs g time bound name root
    moment s begins has bounds late planned near identity lives slave known =
    let k = stands_so answers d until options fate lines exceeded t playable ends p w c time moment begins in
    let (best, is_best, is) = identity in
    let same = root_then answers d playable (rising_clocks t.start) (events_by p.from d.events)
    (k.before ++ moment.done) (at time (world_after moment.done w)) k.stands k.timed bounds.0 g planned name near
    (span_over_then d p.from bound time playable bounds late) best is_best s lives in
    subst (λ r. ReadsFromClock (readings_after moment.done rs) name (clock_of r)) (same ∙ sym is)
    (timelines_read_from_roots answers d until options fate lines exceeded t playable ends p w c rs time moment name s
    begins has lives slave known)

use Rattle.std.proofs.Common.{map, sym, subst, ap, ◌∙◌}
use Rattle.gptp_graph.specs.Order.{IsRising}
use Rattle.gptp_timeline.proofs.PlaceLemmas.{clock_of_watched, cleared_clocks}
use Rattle.gptp_timeline.proofs.watch.Watch.begin.Goals as goal

pub invariant_of-self : goal.invariant_of-self
invariant_of-self c =
    subst IsRising (sym (ap (map clock_of_watched) c.clear_errors.ensures
    ∙ cleared_clocks c.self.inside.systems.items)) c.self.invariant

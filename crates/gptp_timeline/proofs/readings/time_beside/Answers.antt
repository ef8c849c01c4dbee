use Rattle.std.proofs.Common.{◌∙◌, ap, sym}
use Rattle.gptp_timeline.specs.Readings.{source_time}
use Rattle.gptp_timeline.specs.declared.readings.TimeSource.{TimeSource}
use Rattle.gptp_timeline.proofs.TimeSourceLemmas.{source_is}
use Rattle.gptp_timeline.proofs.readings.time_beside.Goals as goal

pub returns-then-eq-clause-is : goal.returns-then-eq-clause-is
returns-then-eq-clause-is g c =
    c.requires.other
    ∙ sym (ap (λ (s : TimeSource). source_time s c.args.at c.args.world.now.world_core)
    (source_is c.args.kept.now.source c.args.other.now.source (sym c.eq.ensures ∙ c.if-eq.true)))

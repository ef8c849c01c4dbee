use Rattle.std.proofs.Common.{ap, ◌∙◌}
use Rattle.gptp_timeline.specs.Sources.{difference_of}
use Rattle.gptp_timeline.proofs.SourceEndsLemmas.{told_among}
use Rattle.gptp_timeline.proofs.sources.told_difference.Goals as goal

pub returns : goal.returns
returns g c = λ rs sources.
    c.difference_of.ensures ∙ ap difference_of c.ends_of.ensures
    ∙ told_among c.args.at c.args.world.now.world_core c.args.sources.now rs sources

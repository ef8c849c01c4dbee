use Rattle.std.proofs.Common.{ap, ◌∙◌}
use Rattle.gptp_faults.specs.Astray.{most_systems}
use Rattle.gptp_faults.proofs.MostLemmas.{most_is}
use Rattle.gptp_faults.proofs.astray.most_of.Goals as goal

pub returns : goal.returns
returns c =
    c.most_followed.ensures ∙ ap most_systems c.deref.ensures.value
    ∙ most_is c.args.roots.now c.in_ok-follows.follows.items c.in_ok-follows.ensures

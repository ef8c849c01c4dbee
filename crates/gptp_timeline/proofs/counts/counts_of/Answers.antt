-- In whatever order roots stand, as many are counted.
use Rattle.std.proofs.Common.{ap₂, ◌∙◌}
use Rattle.std.specs.List.{count_by}
use Rattle.gptp_timeline.specs.Stretch.{counted_roots, is_without, roots_of, shown_of_all}
use Rattle.gptp_timeline.proofs.RootLemmas.{counted_same}
use Rattle.gptp_timeline.proofs.counts.counts_of.Goals as goal

pub returns : goal.returns
returns c =
    let all = shown_of_all c.args.systems.now in
    c.counted_roots.ensures
    ∙ ap₂ (λ without roots. counted_roots without roots) c.without.ensures c.deref.ensures.value
    ∙ counted_same (count_by is_without all) (roots_of all) c.in_ok-roots.roots.items c.in_ok-roots.ensures.roots

-- A root that is there once differs from its neighbours.
use Rattle.std.proofs.Common.{◌&&◌, not, ap, sym, ◌∙◌}
use Rattle.gptp_timeline.specs.Roots.{same_before}
use Rattle.gptp_timeline.proofs.RootLemmas.{alone_is}
use Rattle.gptp_timeline.proofs.counts.is_alone.Goals as goal

pub returns-then-another_next : goal.returns-then-another_next
returns-then-another_next c =
    let roots = c.args.roots.now in let place = c.args.place in
    ap not c.same_before.ensures
    ∙ ap (λ next. next && not (same_before roots place)) (sym (sym c.another_next.ensures ∙ c.if-another_next.true))
    ∙ alone_is roots place c.requires.rise c.requires.place

pub returns-else-another_next : goal.returns-else-another_next
returns-else-another_next c =
    let roots = c.args.roots.now in let place = c.args.place in
    c.if-another_next.false
    ∙ ap (λ next. next && not (same_before roots place)) (sym (sym c.another_next.ensures ∙ c.if-another_next.false))
    ∙ alone_is roots place c.requires.rise c.requires.place

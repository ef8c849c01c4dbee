-- A root that is there for the last time, and not for the first, differs from the next and not from the one before.
use Rattle.std.proofs.Common.{◌&&◌, ap, sym, ◌∙◌}
use Rattle.gptp_timeline.specs.Roots.{same_before}
use Rattle.gptp_timeline.proofs.RootLemmas.{last_of_several_is}
use Rattle.gptp_timeline.proofs.counts.is_last_of_several.Goals as goal

pub returns-then-another_next : goal.returns-then-another_next
returns-then-another_next c =
    let roots = c.args.roots.now in let place = c.args.place in
    c.same_before.ensures
    ∙ ap (λ next. next && same_before roots place) (sym (sym c.another_next.ensures ∙ c.if-another_next.true))
    ∙ last_of_several_is roots place c.requires.rise c.requires.place

pub returns-else-another_next : goal.returns-else-another_next
returns-else-another_next c =
    let roots = c.args.roots.now in let place = c.args.place in
    c.if-another_next.false
    ∙ ap (λ next. next && same_before roots place) (sym (sym c.another_next.ensures ∙ c.if-another_next.false))
    ∙ last_of_several_is roots place c.requires.rise c.requires.place

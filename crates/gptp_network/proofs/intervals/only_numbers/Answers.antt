-- One number more has been read.
use Rattle.std.proofs.Common.{◌+◌, ◌∷◌, ◌++◌, [], drop, ap, sym, ◌∙◌}
use Rattle.std.proofs.lemmas.List.{drop_more}
use Rattle.gptp_network.proofs.IntervalLemmas.{next_read}
use Rattle.gptp_network.proofs.intervals.only_numbers.Goals as goal

pub loop-value-preserved : goal.loop-value-preserved
loop-value-preserved c =
    let values = c.args.values.now in let i = c.loop-value.value-index in let value = c.value-item.result in
    let (zs, read) = c.loop-value.invariant in let z = c.in_ok-number_of.field-0 in
    let next =
    drop_more values i value c.loop-value-test.true ∙ ap (λ v. v ∷ drop (i + 1) values) (sym c.value-item.is) in
    (zs ++ z ∷ [], next_read values i value zs z next (sym c.in_ok-number_of.ensures) read)

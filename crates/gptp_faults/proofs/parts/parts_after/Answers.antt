use Rattle.std.proofs.Common.{◌≡◌, sym, ap, subst, ◌∙◌}
use Rattle.gptp_faults.specs.Parts.{AreFew, kept, parts_of, weighed}
use Rattle.gptp_faults.proofs.PlacedLemmas.{kept_few, parts_few}
use Rattle.gptp_faults.proofs.parts.parts_after.Goals as goal

pub returns-clause-few : goal.returns-clause-few
returns-clause-few c =
    let xs = c.in_ok-all.all.items in
    let weights : c.in_ok-weights.weights.items ≡ weighed xs =
    c.in_ok-weights.ensures ∙ ap weighed c.deref.ensures.value in
    let are_kept : c.in_ok-kept.kept.items ≡ kept (weighed xs) =
    c.in_ok-kept.ensures ∙ ap kept (c.deref-3.ensures.value ∙ weights) in
    let are : c.in_ok-main.main.items ≡ parts_of (kept (weighed xs)) =
    c.in_ok-main.ensures ∙ ap parts_of (c.deref-4.ensures.value ∙ are_kept) in
    subst AreFew (sym are) (parts_few (kept (weighed xs)) (kept_few xs c.in_ok-all.ensures.few))

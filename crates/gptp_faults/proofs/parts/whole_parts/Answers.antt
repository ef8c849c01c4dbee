use Rattle.std.proofs.Common.{◌≡◌, sym, ap, subst, ◌∙◌}
use Rattle.gptp_faults.specs.Parts.{AreFew, parts_of}
use Rattle.gptp_faults.proofs.PlacedLemmas.{parts_few}
use Rattle.gptp_faults.proofs.parts.whole_parts.Goals as goal

pub returns-clause-few : goal.returns-clause-few
returns-clause-few c =
    let are : c.in_ok-parts_of.field-0.items ≡ parts_of c.in_ok-all.all.items =
    c.in_ok-parts_of.ensures ∙ ap parts_of c.deref.ensures.value in
    subst AreFew (sym are) (parts_few c.in_ok-all.all.items c.in_ok-all.ensures.few)

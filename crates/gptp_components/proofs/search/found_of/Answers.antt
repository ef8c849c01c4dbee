use Rattle.gptp_components.proofs.FoundLemmas.{unfound_there}
use Rattle.gptp_components.proofs.search.found_of.Goals as goal

pub returns-in_err-place_of-clause-none : goal.returns-in_err-place_of-clause-none
returns-in_err-place_of-clause-none c =
    rw c.from_residual.ensures (λ d is. let only = c.in_err-place_of.ensures.only is.place is.has in absurd cc)

pub returns-clause-none : goal.returns-clause-none
returns-clause-none c =
    unfound_there c.args.snapshot.now c.args.found.now c.args.clock c.in_ok-place_of.field-0
    c.in_ok-place_of.ensures.only c.found_at.result c.found_at.ensures.none

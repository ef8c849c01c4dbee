use Rattle.gptp_components.proofs.FoundLemmas.{distance_none, distance_some, place_there}
use Rattle.gptp_components.proofs.distance.distance_of.Goals as goal

pub returns-in_err-place_of-clause-none : goal.returns-in_err-place_of-clause-none
returns-in_err-place_of-clause-none c =
    rw c.from_residual.ensures (λ live.
    let (place, has) = place_there c.args.snapshot.now c.args.clock live in
    let only = c.in_err-place_of.ensures.only place has in
    absurd cc)

pub returns-clause-some : goal.returns-clause-some
returns-clause-some c =
    distance_some c.args.snapshot.now c.args.distances.now c.requires c.args.clock c.in_ok-place_of.field-0
    c.in_ok-place_of.ensures.some c.distance_at.result c.distance_at.ensures

pub returns-clause-none : goal.returns-clause-none
returns-clause-none c =
    distance_none c.args.snapshot.now c.args.distances.now c.requires c.args.clock c.in_ok-place_of.field-0
    c.in_ok-place_of.ensures.some c.distance_at.result c.distance_at.ensures

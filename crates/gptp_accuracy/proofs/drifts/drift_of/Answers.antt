use Rattle.std.proofs.Common.{arith}
use Rattle.std.proofs.lemmas.Option.{slice_get_within}
use Rattle.gptp_lists.proofs.SystemSpecLemmas.{slice_get-In}
use Rattle.gptp_accuracy.proofs.drifts.drift_of.Goals as goal

pub returns : goal.returns
returns c = λ m member is.
    let (place, there) = slice_get-In m c.args.network.now.systems member in
    let within = slice_get_within c.args.network.now.systems place m there in
    absurd (c.loop-place.invariant place m (omega arith) there is)

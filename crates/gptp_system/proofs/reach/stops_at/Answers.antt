use Rattle.gptp_system.proofs.PlaceLemmas.{number_is}
use Rattle.gptp_system.proofs.reach.stops_at.Goals as goal

pub returns : goal.returns
returns c =
    let number = number_is c.args.ports.now c.args.port c.index-ports-from.result c.requires.least c.requires.most in
    rw (number, ← c.from.ensures, ← c.index-ports-from.is) c.stops.ensures

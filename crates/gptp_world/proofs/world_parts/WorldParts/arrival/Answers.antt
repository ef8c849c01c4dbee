use Rattle.std.proofs.Common.{◌<◌, length, refl, arith}
use Rattle.gptp_lists.proofs.PlaceLemmas.{member_there}
use Rattle.gptp_world.proofs.world_parts.WorldParts.arrival.Goals as goal

pub returns-clause-some : goal.returns-clause-some
returns-clause-some c =
    let channels = c.args.self.now.net.traffic.net.channels in
    let test = c.if-links-link.false in let count = c.links.ensures in
    let less : c.args.link < length channels = omega (arith, test, count) in
    let found = member_there channels c.args.link less in
    (refl, (refl, record { channel = found.0; here = found.1; so = tt }))

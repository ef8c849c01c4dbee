use Rattle.std.proofs.Common.{◌≡◌, to_z, of_z, w8, to_z-of_z}
use Rattle.gptp_system.specs.Announcing.{aged_by}
use Rattle.gptp_system.proofs.PlaceLemmas.{change_is}
use Rattle.gptp_system.proofs.announcing.age_at.Goals as goal

pub returns : goal.returns
returns c =
    let largest : to_z w8 (of_z w8 c.args.largest) ≡ c.args.largest = to_z-of_z c.ranges.largest in
    rw (c.age_held.ensures, c.from.ensures, largest)
    (change_is (aged_by c.args.params.now c.args.largest c.args.now) c.args.held.now c.args.port
    c.index-held-from.result c.requires.least c.requires.most)

use Rattle.std.proofs.Common.{◌≤◌, length}
use Rattle.gptp_system.specs.Lapse.{dropped}
use Rattle.gptp_system.proofs.PlaceLemmas.{change_is, change_past}
use Rattle.gptp_system.proofs.lapse.drop_at.Goals as goal

pub returns-then-number-held : goal.returns-then-number-held
returns-then-number-held c =
    let least : 1 ≤ c.args.port = rw c.from-number.ensures at c.if-number-ge1.true in
    let most : c.args.port ≤ length c.args.held.now = rw c.from-number.ensures at c.if-number-held.true in
    rw (c.drop_received.ensures, c.from-number.ensures)
    (change_is dropped c.args.held.now c.args.port c.index-held-number.result least most)

pub returns-else-number-ge1 : goal.returns-else-number-ge1
returns-else-number-ge1 c =
    change_past dropped c.args.held.now c.args.port c.from-number.result c.from-number.ensures c.else-number-ge1.either

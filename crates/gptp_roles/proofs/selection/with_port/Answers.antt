use Rattle.std.proofs.Common.{◌<◌, ap, arith}
use Rattle.gptp_receipt.specs.Held.{received}
use Rattle.gptp_roles.proofs.selection.with_port.Goals as goal

pub path-path-requires : goal.path-path-requires
path-path-requires c =
    let near : c.in-Received.reception.vector.steps < 255 = c.requires _ (ap received c.in-Received.is) in
    omega arith

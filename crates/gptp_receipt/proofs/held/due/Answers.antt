use Rattle.std.proofs.Common.{ap}
use Rattle.gptp_receipt.specs.Held.{received}
use Rattle.gptp_receipt.proofs.held.due.Goals as goal

pub overflow_add-result : goal.overflow_add-result
overflow_add-result c = record { fits = c.requires _ (ap received c.in-Received.is) }

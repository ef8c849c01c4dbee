use Rattle.std.proofs.Common.{arith}
use Rattle.gptp_traffic.proofs.PlacedLemmas.{placed-put}
use Rattle.gptp_traffic.proofs.pending.put_item.Goals as goal

pub returns-clause-put : goal.returns-clause-put
returns-clause-put c =
    let within = c.requires.place in let items = c.requires.items in
    rw c.put_reserved.ensures.entries
    (placed-put c.args.items.now.items c.args.place c.args.item c.args.time c.args.queue.now.next
    c.args.queue.now.entries (omega (arith, within, items)))

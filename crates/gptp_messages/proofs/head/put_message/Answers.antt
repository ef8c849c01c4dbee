use Rattle.std.proofs.Common.{append_assoc}
use Rattle.gptp_messages.proofs.head.put_message.Goals as goal

pub returns-clause-ok : goal.returns-clause-ok
returns-clause-ok c =
    rw (c.put-2.ensures.items, c.put.ensures.items, c.in_ok-reserve.ensures.items, c.octets.ensures)
    (append_assoc c.args.out.now.items _ c.args.behind.now)

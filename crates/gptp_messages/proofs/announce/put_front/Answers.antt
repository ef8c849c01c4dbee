use Rattle.std.proofs.Common.{append_assoc}
use Rattle.gptp_messages.proofs.announce.put_front.Goals as goal

pub returns-clause-ok : goal.returns-clause-ok
returns-clause-ok c =
    rw (
      c.put-4.ensures.items,
      c.put-3.ensures.items,
      c.put-2.ensures.items,
      c.put.ensures.items,
      c.in_ok-reserve.ensures.items,
      c.octets.ensures,
      c.octets-2.ensures,
      c.to_be_bytes.ensures,
      c.to_be_bytes-2.ensures,
    ) (simp append_assoc)

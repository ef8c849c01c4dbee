use Rattle.std.proofs.Common.{append_assoc}
use Rattle.gptp_messages.proofs.WrittenLemmas.{written_announce-front}
use Rattle.gptp_messages.proofs.announce.encode_announce.Goals as goal

pub returns-clause-ok : goal.returns-clause-ok
returns-clause-ok c =
    rw (
      c.put_clocks.ensures.octets,
      c.in_ok-put_front.ensures.ok,
      c.as_slice.ensures,
      c.len.ensures.count,
      written_announce-front c.args.head.now c.args.body.now c.args.path.now,
    )
    (simp append_assoc)

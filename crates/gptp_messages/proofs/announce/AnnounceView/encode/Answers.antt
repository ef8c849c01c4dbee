use Rattle.std.proofs.Common.{append_assoc, arith, ap, ◌∙◌}
use Rattle.std.proofs.Common.{length}
use Rattle.gptp_messages.proofs.PathLemmas.{length-path_octets}
use Rattle.gptp_messages.proofs.WrittenLemmas.{written_announce-front}
use Rattle.gptp_messages.proofs.announce.AnnounceView.encode.Goals as goal

pub put-requires : goal.put-requires
put-requires c =
    let octets = ap length c.octets.ensures ∙ length-path_octets c.args.self.now.path in
    omega (arith, c.in_ok-put_front.ensures.room, c.len.ensures)

pub returns-clause-ok : goal.returns-clause-ok
returns-clause-ok c =
    rw (
      c.put.ensures.items,
      c.in_ok-put_front.ensures.ok,
      c.octets.ensures,
      c.len.ensures,
      written_announce-front c.args.self.now.head c.args.self.now.body c.args.self.now.path,
    ) (simp append_assoc)

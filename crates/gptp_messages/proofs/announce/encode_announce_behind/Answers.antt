use Rattle.std.proofs.Common.{◌≡◌, ◌+◌, [], ◌∷◌, ◌++◌, length, ap, append_assoc, arith}
use Rattle.std.proofs.lemmas.List.{length-append}
use Rattle.std.proofs.lemmas.Grind.{flat_map-append}
use Rattle.byteorder.specs.Endian.{big_bytes}
use Rattle.gptp_messages.specs.Path.{path_octets}
use Rattle.gptp_messages.proofs.PathLemmas.{length-path_octets}
use Rattle.gptp_messages.proofs.WrittenLemmas.{written_announce-front}
use Rattle.gptp_messages.proofs.announce.encode_announce_behind.Goals as goal

pub put_clocks-requires-2 : goal.put_clocks-requires-2
put_clocks-requires-2 c =
    let room = c.in_ok-put_front.ensures.room in
    let kept = c.put_clocks.ensures.capacity in
    let written = ap length c.put_clocks.ensures.octets in
    let both = length-append c.put_front.new.out.items (path_octets c.args.path.now) in
    let octets = length-path_octets c.args.path.now in
    omega (arith, room, kept, written, both, octets)

pub returns-clause-ok : goal.returns-clause-ok
returns-clause-ok c =
    let count : length (c.args.path.now ++ c.args.last ∷ []) ≡ length c.args.path.now + 1 =
    length-append c.args.path.now (c.args.last ∷ []) in
    rw (
      c.put_clocks-2.ensures.octets,
      c.put_clocks.ensures.octets,
      c.in_ok-put_front.ensures.ok,
      written_announce-front c.args.head.now c.args.body.now (c.args.path.now ++ c.args.last ∷ []),
      count,
      flat_map-append (λ c. big_bytes 8 c) c.args.path.now (c.args.last ∷ []),
    )
    (simp append_assoc)

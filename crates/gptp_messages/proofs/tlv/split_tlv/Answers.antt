use Rattle.std.proofs.Common.{◌<◌, ◌≤◌, length, drop, arith, refl, ◌∙◌}
use Rattle.gptp_messages.specs.Frame.{field}
use Rattle.gptp_messages.proofs.TlvLemmas.{is_front, front_is_long}
use Rattle.gptp_messages.proofs.tlv.split_tlv.Goals as goal

pub returns-then-behind-length-clause-refused : goal.returns-then-behind-length-clause-refused
returns-then-behind-length-clause-refused c =
    let octets = c.args.octets.now in
    let short : length (drop 4 octets) < field 2 2 octets =
    rw (← c.split_at.ensures.back, ← c.u16_at.ensures, ← c.from-length.ensures) c.if-behind-length.true in
    (refl, λ front. let long = front_is_long octets front in absurd (omega (arith, long.1)))

pub returns-clause-front : goal.returns-clause-front
returns-clause-front c =
    let octets = c.args.octets.now in
    let number = c.from-length.ensures ∙ c.u16_at.ensures in
    let whole : field 2 2 octets
    ≤ length (drop 4 octets) = rw (← c.split_at.ensures.back, ← number) c.if-behind-length.false in
    let front = is_front octets (λ i. omega (arith, c.type_inv.octets i)) (omega (arith, c.if-octets-lt4.false)) whole
    (rw (← c.u16_at-2.ensures) (omega arith)) (rw (← c.u16_at.ensures) (omega arith)) in
    rw (c.split_at-2.ensures.front, c.split_at-2.ensures.back, c.split_at.ensures.back, number, c.u16_at-2.ensures)
    front

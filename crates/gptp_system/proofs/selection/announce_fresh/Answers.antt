use Rattle.std.proofs.Common.{◌≡◌, ◌+◌, ◌<◌, ◌≤◌, suc, length, take, ◌∙◌, sym, arith}
use Rattle.std.proofs.lemmas.List.{length-take}
use Rattle.gptp_system.specs.declared.sending.TheConstants.{MOST_SENDS}
use Rattle.gptp_system.proofs.AnnouncementLemmas.{not_reached, port_at, length-announcements, all_announced-more, announcements-more}
use Rattle.gptp_system.proofs.selection.announce_fresh.Goals as goal

pub announce_if-requires-clause-log : goal.announce_if-requires-clause-log
announce_if-requires-clause-log c =
    let i = c.loop-flag.flag-index in
    let fresh = c.args.fresh.now in
    let ports = c.args.ports.now in
    let here = c.from.ensures ∙ c.loop-flag.invariant.number in
    let reached : length (take i fresh) ≤ i = omega (arith, length-take i fresh) in
    let within : i < length ports = omega (arith, c.loop-flag-test.true, c.requires.flags) in
    rw (
      here,
      c.loop-flag.invariant.ports,
      not_reached c.args.now i (take i fresh) ports c.index-ports-from.result
          reached,
    )
    (port_at ports i c.index-ports-from.result c.requires.ports within).log_interval

pub announce_if-requires-clause-room : goal.announce_if-requires-clause-room
announce_if-requires-clause-room c =
    let i = c.loop-flag.flag-index in
    let fresh = c.args.fresh.now in
    let sent = length-announcements c.args.clock c.args.root c.args.steps 1 (take i fresh) c.args.ports.now in
    let count : length c.loop-flag.outbox.items < MOST_SENDS =
    rw c.loop-flag.invariant.sends (omega (arith, sent, length-take i fresh, c.requires.flags, c.requires.few)) in
    omega (arith, count)

pub loop-flag-preserved : goal.loop-flag-preserved
loop-flag-preserved c =
    let i = c.loop-flag.flag-index in
    let fresh = c.args.fresh.now in
    let ports = c.args.ports.now in
    let d = c.index-ports-from.result in
    let here = c.from.ensures ∙ c.loop-flag.invariant.number in
    let reached : length (take i fresh) ≤ i = omega (arith, length-take i fresh) in
    let few : length fresh ≤ length ports = omega (arith, c.requires.flags) in
    let next : i + 1 ≡ suc i = omega arith in
    let number : c.loop-flag.number + 1 ≡ 1 + i = omega (arith, c.loop-flag.invariant.number) in
    record {
      number = omega (arith, c.loop-flag.invariant.number);
      ports = rw (
        next,
        c.announce_if.ensures.port,
        here,
        c.loop-flag.invariant.ports,
        not_reached c.args.now i (take i fresh) ports d reached,
      ) (all_announced-more c.args.now i fresh ports d c.loop-flag-test.true few);
      sends = rw (
        next,
        c.announce_if.ensures.sends,
        c.loop-flag.invariant.sends,
        here,
        c.loop-flag.invariant.ports,
        not_reached c.args.now i (take i fresh) ports d reached,
        number,
      ) (sym (announcements-more c.args.clock c.args.root c.args.steps 1 i fresh ports d c.loop-flag-test.true few));
    }

use Rattle.std.proofs.Common.{◌≡◌, ◌+◌, ◌<◌, ◌≤◌, suc, length, take, ◌∙◌, sym, arith, to_z, of_z, w8, to_z-of_z}
use Rattle.std.proofs.lemmas.List.{length-take}
use Rattle.gptp_system.specs.declared.sending.TheConstants.{MOST_SENDS}
use Rattle.gptp_system.proofs.SyncLemmas.{not_reached, length-syncs, counted-more, syncs-more}
use Rattle.gptp_system.proofs.syncing.tell_all.Goals as goal

pub tell_if-requires-clause-room : goal.tell_if-requires-clause-room
tell_if-requires-clause-room c =
    let before = take c.loop-one.one-index c.args.held.now in
    let sent = length-syncs c.args.clock c.args.log_interval c.args.told.now 1 before c.args.ports.now in
    let reached = length-take c.loop-one.one-index c.args.held.now in
    let log : to_z w8 (of_z w8 c.args.log_interval) ≡ c.args.log_interval = to_z-of_z c.ranges.log_interval in
    let count : length c.loop-one.outbox.items + 1 < MOST_SENDS =
    rw (c.loop-one.invariant.sends, log)
    (omega (arith, sent, reached, c.loop-one-test.true, c.requires.places, c.requires.few)) in
    omega (arith, count)

pub loop-one-preserved : goal.loop-one-preserved
loop-one-preserved c =
    let i = c.loop-one.one-index in
    let held = c.args.held.now in
    let ports = c.args.ports.now in
    let h = c.one-item.result in
    let d = c.index-ports-from.result in
    let here = c.from.ensures ∙ c.loop-one.invariant.number in
    let reached : length (take i held) ≤ i = omega (arith, length-take i held) in
    let few : length held ≤ length ports = omega (arith, c.requires.places) in
    let kept = not_reached i (take i held) ports d reached in
    let next : i + 1 ≡ suc i = omega arith in
    let log : to_z w8 (of_z w8 c.args.log_interval) ≡ c.args.log_interval = to_z-of_z c.ranges.log_interval in
    let number : c.loop-one.number + 1 ≡ 1 + i = omega (arith, c.loop-one.invariant.number) in
    let more = syncs-more c.args.clock c.args.log_interval c.args.told.now 1 i held ports h d c.loop-one-test.true
    c.one-item.is few in
    record {
      number = omega (arith, c.loop-one.invariant.number);
      ports = rw (next, c.tell_if.ensures.port, here, c.loop-one.invariant.ports, kept)
          (counted-more i held ports h d c.loop-one-test.true c.one-item.is few);
      sends = rw (
        next,
        c.tell_if.ensures.sends,
        c.loop-one.invariant.sends,
        here,
        c.loop-one.invariant.ports,
        kept,
        number,
        log,
      ) (sym more);
    }

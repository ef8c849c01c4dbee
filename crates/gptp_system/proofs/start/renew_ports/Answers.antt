use Rattle.std.proofs.Common.{◌≡◌, ◌+◌, ◌<◌, ◌≤◌, pos, suc, length, take, rules, ap, ◌∙◌, arith, w8, SFits, to_z-of_z}
use Rattle.std.specs.Prelude.{get_or, slice_index_or}
use Rattle.std.proofs.lemmas.List.{length-take, take_all}
use Rattle.gptp_system.proofs.PlaceLemmas.{get_at}
use Rattle.gptp_system.proofs.StartLemmas.{renewed, renewed-all, renewed-behind, renewed-more}
use Rattle.gptp_system.proofs.start.renew_ports.Goals as goal

pub renew_port-requires : goal.renew_port-requires
renew_port-requires c =
    let i = c.loop-log_interval.log_interval-index in
    let logs = c.args.intervals.now in
    let ports = c.args.ports.now in
    let d = c.index-ports-from.result in
    let here = c.from.ensures ∙ c.loop-log_interval.invariant.number in
    let reached : length (take i logs) ≤ i = omega (arith, length-take i logs) in
    let within : i < length ports = omega (arith, c.loop-log_interval-test.true, c.requires.places) in
    rw (
      here,
      c.loop-log_interval.invariant.ports,
      renewed-behind c.args.clock c.args.params.now 1 i (take i logs) ports d reached,
    )
    (c.requires.windows i (slice_index_or ports i d) (get_at ports i d within))

pub loop-log_interval-preserved : goal.loop-log_interval-preserved
loop-log_interval-preserved c =
    let i = c.loop-log_interval.log_interval-index in
    let logs = c.args.intervals.now in
    let ports = c.args.ports.now in
    let here = c.from.ensures ∙ c.loop-log_interval.invariant.number in
    let next : i + 1 ≡ suc i = omega arith in
    let number : c.loop-log_interval.number + 1 ≡ 1 + i = omega (arith, c.loop-log_interval.invariant.number) in
    let fits : SFits w8 (get_or logs i (pos 0)) = search rules in
    record {
      number = omega (arith, c.loop-log_interval.invariant.number);
      ports = rw (
        next,
        c.renew_port.ensures,
        here,
        c.loop-log_interval.invariant.ports,
        number,
        to_z-of_z fits,
      )
          (renewed-more c.args.clock c.args.params.now 1 i logs ports c.loop-log_interval-test.true c.requires.places);
    }

pub returns : goal.returns
returns c =
    let i = c.loop-log_interval.log_interval-index in
    let logs = c.args.intervals.now in
    let ports = c.args.ports.now in
    let all = take_all i logs (omega (arith, c.loop-log_interval-test.false)) in
    c.loop-log_interval.invariant.ports ∙ ap (λ some. renewed c.args.clock c.args.params.now 1 some ports) all
    ∙ renewed-all c.args.clock c.args.params.now 1 logs ports c.requires.places

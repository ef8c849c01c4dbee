use Rattle.std.proofs.Common.{◌≡◌, length, map, ap, ◌∙◌, arith}
use Rattle.std.specs.List.{range_with_len}
use Rattle.std.proofs.lemmas.Grind.{common_steps}
use Rattle.std.proofs.lemmas.List.FromFn.{length-map-range_with_len}
use Rattle.gptp_timeline.specs.Ports.{shown_port}
use Rattle.gptp_timeline.proofs.PortLemmas.{next_port}
use Rattle.gptp_timeline.proofs.ports.ports_of.Goals as goal

pub push-requires : goal.push-requires
push-requires c =
    let so_far : length c.loop-place.ports.items ≡ c.loop-place.place =
    ap length c.loop-place.invariant
    ∙ length-map-range_with_len (shown_port c.args.system.now) 1 c.loop-place.place in
    grind (arith, common_steps)

pub loop-place-preserved : goal.loop-place-preserved
loop-place-preserved c =
    next_port (shown_port c.args.system.now) c.loop-place.ports.items c.push.new.self.items
    c.shown_port.result c.loop-place.place c.loop-place.invariant c.shown_port.ensures c.push.ensures.items

pub invariant_of-result : goal.invariant_of-result
invariant_of-result c =
    let so_far : length c.loop-place.ports.items ≡ c.loop-place.place =
    ap length c.loop-place.invariant
    ∙ length-map-range_with_len (shown_port c.args.system.now) 1 c.loop-place.place in
    grind (arith, common_steps)

pub returns : goal.returns
returns c =
    let all : c.loop-place.place ≡ length c.args.system.now.ports = grind (arith, common_steps) in
    c.loop-place.invariant ∙ ap (λ n. map (shown_port c.args.system.now) (range_with_len 1 n)) all

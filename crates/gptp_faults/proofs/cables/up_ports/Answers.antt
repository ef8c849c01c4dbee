use Rattle.std.proofs.Common.{◌≡◌, ◌+◌, ◌-◌, ◌++◌, ℕ, true, List, filter, map, sym, ap, ◌∙◌, append-nil, arith}
use Rattle.std.specs.List.{range_with_len}
use Rattle.gptp_setup.specs.declared.limits.TheConstants.{MOST_PORTS}
use Rattle.gptp_vector.specs.declared.port.PortId.{PortId}
use Rattle.gptp_faults.specs.Cables.{is_up_at, port_after}
use Rattle.gptp_faults.proofs.KeptLemmas.{passed_more}
use Rattle.gptp_faults.proofs.RefusalLemmas.{range_first}
use Rattle.gptp_faults.proofs.cables.up_ports.Goals as goal

pub loop-number-preserved : goal.loop-number-preserved
loop-number-preserved c =
    let cables = c.args.cables.now in let clock = c.args.clock in let number = c.loop-number.number in
    let ports = c.loop-number.ports.items in let so_far = c.loop-number.invariant in
    let below = c.loop-number-test.true in
    let rest : List PortId = map (port_after clock) (range_with_len (number + 1) (MOST_PORTS - (number + 1))) in
    record {
      are = ap (λ (ps : List PortId). ps ++ filter (is_up_at cables) rest) c.in_ok-push_up.ensures
          ∙ passed_more (is_up_at cables) (port_after clock number) rest ports
          ∙ ap (λ (ns : List ℕ). ports ++ filter (is_up_at cables) (map (port_after clock) ns))
          (sym (range_first (λ n. true) number MOST_PORTS below))
          ∙ so_far.are;
      most = omega (arith, below);
    }

-- no number is left
pub returns : goal.returns
returns c =
    let cables = c.args.cables.now in let clock = c.args.clock in
    let number = c.loop-number.number in let ports = c.loop-number.ports.items in
    let most = c.loop-number.invariant.most in let ended = c.loop-number-test.false in
    let none_left : 0 ≡ MOST_PORTS - number = omega (arith, most, ended) in
    sym (append-nil ports)
    ∙ ap (λ left. ports ++ filter (is_up_at cables) (map (port_after clock) (range_with_len number left))) none_left
    ∙ c.loop-number.invariant.are

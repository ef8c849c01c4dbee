use Rattle.std.proofs.Common.{◌≡◌, true, length, ap, arith}
use Rattle.arrayvec.specs.ArrayVec.{array_vec_len}
use Rattle.arrayvec.proofs.ArrayVecLemmas.{items-with_items}
use Rattle.gptp_system.specs.Ready.{state_of}
use Rattle.gptp_system.specs.Selection.{announced_again}
use Rattle.gptp_system.specs.State.{change}
use Rattle.gptp_system.proofs.ChangedLemmas.{change-length}
use Rattle.gptp_system.proofs.ReadyLemmas.{ports_ready, port_announced}
use Rattle.gptp_system.proofs.state.State.on_announce_timer.Goals as goal

pub returns-clause-ready : goal.returns-clause-ready
returns-clause-ready c =
    let s = c.args.self.now in
    let is : c.announce_at.new.ports ≡ change (announced_again c.args.now) c.args.port s.ports.items =
    rw (c.own-own.ensures, c.as_mut_slice.ensures.value) at c.announce_at.ensures.ports in
    let kept : length c.announce_at.new.ports
    ≡ array_vec_len s.ports =
    omega (arith, ap length is, change-length (announced_again c.args.now) c.args.port s.ports.items) in
    rw (items-with_items s.ports c.announce_at.new.ports kept)
    (ports_ready (state_of s) c.args.port (announced_again c.args.now) c.announce_at.new.ports c.requires.ready
    (port_announced c.args.now true) is)

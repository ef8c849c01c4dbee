use Rattle.std.proofs.Common.{◌≡◌, ◌≤◌, length, ap, arith}
use Rattle.arrayvec.specs.ArrayVec.{array_vec_len}
use Rattle.arrayvec.proofs.ArrayVecLemmas.{items-with_items}
use Rattle.gptp_system.specs.Ready.{state_of}
use Rattle.gptp_system.specs.Syncing.{counted_by_rates}
use Rattle.gptp_system.proofs.SyncLemmas.{length-counted, telling_ready}
use Rattle.gptp_system.proofs.state.State.tell.Goals as goal

pub returns-clause-ready : goal.returns-clause-ready
returns-clause-ready c =
    let s = c.args.self.now in
    let ports-are : c.tell_all.new.ports ≡ counted_by_rates s.held.items s.ports.items =
    rw (c.as_slice.ensures.value, c.as_mut_slice.ensures.value) at c.tell_all.ensures.ports in
    let few : length s.held.items ≤ length s.ports.items = omega (arith, c.requires.ready.places) in
    let kept : length c.tell_all.new.ports ≡ array_vec_len s.ports =
    omega (arith, ap length ports-are, length-counted s.held.items s.ports.items few) in
    rw (items-with_items s.ports c.tell_all.new.ports kept, ports-are) (telling_ready (state_of s) c.requires.ready)

use Rattle.std.proofs.Common.{◌≡◌, length, ap, ◌∙◌}
use Rattle.arrayvec.specs.ArrayVec.{array_vec_len}
use Rattle.arrayvec.proofs.ArrayVecLemmas.{items-with_items}
use Rattle.gptp_system.specs.Lapse.{lapsed}
use Rattle.gptp_system.specs.Ready.{state_of}
use Rattle.gptp_system.proofs.LapseLemmas.{length-lapsed}
use Rattle.gptp_system.proofs.ReadyLemmas.{lapsed_ready}
use Rattle.gptp_system.proofs.state.State.on_lapse_timer.Goals as goal

pub select-requires-clause-ready : goal.select-requires-clause-ready
select-requires-clause-ready c =
    let s = c.args.self.now in
    let is : c.drop_at_slave.new.held ≡ (lapsed (state_of s)).held =
    rw c.as_mut_slice.ensures.value at c.drop_at_slave.ensures in
    let kept : length c.drop_at_slave.new.held ≡ array_vec_len s.held = ap length is ∙ length-lapsed (state_of s) in
    rw (items-with_items s.held c.drop_at_slave.new.held kept, is) (lapsed_ready (state_of s) c.requires.ready)

use Rattle.std.proofs.Common.{◌≡◌, length, rules, ap, ◌∙◌, arith, w8, SFits, to_z-of_z}
use Rattle.arrayvec.specs.ArrayVec.{array_vec_len}
use Rattle.arrayvec.proofs.ArrayVecLemmas.{items-with_items}
use Rattle.gptp_receipt.specs.declared.held.Held.{Held}
use Rattle.gptp_system.specs.Announcing.{aged_by}
use Rattle.gptp_system.specs.Ready.{state_of}
use Rattle.gptp_system.specs.State.{change}
use Rattle.gptp_system.proofs.ChangedLemmas.{change-length}
use Rattle.gptp_system.proofs.ReadyLemmas.{held_ready, ageing_keeps}
use Rattle.gptp_system.proofs.state.State.on_age_timer.Goals as goal

pub select-requires-clause-ready : goal.select-requires-clause-ready
select-requires-clause-ready c =
    let s = c.args.self.now in
    let largest : SFits w8 s.largest = search rules in
    let ages : Held → Held = aged_by s.params s.largest c.args.now in
    let is : c.age_at.new.held ≡ change ages c.args.port s.held.items =
    rw (c.as_mut_slice.ensures.value, to_z-of_z largest) at c.age_at.ensures in
    let kept : length c.age_at.new.held ≡ array_vec_len s.held =
    omega (arith, ap length is, change-length ages c.args.port s.held.items) in
    rw (items-with_items s.held c.age_at.new.held kept)
    (held_ready (state_of s) c.args.port ages c.age_at.new.held c.requires.ready
    (ageing_keeps c.args.port s.params s.largest c.args.now) is)

pub returns-clause-step : goal.returns-clause-step
returns-clause-step c =
    let s = c.args.self.now in
    let largest : SFits w8 s.largest = search rules in
    let ages : Held → Held = aged_by s.params s.largest c.args.now in
    let is : c.age_at.new.held ≡ change ages c.args.port s.held.items =
    rw (c.as_mut_slice.ensures.value, to_z-of_z largest) at c.age_at.ensures in
    let kept : length c.age_at.new.held ≡ array_vec_len s.held =
    omega (arith, ap length is, change-length ages c.args.port s.held.items) in
    let items = items-with_items s.held c.age_at.new.held kept ∙ is in
    rw (← items) c.select.ensures.selects

use Rattle.std.proofs.Common.{◌≡◌, length, ap, ◌∙◌, sym, arith}
use Rattle.arrayvec.specs.ArrayVec.{array_vec_len}
use Rattle.arrayvec.proofs.ArrayVecLemmas.{items-with_items}
use Rattle.gptp_roles.specs.Role.{held_after_selection, is_fresh}
use Rattle.gptp_roles.specs.Selection.{IsSelection, clock_of}
use Rattle.gptp_roles.proofs.EachLemmas.{length-each_from}
use Rattle.gptp_system.specs.Ready.{state_of}
use Rattle.gptp_system.specs.State.{clock}
use Rattle.gptp_system.specs.Selection.{all_announced, announcements}
use Rattle.gptp_system.proofs.AnnouncementLemmas.{length-all_announced}
use Rattle.gptp_system.proofs.ReadyLemmas.{selects_ready}
use Rattle.gptp_system.proofs.SelectionLemmas.{took_over}
use Rattle.gptp_system.proofs.state.State.select.Goals as goal

pub announce_fresh-requires-clause-flags : goal.announce_fresh-requires-clause-flags
announce_fresh-requires-clause-flags c =
    let chosen = c.select-selected.ensures.selection in
    let flags = ap length chosen.fresh
    ∙ length-each_from (is_fresh chosen.chosen (clock_of c.args.self.now.identity)) 1 c.as_mut_slice.result.now in
    ap length c.as_slice.ensures.value ∙ flags ∙ ap length c.as_mut_slice.ensures.value ∙ c.requires.ready.places
    ∙ sym (ap length c.as_mut_slice-2.ensures.value)

pub returns-clause-selects : goal.returns-clause-selects
returns-clause-selects c =
    let s = c.args.self.now in
    let t = c.select-selected.result in
    let selection : IsSelection s.identity s.held.items t c.select-selected.new.held =
    rw c.as_mut_slice.ensures.value at c.select-selected.ensures.selection in
    let held-kept : length c.select-selected.new.held ≡ array_vec_len s.held =
    omega (
      arith,
      ap length selection.held,
      length-each_from (held_after_selection selection.chosen (clock_of s.identity)) 1
          s.held.items,
    ) in
    let held-is = items-with_items s.held c.select-selected.new.held held-kept in
    let ports-are : c.announce_fresh.new.ports ≡ all_announced c.args.now t.fresh.items s.ports.items =
    rw (← c.as_slice.ensures.value, ← c.as_mut_slice-2.ensures.value) c.announce_fresh.ensures.ports in
    let flags = ap length selection.fresh
    ∙ length-each_from (is_fresh selection.chosen (clock_of s.identity)) 1 s.held.items in
    let ports-kept : length c.announce_fresh.new.ports ≡ array_vec_len s.ports =
    omega (
      arith,
      ap length ports-are,
      length-all_announced c.args.now t.fresh.items s.ports.items
          (omega (arith, flags, c.requires.ready.places)),
    ) in
    let ports-is = items-with_items s.ports c.announce_fresh.new.ports ports-kept in
    let sends-are : c.announce_fresh.new.outbox.items
    ≡ announcements (clock (state_of s)) t.root t.steps 1 t.fresh.items s.ports.items =
    rw (← c.as_slice.ensures.value, ← c.as_mut_slice-2.ensures.value, ← c.clock-clock.ensures)
    c.announce_fresh.ensures.sends in
    rw (held-is, ports-is)
    (took_over c.args.now (state_of s) t c.select-selected.new.held c.announce_fresh.new.ports _ _ _ _ _ _
    c.follows_on-same.result selection ports-are
    sends-are
    c.follows_on-same.ensures
    (record {
      sync_in_is = c.forget_unless.ensures;
      known_is = c.kept_if-self.ensures;
      offset_is = c.kept_if-self-2.ensures;
      relay_is = c.kept_if-self-3.ensures;
      lapse_is = c.lapse_after-self.ensures;
    }))

pub returns-clause-ready : goal.returns-clause-ready
returns-clause-ready c =
    let s = c.args.self.now in
    let chosen = c.select-selected.ensures.selection in
    let held-kept : length c.select-selected.new.held ≡ array_vec_len s.held =
    omega (
      arith,
      ap length chosen.held,
      length-each_from (held_after_selection chosen.chosen (clock_of s.identity)) 1
          c.as_mut_slice.result.now,
      ap length c.as_mut_slice.ensures.value,
    ) in
    selects_ready c.args.now _ _ _ c.requires.ready
    (rw (items-with_items s.held c.select-selected.new.held held-kept) c.select-selected.ensures.placed)
    (returns-clause-selects c)

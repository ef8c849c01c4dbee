use Rattle.std.proofs.Common.{◌≡◌, ◌+◌, ◌++◌, List, ℕ, length, get_or, set, take, drop, refl, ap, ◌∙◌, arith}
use Rattle.std.proofs.lemmas.List.{length-take}
use Rattle.gptp_receipt.specs.declared.held.Held.{Held}
use Rattle.gptp_roles.specs.Role.{each_port, held_after_selection, is_fresh, chosen_role}
use Rattle.gptp_roles.specs.Selection.{clock_of}
use Rattle.gptp_roles.proofs.ChoiceLemmas.{receiver_of_chosen}
use Rattle.gptp_roles.proofs.EachLemmas.{each_port-done, each_port-push, get_or-half_done, length-each_from, set-half_done}
use Rattle.gptp_roles.proofs.RestLemmas.{at_rest, placed_after}
use Rattle.gptp_roles.proofs.SlaveLemmas.{slave_received}
use Rattle.gptp_roles.proofs.selection.select.Goals as goal

pub push-requires : goal.push-requires
push-requires c =
    let before = take c.loop-one.one-index c.args.held.now in
    let count = ap length c.loop-one.invariant.roles
    ∙ length-each_from (chosen_role c.best_vector-chosen.result c.clock-clock.result) 1 before in
    (omega arith, omega (arith, length-take c.loop-one.one-index c.args.held.now))

pub push-requires-in-loop-one : goal.push-requires-in-loop-one
push-requires-in-loop-one c =
    let before = take c.loop-one.one-index c.args.held.now in
    let count = ap length c.loop-one.invariant.fresh
    ∙ length-each_from (is_fresh c.best_vector-chosen.result c.clock-clock.result) 1 before in
    (omega arith, omega (arith, length-take c.loop-one.one-index c.args.held.now))

pub loop-one-preserved : goal.loop-one-preserved
loop-one-preserved c =
    let before = c.args.held.now in
    let place = c.loop-one.one-index in
    let one = c.one-item.result in
    let role = chosen_role c.best_vector-chosen.result c.clock-clock.result in
    let fresh = is_fresh c.best_vector-chosen.result c.clock-clock.result in
    let after = held_after_selection c.best_vector-chosen.result c.clock-clock.result in
    let port : c.loop-one.port + 1 ≡ place + 1 = ap (λ (n : ℕ). n + 1) c.loop-one.invariant.port in
    let within = c.loop-one-test.true in
    let held : get_or c.loop-one.held place one ≡ get_or before place one =
    ap (λ (hs : List Held). get_or hs place one) c.loop-one.invariant.held
    ∙ get_or-half_done after before place one within in
    let new_held : c.assign-role.new.held ≡ after (place + 1) (get_or before place one) =
    c.assign-role.ensures.held ∙ ap (λ (p : ℕ). after p (get_or c.loop-one.held place one)) port
    ∙ ap (after (place + 1)) held in
    record {
      port = port;
      roles = c.push.ensures.items
          ∙ each_port-push role before place one c.loop-one.roles.items c.assign-role.result.0 within
          c.loop-one.invariant.roles
          (c.assign-role.ensures.role ∙ ap (λ (p : ℕ). role p (get_or c.loop-one.held place one)) port
          ∙ ap (role (place + 1)) held);
      fresh = c.push-in-loop-one.ensures.items
          ∙ each_port-push fresh before place one c.loop-one.fresh.items c.assign-role.result.1 within
          c.loop-one.invariant.fresh
          (c.assign-role.ensures.fresh ∙ ap (λ (p : ℕ). fresh p (get_or c.loop-one.held place one)) port
          ∙ ap (fresh (place + 1)) held);
      held = ap (λ (hs : List Held). set hs place c.assign-role.new.held) c.loop-one.invariant.held
          ∙ set-half_done after before place one c.assign-role.new.held within
          ∙ ap (λ (hs : List Held). hs ++ drop (place + 1) before)
          (each_port-push after before place one (each_port after (take place before)) c.assign-role.new.held
          within refl new_held);
    }

pub slave_of-requires : goal.slave_of-requires
slave_of-requires c =
    let within = receiver_of_chosen c.args.identity.now c.args.held.now c.best_vector-chosen.result c.requires.placed
    c.best_vector-chosen.ensures in
    omega (arith, c.requires.ports)

pub returns-clause-placed : goal.returns-clause-placed
returns-clause-placed c =
    let after = held_after_selection c.best_vector-chosen.result c.clock-clock.result in
    let held = each_port-done after c.args.held.now c.loop-one.one-index c.loop-one.held c.loop-one-test.false
    c.loop-one.invariant.held in
    rw held (placed_after c.best_vector-chosen.result c.clock-clock.result 1 c.args.held.now c.requires.placed)

pub returns-clause-slave : goal.returns-clause-slave
returns-clause-slave c =
    let chosen = c.best_vector-chosen.result in
    let after = held_after_selection chosen c.clock-clock.result in
    let held = each_port-done after c.args.held.now c.loop-one.one-index c.loop-one.held c.loop-one-test.false
    c.loop-one.invariant.held in
    let rest = at_rest c.args.identity.now c.args.held.now chosen c.requires.placed c.best_vector-chosen.ensures in
    rw (held, c.slave_of.ensures, c.clock-clock.ensures)
    (slave_received c.args.identity.now (each_port
    (held_after_selection chosen (clock_of c.args.identity.now)) c.args.held.now)
    chosen rest.placed rest.is_chosen)

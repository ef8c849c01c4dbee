use Rattle.std.proofs.Common.{◌≡◌, ℕ, ℤ, ◌-ℤ◌, Option, Some, None, option_map, option_and_then, sym, ap, ◌∙◌}
use Rattle.std.proofs.lemmas.Int.{to_z-of_z}
use mir.Syntax.{w128}
use Rattle.gptp_model.specs.World.{WorldState}
use Rattle.gptp_roles.specs.Selection.{clock_of}
use Rattle.gptp_system.specs.State.{local_time, SystemState}
use Rattle.gptp_system.specs.Takeover.{told_time}
use Rattle.gptp_timeline.specs.Receipts.{offset_error}
use Rattle.gptp_timeline.specs.Shown.{live_system}
use Rattle.gptp_timeline.proofs.ShownLemmas.{live_shown, none_shown}
use Rattle.gptp_timeline.proofs.receipts.error_of.Goals as goal

-- the error, by the live system with the clock that the root names
by_leader : (at : ℕ) (s : SystemState) (w : WorldState) (offset : ℤ) (leader : ℕ) (live : Option SystemState)
    → Some offset ≡ s.offset → leader ≡ clock_of s.root → live_system leader w ≡ live
    → offset_error at s w
    ≡ option_map (λ (l : SystemState). offset -ℤ (local_time s at -ℤ told_time l at)) live
by_leader at s w offset leader live known named is =
    ap (option_and_then (λ (o : ℤ). option_map (λ (l : SystemState). o -ℤ (local_time s at -ℤ told_time l at))
    (live_system (clock_of s.root) w))) (sym known)
    ∙ ap (option_map (λ (l : SystemState). offset -ℤ (local_time s at -ℤ told_time l at)))
    (ap (λ n. live_system n w) (sym named) ∙ is)

pub returns-in-Some-system : goal.returns-in-Some-system
returns-in-Some-system g c =
    let w = c.args.world.now.world_core in let leader = c.in-Some-system.leader.now in
    ap Some (to_z-of_z w128 c.error_against.result (record { sfits = c.error_against.type_inv })
    ∙ c.error_against.ensures)
    ∙ sym (by_leader c.args.at c.args.system.now w c.in-Some.offset c.clock.result (Some leader) c.in-Some.ensures
    (c.clock.ensures ∙ ap clock_of c.follows-root.ensures.root)
    (live_shown c.clock.result w leader c.well_formed-2.ensures.sound.wired.clocks c.in-Some-system.ensures.some))

pub returns-in-None-system : goal.returns-in-None-system
returns-in-None-system g c =
    let w = c.args.world.now.world_core in
    sym (by_leader c.args.at c.args.system.now w c.in-Some.offset c.clock.result None c.in-Some.ensures
    (c.clock.ensures ∙ ap clock_of c.follows-root.ensures.root)
    (none_shown c.clock.result w c.in-None-system.ensures.none))

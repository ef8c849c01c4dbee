use Rattle.std.proofs.Common.{sym, subst, ◌∙◌}
use Rattle.gptp_model.specs.Pending.{IsNext}
use Rattle.gptp_model.specs.Sound.{IsSound}
use Rattle.gptp_model.specs.World.{WorldState}
use Rattle.gptp_invariants.specs.SyncTimedClaim.{WorldInvariant}
use Rattle.gptp_world.specs.ActTarget.{aim_of}
use Rattle.gptp_world.proofs.LaterLemmas.{room_later}
use Rattle.gptp_world.proofs.UnseenLemmas.{next_sound, went_on}
use Rattle.gptp_world.proofs.world_core.WorldCore.pass.Goals as goal

pub make_room_to_pass-requires-clause-next : goal.make_room_to_pass-requires-clause-next
make_room_to_pass-requires-clause-next g c = (
  c.args.time,
  subst (λ (w : WorldState). IsNext w.net.pending c.args.time c.args.item) (sym c.self.view_is) c.requires.next,
)

pub pass-requires-clause-sound : goal.pass-requires-clause-sound
pass-requires-clause-sound g c =
    next_sound c.args.item c.args.time c.args.self.now c.make_room_to_pass.new.self
    (subst IsSound c.self.view_is c.self.invariant.sound) (c.make_room_to_pass.ensures.world ∙ c.self.view_is)
    c.requires.next

pub pass-requires-clause-next : goal.pass-requires-clause-next
pass-requires-clause-next g c =
    subst (λ (w : WorldState). IsNext w.net.pending c.args.time c.args.item)
    (sym (c.make_room_to_pass.ensures.world ∙ c.self.view_is)) c.requires.next

pub pass-requires-clause-room : goal.pass-requires-clause-room
pass-requires-clause-room g c =
    room_later (aim_of c.args.item) c.make_room_to_pass.new.self c.args.time c.in_ok-make_room_to_pass.ensures.room

pub invariant_of-self-2 : goal.invariant_of-self-2
invariant_of-self-2 g c =
    let went = went_on g.F.Fate.answers c.args.item c.args.time c.args.fate.now c.pass.new.fate c.args.self.now
    c.make_room_to_pass.new.self c.pass.new.self (subst IsSound c.self.view_is c.self.invariant.sound)
    (subst WorldInvariant c.self.view_is c.self.invariant.claimed)
    (c.make_room_to_pass.ensures.world ∙ c.self.view_is) c.requires.next c.pass.ensures.done in
    record { stage_kept = c.pass.ensures.parts; sound = went.sound; claimed = went.claimed }

pub returns-clause-done : goal.returns-clause-done
returns-clause-done g c =
    let went = went_on g.F.Fate.answers c.args.item c.args.time c.args.fate.now c.pass.new.fate c.args.self.now
    c.make_room_to_pass.new.self c.pass.new.self (subst IsSound c.self.view_is c.self.invariant.sound)
    (subst WorldInvariant c.self.view_is c.self.invariant.claimed)
    (c.make_room_to_pass.ensures.world ∙ c.self.view_is) c.requires.next c.pass.ensures.done in
    went.unseen

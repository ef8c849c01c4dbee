use Rattle.std.proofs.Common.{◌≡◌, subst, sym, ◌∙◌}
use Rattle.gptp_model.specs.Acts.{at}
use Rattle.gptp_world.specs.ActTarget.{IsTargetOf}
use Rattle.gptp_world.specs.Memory.{AsksForNoMemory}
use Rattle.gptp_model.specs.Sound.{IsSound}
use Rattle.gptp_world.specs.WorldParts.{world_of}
use Rattle.gptp_invariants.specs.SyncTimedClaim.{WorldInvariant}
use Rattle.gptp_world.proofs.SettlingInvariantLemmas.{acted_claimed}
use Rattle.gptp_world.proofs.LaterLemmas.{aim_later, room_later}
use Rattle.gptp_world.proofs.WorldCoreLemmas.{ready_sound}
use Rattle.gptp_model.proofs.SoundLemmas.{acts_sound}
use Rattle.gptp_world.proofs.world_core.WorldCore.perform.Goals as goal

pub perform-requires-clause-sound : goal.perform-requires-clause-sound
perform-requires-clause-sound g c =
    ready_sound c.args.timed.now.act c.args.timed.now.at c.args.self.now (world_of c.make_room_for.new.self)
    (subst IsSound c.self.view_is c.self.invariant.sound) (c.make_room_for.ensures.world ∙ c.self.view_is)
    c.requires.ready

pub perform-requires-clause-target : goal.perform-requires-clause-target
perform-requires-clause-target g c =
    let made = c.make_room_for.new.self in
    let is : c.args.self.now ≡ world_of made = sym c.self.view_is ∙ sym c.make_room_for.ensures.world in
    aim_later c.args.timed.now.act (world_of made) c.args.timed.now.at c.args.target
    (subst (λ w. IsTargetOf c.args.timed.now.act w c.args.target) is c.requires.target)

pub perform-requires-clause-room : goal.perform-requires-clause-room
perform-requires-clause-room g c =
    room_later c.args.target c.make_room_for.new.self c.args.timed.now.at c.in_ok-make_room_for.ensures.room

pub returns-in_err-make_room_for-clause-free : goal.returns-in_err-make_room_for-clause-free
returns-in_err-make_room_for-clause-free g c = λ asks.
    let done = c.in_err-make_room_for.ensures.free
    (subst (AsksForNoMemory c.args.timed.now.act) (sym c.self.view_is) asks) in absurd cc

pub invariant_of-self-2 : goal.invariant_of-self-2
invariant_of-self-2 g c =
    let act = c.args.timed.now.act in let time = c.args.timed.now.at in let made = world_of c.make_room_for.new.self in
    let acted = c.perform.ensures.acted in
    let sound = ready_sound act time c.args.self.now made (subst IsSound c.self.view_is c.self.invariant.sound)
    (c.make_room_for.ensures.world ∙ c.self.view_is) c.requires.ready in
    record {
      stage_kept = c.perform.ensures.parts;
      sound = acts_sound act (at time made) acted.draws c.perform.result (world_of c.perform.new.self) sound
          c.requires.fit acted.acts;
      claimed = acted_claimed g.F.Fate.answers c.args.timed.now c.args.fate.now c.perform.new.fate c.args.self.now made
          (world_of c.perform.new.self) acted.draws c.perform.result
          (subst WorldInvariant c.self.view_is c.self.invariant.claimed)
          (c.make_room_for.ensures.world ∙ c.self.view_is)
          c.requires.fit c.requires.prompt c.requires.octet c.requires.ready acted.drawn acted.acts;
    }

use Rattle.std.proofs.Common.{subst}
use Rattle.gptp_world.proofs.PerformingLemmas.{aim_within, free_aim, AsksForNone, IsWithin}
use Rattle.gptp_world.proofs.world_parts.WorldParts.make_room_for.Goals as goal

pub make_room_to_take_down-requires-clause-link : goal.make_room_to_take_down-requires-clause-link
make_room_to_take_down-requires-clause-link c =
    let parts = c.args.self.now in
    subst (λ target. IsWithin target parts) c.in-LinkDown.is
    (aim_within c.args.act.now c.args.target parts c.requires.target)

pub make_room_to_bring_up-requires-clause-link : goal.make_room_to_bring_up-requires-clause-link
make_room_to_bring_up-requires-clause-link c =
    let parts = c.args.self.now in
    subst (λ target. IsWithin target parts) c.in-LinkUp.is
    (aim_within c.args.act.now c.args.target parts c.requires.target)

pub make_room_to_recover-requires-clause-place : goal.make_room_to_recover-requires-clause-place
make_room_to_recover-requires-clause-place c =
    let parts = c.args.self.now in
    subst (λ target. IsWithin target parts) c.in-Recover.is
    (aim_within c.args.act.now c.args.target parts c.requires.target)

pub make_room-requires-clause-place : goal.make_room-requires-clause-place
make_room-requires-clause-place c =
    let parts = c.args.self.now in
    subst (λ target. IsWithin target parts) c.in-Priority1.is
    (aim_within c.args.act.now c.args.target parts c.requires.target)

pub make_room_to_inject-requires-clause-link : goal.make_room_to_inject-requires-clause-link
make_room_to_inject-requires-clause-link c =
    let parts = c.args.self.now in
    subst (λ target. IsWithin target parts) c.in-Inject.is
    (aim_within c.args.act.now c.args.target parts c.requires.target)

pub returns-in-LinkDown-clause-free : goal.returns-in-LinkDown-clause-free
returns-in-LinkDown-clause-free c = λ asks.
    let parts = c.args.self.now in
    c.make_room_to_take_down.ensures.free
    (subst (λ target. AsksForNone target parts) c.in-LinkDown.is
    (free_aim c.args.act.now c.args.target parts c.requires.target asks))

pub returns-in-LinkUp-clause-free : goal.returns-in-LinkUp-clause-free
returns-in-LinkUp-clause-free c = λ asks.
    let parts = c.args.self.now in
    c.make_room_to_bring_up.ensures.free
    (subst (λ target. AsksForNone target parts) c.in-LinkUp.is
    (free_aim c.args.act.now c.args.target parts c.requires.target asks))

pub returns-in-Recover-clause-free : goal.returns-in-Recover-clause-free
returns-in-Recover-clause-free c = λ asks.
    let parts = c.args.self.now in
    c.make_room_to_recover.ensures.free
    (subst (λ target. AsksForNone target parts) c.in-Recover.is
    (free_aim c.args.act.now c.args.target parts c.requires.target asks))

pub returns-in-Priority1-clause-free : goal.returns-in-Priority1-clause-free
returns-in-Priority1-clause-free c = λ asks.
    let parts = c.args.self.now in
    absurd
    (subst (λ target. AsksForNone target parts) c.in-Priority1.is
    (free_aim c.args.act.now c.args.target parts c.requires.target asks))

pub returns-in-Inject-clause-free : goal.returns-in-Inject-clause-free
returns-in-Inject-clause-free c = λ asks.
    let parts = c.args.self.now in
    c.make_room_to_inject.ensures.free
    (subst (λ target. AsksForNone target parts) c.in-Inject.is
    (free_aim c.args.act.now c.args.target parts c.requires.target asks))

pub make_room_to_hear-requires-clause-link : goal.make_room_to_hear-requires-clause-link
make_room_to_hear-requires-clause-link c =
    let parts = c.args.self.now in
    subst (λ target. IsWithin target parts) c.in-Arrival.is
    (aim_within c.args.act.now c.args.target parts c.requires.target)

pub make_room-requires-in-Timer-clause-place : goal.make_room-requires-in-Timer-clause-place
make_room-requires-in-Timer-clause-place c =
    let parts = c.args.self.now in
    subst (λ target. IsWithin target parts) c.in-Timer.is
    (aim_within c.args.act.now c.args.target parts c.requires.target)

pub returns-in-Arrival-clause-free : goal.returns-in-Arrival-clause-free
returns-in-Arrival-clause-free c = λ asks.
    let parts = c.args.self.now in
    absurd
    (subst (λ target. AsksForNone target parts) c.in-Arrival.is
    (free_aim c.args.act.now c.args.target parts c.requires.target asks))

pub returns-in-Timer-clause-free : goal.returns-in-Timer-clause-free
returns-in-Timer-clause-free c = λ asks.
    let parts = c.args.self.now in
    absurd
    (subst (λ target. AsksForNone target parts) c.in-Timer.is
    (free_aim c.args.act.now c.args.target parts c.requires.target asks))

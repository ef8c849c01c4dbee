use Rattle.std.proofs.lemmas.Option.{IfSome_then}
use Rattle.gptp_invariants.proofs.WorldShownLemmas.{enabled_shown, role_at_once, role_by_distance, role_by_paths}
use Rattle.gptp_invariants.proofs.WorldShownLemmas.{role_shown as role_settled}
use Rattle.gptp_world.proofs.ViewLemmas.{no_port, on_none, role_shown}
use Rattle.gptp_world.proofs.world_core.WorldCore.role.Goals as goal

pub returns-in-Some-clause-none : goal.returns-in-Some-clause-none
returns-in-Some-clause-none c =
    on_none c.role_of.result _ _
    (no_port c.args.clock c.args.port c.args.self.now c.in-Some.system.now c.well_formed-2.ensures.sound
    c.in-Some.ensures.some)
    c.role_of.ensures.none

pub returns-in-Some-clause-enabled : goal.returns-in-Some-clause-enabled
returns-in-Some-clause-enabled c =
    let w = c.args.self.now in let s = c.in-Some.system.now in
    IfSome_then c.role_of.result c.role_of.ensures.some
    (λ role is. enabled_shown c.args.clock c.args.port w role c.well_formed-2.ensures.claimed
    (role_shown c.args.clock c.args.port w s role c.in-Some.ensures.some is.0 is.1))

pub returns-in-Some-clause-settled : goal.returns-in-Some-clause-settled
returns-in-Some-clause-settled c =
    let w = c.args.self.now in let s = c.in-Some.system.now in
    IfSome_then c.role_of.result c.role_of.ensures.some
    (λ role is. role_settled c.args.clock c.args.port w role c.well_formed-2.ensures.claimed
    (role_shown c.args.clock c.args.port w s role c.in-Some.ensures.some is.0 is.1))

pub returns-in-Some-clause-by_paths : goal.returns-in-Some-clause-by_paths
returns-in-Some-clause-by_paths c =
    let w = c.args.self.now in let s = c.in-Some.system.now in
    IfSome_then c.role_of.result c.role_of.ensures.some
    (λ role is. role_by_paths c.args.clock c.args.port w role c.well_formed-2.ensures.claimed
    (role_shown c.args.clock c.args.port w s role c.in-Some.ensures.some is.0 is.1))

pub returns-in-Some-clause-at_once : goal.returns-in-Some-clause-at_once
returns-in-Some-clause-at_once c =
    let w = c.args.self.now in let s = c.in-Some.system.now in
    IfSome_then c.role_of.result c.role_of.ensures.some
    (λ role is. role_at_once c.args.clock c.args.port w role c.well_formed-2.ensures.claimed
    (role_shown c.args.clock c.args.port w s role c.in-Some.ensures.some is.0 is.1))

pub returns-in-Some-clause-by_distance : goal.returns-in-Some-clause-by_distance
returns-in-Some-clause-by_distance c =
    let w = c.args.self.now in let s = c.in-Some.system.now in
    IfSome_then c.role_of.result c.role_of.ensures.some
    (λ role is. role_by_distance c.args.clock c.args.port w role c.well_formed-2.ensures.claimed
    (role_shown c.args.clock c.args.port w s role c.in-Some.ensures.some is.0 is.1))

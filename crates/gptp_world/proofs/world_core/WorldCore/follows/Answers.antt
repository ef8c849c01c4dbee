use Rattle.gptp_invariants.proofs.WorldShownLemmas.{choice_at_once, choice_by_distance, choice_by_paths, choice_shown}
use Rattle.gptp_world.proofs.ViewLemmas.{follows_shown}
use Rattle.gptp_world.proofs.world_core.WorldCore.follows.Goals as goal

pub returns-in-Some-clause-settled : goal.returns-in-Some-clause-settled
returns-in-Some-clause-settled c =
    let f = c.follows.result in let is = c.follows.ensures in let w = c.args.self.now in
    choice_shown c.args.clock f.0 f.1 f.2 w c.well_formed-2.ensures.claimed
    (follows_shown c.args.clock f.0 f.1 f.2 w c.in-Some.system.now c.in-Some.ensures.some is.root is.steps is.slave)

pub returns-in-Some-clause-by_paths : goal.returns-in-Some-clause-by_paths
returns-in-Some-clause-by_paths c =
    let f = c.follows.result in let is = c.follows.ensures in let w = c.args.self.now in
    choice_by_paths c.args.clock f.0 f.1 f.2 w c.well_formed-2.ensures.claimed
    (follows_shown c.args.clock f.0 f.1 f.2 w c.in-Some.system.now c.in-Some.ensures.some is.root is.steps is.slave)

pub returns-in-Some-clause-at_once : goal.returns-in-Some-clause-at_once
returns-in-Some-clause-at_once c =
    let f = c.follows.result in let is = c.follows.ensures in let w = c.args.self.now in
    choice_at_once c.args.clock f.0 f.1 f.2 w c.well_formed-2.ensures.claimed
    (follows_shown c.args.clock f.0 f.1 f.2 w c.in-Some.system.now c.in-Some.ensures.some is.root is.steps is.slave)

pub returns-in-Some-clause-by_distance : goal.returns-in-Some-clause-by_distance
returns-in-Some-clause-by_distance c =
    let f = c.follows.result in let is = c.follows.ensures in let w = c.args.self.now in
    choice_by_distance c.args.clock f.0 f.1 f.2 w c.well_formed-2.ensures.claimed
    (follows_shown c.args.clock f.0 f.1 f.2 w c.in-Some.system.now c.in-Some.ensures.some is.root is.steps is.slave)

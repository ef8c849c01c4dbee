use Rattle.std.proofs.Common.{arith}
use Rattle.std.proofs.lemmas.Option.{none-some}
use Rattle.gptp_world.specs.Directory.{BeginsAt}
use Rattle.gptp_model.specs.World.{port_id}
use Rattle.gptp_world.proofs.ActTargetLemmas.{begins_placed, lane_found, no_lane}
use Rattle.gptp_world.proofs.world_parts.WorldParts.lane_at.Goals as goal

pub returns-then-number-gt-MOST_PORTS-clause-none : goal.returns-then-number-gt-MOST_PORTS-clause-none
returns-then-number-gt-MOST_PORTS-clause-none c =
    no_lane c.args.self.now (port_id c.args.clock c.args.port) c.requires (λ lane begins.
    let last = (begins_placed c.args.self.now.net.directory (port_id c.args.clock c.args.port) lane
    c.well_formed-2.ensures begins).last in
    let test = c.if-number-gt-MOST_PORTS.true in let same = c.from-number.ensures in
    absurd (omega (arith, last, test, same)))

pub returns-in-Some-lane_from-clause-some : goal.returns-in-Some-lane_from-clause-some
returns-in-Some-lane_from-clause-some c =
    let port = c.narrowed.ensures in let lane = c.in-Some-lane_from.lane in
    let begins : BeginsAt c.args.self.now.net.directory.joins (port_id c.args.clock c.args.port) lane =
    rw (← port) (c.in-Some-lane_from.ensures.some c.args.clock c.in-Some.ensures.some) in
    lane_found c.args.self.now (port_id c.args.clock c.args.port) lane c.requires begins

pub returns-in-None-lane_from-clause-none : goal.returns-in-None-lane_from-clause-none
returns-in-None-lane_from-clause-none c =
    let port = c.narrowed.ensures in
    no_lane c.args.self.now (port_id c.args.clock c.args.port) c.requires (λ lane begins.
    none-some lane (c.in-None-lane_from.ensures.only c.args.clock lane c.in-Some.ensures.some (rw port begins)))

pub returns-in-None-clause-none : goal.returns-in-None-clause-none
returns-in-None-clause-none c =
    no_lane c.args.self.now (port_id c.args.clock c.args.port) c.requires (λ lane begins.
    let placed = begins_placed c.args.self.now.net.directory (port_id c.args.clock c.args.port) lane
    c.well_formed-2.ensures begins in
    none-some placed.place (c.in-None.ensures.only placed.place placed.there))

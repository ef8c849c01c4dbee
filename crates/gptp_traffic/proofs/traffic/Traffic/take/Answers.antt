use Rattle.std.proofs.Common.{refl, ap, sym, arith}
use Rattle.std.proofs.lemmas.Option.{slice_get_within}
use Rattle.gptp_traffic.specs.Pending.{PendingView}
use Rattle.gptp_traffic.specs.Traffic.{TrafficState}
use Rattle.gptp_traffic.proofs.TrafficLemmas.{frame_there, joins-stay, lane_within, link_of, net-taken}
use Rattle.gptp_traffic.proofs.traffic.Traffic.take.Goals as goal

pub take_arrival-requires : goal.take_arrival-requires
take_arrival-requires c =
    let t = c.self.inside in let at = c.requires.1 in let links = c.self.invariant.links in
    let here = rw (← c.self.view_is) at at.here in
    let found = link_of t.pending.frames t.links.items c.args.lane.link at.channel here in
    let within = slice_get_within t.links.items c.args.lane.link found.0 found.1 in omega (arith, links, within)

pub unwrap-requires : goal.unwrap-requires
unwrap-requires c =
    let t = c.self.inside in
    frame_there c.take_arrival.result t.links.items t.pending.frames c.args.lane.link c.args.lane.direction
    c.requires.0 c.args.self.now.net (sym (ap (λ (s : TrafficState). s.net.channels) c.self.view_is)) c.requires.1
    c.take_arrival.ensures.no_frame

pub invariant_of-self : goal.invariant_of-self
invariant_of-self c =
    rw c.take_arrival.ensures.kept (record { links = c.self.invariant.links; fit = c.self.invariant.fit })

pub returns-clause-takes : goal.returns-clause-takes
returns-clause-takes c = λ now channel here due.
    let t = c.self.inside in let kept = c.take_arrival.ensures.kept in let links = c.self.invariant.links in
    let there = rw (← c.self.view_is) at here in
    let found = link_of t.pending.frames t.links.items c.args.lane.link channel there in
    let place = slice_get_within t.links.items c.args.lane.link found.0 found.1 in
    let within = lane_within c.args.lane.link t.pending.links c.args.lane.direction _ (omega (arith, links, place))
    c.lanes_are_listed.ensures in
    let taken = rw c.unwrap.ensures at c.take_arrival.ensures.taken in
    rw (← c.self.view_is)
    (net-taken t.links.items t.pending c.take_arrival.new.self c.args.lane.link c.args.lane.direction found.0 channel
    found.1 there within now c.unwrap.result.items due taken (ap (λ (p : PendingView). p.entries) kept)
    (ap (λ (p : PendingView). p.frames) kept))

pub returns-clause-joins : goal.returns-clause-joins
returns-clause-joins c =
    let t = c.self.inside in rw (← c.self.view_is) (joins-stay t.pending.frames _ t.links.items t.links.items refl)

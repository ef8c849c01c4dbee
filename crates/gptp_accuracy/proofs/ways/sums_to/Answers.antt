use Rattle.std.proofs.Common.{◌≤◌, option_map, suc, sym, ap, subst, arith}
use Rattle.gptp_certificate_text.specs.Certificate.{line_of, parent_of}
use Rattle.gptp_error_laws.specs.WayLaws.{longer}
use Rattle.gptp_accuracy.specs.Sums.{AreSummed, SumsAreWithin, way_link}
use Rattle.gptp_accuracy.proofs.MachineLemmas.{drift_back}
use Rattle.gptp_accuracy.proofs.PassLemmas.{line_link, line_member, summed_first, summed_next}
use Rattle.gptp_accuracy.proofs.StandingLemmas.{delays_within, drift_within}
use Rattle.gptp_accuracy.proofs.SumLemmas.{within_more}
use Rattle.gptp_accuracy.proofs.ways.sums_to.Goals as goal

pub behind-requires-clause-sums : goal.behind-requires-clause-sums
behind-requires-clause-sums c =
    let line = line_of c.args.line.now in
    let parent = parent_of (c.in-Some.port, c.in-Some.there) in
    let some = ap (option_map parent_of) c.in-Some.is in
    let (steps, next, done) = c.requires.parent parent some in
    let link = line_link c.args.network.now c.args.events.now c.args.snapshot.now line parent c.requires.stands
    c.requires.settled c.requires.bare some in
    let few : steps ≤ 511 = omega (arith, next, link.near) in
    subst (SumsAreWithin 511) (sym (c.sums_of.ensures done.place done.to done.has done.there))
    (within_more steps done.to few done.summed.summed.within)

pub behind-requires-clause-link : goal.behind-requires-clause-link
behind-requires-clause-link c =
    let n = c.args.network.now in
    let line = line_of c.args.line.now in
    let parent = parent_of (c.in-Some.port, c.in-Some.there) in
    let link = line_link n c.args.events.now c.args.snapshot.now line parent c.requires.stands c.requires.settled
    c.requires.bare (ap (option_map parent_of) c.in-Some.is) in
    let (member, there, is) = line_member n c.args.events.now c.args.snapshot.now line c.well_formed-3.ensures.network
    c.requires.stands c.requires.settled in
    let delays = delays_within n c.well_formed-2.ensures c.args.events.now line.clock c.in-Some.port _ _
    c.requires.allowed (c.link_to.ensures.delays link.wire link.wire_there link.end) in
    record {
      ordered = delays.0;
      short = delays.1;
      drift = drift_within n c.well_formed-2.ensures line.clock _ (c.link_to.ensures.drift member there is);
    }

pub returns-in-Some : goal.returns-in-Some
returns-in-Some c = λ near.
    let n = c.args.network.now in
    let line = line_of c.args.line.now in
    let parent = parent_of (c.in-Some.port, c.in-Some.there) in
    let some = ap (option_map parent_of) c.in-Some.is in
    let (steps, next, done) = c.requires.parent parent some in
    let link = line_link n c.args.events.now c.args.snapshot.now line parent c.requires.stands c.requires.settled
    c.requires.bare some in
    let (member, there, is) = line_member n c.args.events.now c.args.snapshot.now line c.well_formed-3.ensures.network
    c.requires.stands c.requires.settled in
    let same = c.sums_of.ensures done.place done.to done.has done.there in
    summed_next n c.args.events.now c.args.snapshot.now line parent steps next done.to c.behind.result
    (way_link c.link_to.result) done.summed link.is
    (c.link_to.ensures.delays link.wire link.wire_there link.end)
    (c.link_to.ensures.drift member there is)
    (λ w summed. subst (λ p. AreSummed (suc steps) p (longer w (way_link c.link_to.result)) c.behind.result)
    c.params.ensures
    (c.behind.ensures w steps (subst (λ p. AreSummed steps p w c.sums_of.result) (sym c.params.ensures)
    (subst (AreSummed steps n.params w) (sym same) summed))))

pub returns-in-None : goal.returns-in-None
returns-in-None c = λ near.
    let n = c.args.network.now in
    let line = line_of c.args.line.now in
    let (member, there, is) = line_member n c.args.events.now c.args.snapshot.now line c.well_formed-3.ensures.network
    c.requires.stands c.requires.settled in
    let drift = c.drift_of.ensures member there is in
    let within = drift_within n c.well_formed-2.ensures line.clock c.drift_of.result drift in
    let back = drift_back c.drift_of.result within in
    summed_first n c.args.events.now c.args.snapshot.now line c.at_root.result c.drift_of.result
    c.well_formed-3.ensures.network c.requires.settled (ap (option_map parent_of) c.in-None.is) near drift
    (rw back at c.at_root.ensures n.params within)

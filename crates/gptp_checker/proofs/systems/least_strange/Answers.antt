use Rattle.std.proofs.Common.{arith}
use Rattle.gptp_checker.proofs.EachLemmas.{one_more, all_hold}
use Rattle.gptp_checker.proofs.LocatedLemmas.{first_strange}
use Rattle.gptp_checker.proofs.systems.least_strange.Goals as goal

pub returns-in-Some-clause-some : goal.returns-in-Some-clause-some
returns-in-Some-clause-some c =
    first_strange c.args.snapshot.now c.args.certificate.now.lines c.loop-place.place c.in-Some.clock
    c.well_formed-2.ensures.order.clocks c.loop-place.invariant c.in-Some.ensures.some

pub loop-place-preserved : goal.loop-place-preserved
loop-place-preserved c =
    one_more _ c.args.certificate.now.lines c.loop-place.place c.loop-place.invariant c.in_default.ensures.none

pub returns-clause-none : goal.returns-clause-none
returns-clause-none c =
    all_hold _ c.args.certificate.now.lines c.loop-place.place c.loop-place.invariant
    (let e = c.loop-place-test.false in let n = c.len-place-end.ensures in omega arith)

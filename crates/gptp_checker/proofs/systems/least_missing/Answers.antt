use Rattle.std.proofs.Common.{subst, arith}
use Rattle.gptp_graph.specs.Labelling.{line_clocks}
use Rattle.gptp_graph.specs.Snapshot.{System}
use Rattle.gptp_lists.specs.Members.{In}
use Rattle.gptp_lists.proofs.SystemSpecLemmas.{from_map}
use Rattle.gptp_checker.proofs.EachLemmas.{one_more, all_hold}
use Rattle.gptp_checker.proofs.LocatedLemmas.{first_missing}
use Rattle.gptp_checker.proofs.systems.least_missing.Goals as goal

pub returns-in-Some-clause-some : goal.returns-in-Some-clause-some
returns-in-Some-clause-some c =
    first_missing c.args.snapshot.now c.args.certificate.now.lines c.loop-place.place c.in-Some.clock
    c.well_formed-2.ensures.rising c.loop-place.invariant c.in-Some.ensures.some

pub loop-place-preserved : goal.loop-place-preserved
loop-place-preserved c =
    one_more _ c.args.snapshot.now.systems c.loop-place.place c.loop-place.invariant c.in_default.ensures.none

pub returns-clause-none : goal.returns-clause-none
returns-clause-none c = λ v live.
    let (s, member, is) = from_map (λ (t : System). t.clock) v c.args.snapshot.now.systems live in
    subst (λ w. In w (line_clocks c.args.certificate.now.lines)) is
    (all_hold (λ (t : System). In t.clock (line_clocks c.args.certificate.now.lines)) c.args.snapshot.now.systems
    c.loop-place.place c.loop-place.invariant
    (let e = c.loop-place-test.false in let n = c.systems-place-end.ensures in omega arith) s member)

use Rattle.std.proofs.Common.{sym, subst, suc}
use Rattle.gptp_components.specs.Distances.{AreFirstDistances}
use Rattle.gptp_components.proofs.RankedLemmas.{found_within, one_yet}
use Rattle.gptp_components.proofs.search.push_found.Goals as goal

pub returns-in_ok-push : goal.returns-in_ok-push
returns-in_ok-push c =
    subst (AreFirstDistances c.args.snapshot.now (suc c.args.place)) (sym c.in_ok-push.ensures.items)
    (one_yet c.args.snapshot.now c.args.found.now c.args.place c.args.distances.now.items c.in-Some.distance
    c.requires.found c.requires.before c.in-Some.ensures.some)

pub returns-in_default : goal.returns-in_default
returns-in_default c =
    let (d, there) =
    found_within c.args.snapshot.now c.args.found.now c.requires.found c.args.place c.requires.place in
    absurd (c.in_default.ensures.none d there)

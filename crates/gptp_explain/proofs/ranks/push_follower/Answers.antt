use Rattle.std.proofs.Common.{◌+◌, subst, sym}
use Rattle.gptp_explain.specs.Ranks.{FollowersAreFound}
use Rattle.gptp_explain.proofs.RankLemmas.{added, passed}
use Rattle.gptp_explain.proofs.ranks.push_follower.Goals as goal

pub returns-in_ok-push : goal.returns-in_ok-push
returns-in_ok-push c =
    let g = c.args.snapshot.now in
    subst (FollowersAreFound g c.args.root (c.args.place + 1)) (sym c.in_ok-push.ensures.items)
    (added g c.args.root c.well_formed-2.ensures.network c.args.place c.args.found.now.items c.in-Some.identity
    c.requires.found c.in-Some.ensures.some)

pub returns-in_default : goal.returns-in_default
returns-in_default c =
    passed c.args.snapshot.now c.args.root c.args.place c.args.found.now.items c.requires.found
    c.in_default.ensures.none

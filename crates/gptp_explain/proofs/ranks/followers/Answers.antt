use Rattle.std.proofs.Common.{◌≡◌, arith, length, subst, sym}
use Rattle.gptp_explain.specs.Ranks.{FollowersAreFound}
use Rattle.gptp_explain.proofs.RankLemmas.{are_ranked, none_found}
use Rattle.gptp_explain.proofs.ranks.followers.Goals as goal

pub loop-place-init : goal.loop-place-init
loop-place-init c =
    subst (FollowersAreFound c.args.snapshot.now c.args.root 0) (sym c.new-found.ensures.items)
    (none_found c.args.snapshot.now c.args.root)

pub returns : goal.returns
returns c =
    let g = c.args.snapshot.now in
    let end = c.systems-place-end.ensures in let last = c.loop-place.auto.place-end in
    let past = c.loop-place-test.false in
    let all : c.loop-place.place ≡ length g.systems = omega (arith, end, last, past) in
    record {
      ranked =
          are_ranked g c.args.clock c.args.root c.loop-place.found.items c.sort_unstable.new.self.items
          c.well_formed-2.ensures.network c.requires.root
          (subst (λ place. FollowersAreFound g c.args.root place c.loop-place.found.items) all c.loop-place.invariant)
          c.sort_unstable.ensures.permutation c.sort_unstable.ensures.sorted;
    }

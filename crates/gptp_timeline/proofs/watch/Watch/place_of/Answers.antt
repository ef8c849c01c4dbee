use Rattle.std.proofs.Common.{refl, subst, sym}
use Rattle.gptp_timeline.specs.Watch.{WatchedRise, WatchState}
use Rattle.gptp_timeline.proofs.PlaceLemmas.{placed_there}
use Rattle.gptp_timeline.proofs.watch.Watch.place_of.Goals as goal

pub returns-in-true-clause-is : goal.returns-in-true-clause-is
returns-in-true-clause-is c =
    let o = c.args.self.now in let found = c.in-true.ensures in
    let rises = subst (λ (v : WatchState). WatchedRise v.systems) c.self.view_is c.self.invariant in
    sym (placed_there o.systems c.args.clock rises c.place-place.result (found.within refl) (found.named refl))

use Rattle.std.proofs.Common.{Some, refl, slice_set}
use Rattle.std.proofs.lemmas.List.{length-set}
use Rattle.gptp_components.proofs.FoundLemmas.{place_there, put_now, within_found}
use Rattle.gptp_components.proofs.search.put_new.Goals as goal

pub returns-in_ok-push : goal.returns-in_ok-push
returns-in_ok-push c =
    let next = c.args.distance.now in
    put_now c.args.snapshot.now next c.args.clock c.in-Some.place c.args.found.now.items
    (slice_set c.args.found.now.items c.in-Some.place (Some next)) c.args.waiting.now.items c.push.new.self.items
    c.well_formed-2.ensures.rising c.in-Some.ensures.some c.requires.unfound
    (within_found c.args.snapshot.now c.args.found.now.items c.args.clock c.in-Some.place c.in-Some.ensures.some
    c.requires.as_many)
    (length-set c.args.found.now.items c.in-Some.place (Some next)) refl c.in_ok-push.ensures.items

pub returns-in_default : goal.returns-in_default
returns-in_default c =
    let (place, has) = place_there c.args.snapshot.now c.args.clock c.requires.live in
    let only = c.in_default.ensures.only place has in
    absurd cc

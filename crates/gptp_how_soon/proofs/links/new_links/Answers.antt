-- One link more is looked at.
use Rattle.std.proofs.Common.{◌++◌, ◌+◌, drop, append_assoc, Some, ap, sym, ◌∙◌}
use Rattle.std.proofs.lemmas.Option.{slice_get-get_or}
use Rattle.gptp_how_soon.specs.Links.{is_old_at, new_among, new_one}
use Rattle.gptp_how_soon.proofs.LinksLemmas.{new_more}
use Rattle.gptp_how_soon.proofs.links.new_links.Goals as goal

pub loop-place-preserved : goal.loop-place-preserved
loop-place-preserved c =
    let first = c.args.first in
    let ss = c.args.standings.now in
    let us = c.args.used_before.now in
    let i = c.loop-place.place in
    let s = c.index-standings-place.result in
    let rest = new_among first (drop (i + 1) ss) (drop (i + 1) us) in
    ap (λ new. new ++ rest) c.in_ok-push_new.ensures
    ∙ ap (λ old. (c.loop-place.new.items ++ new_one s old) ++ rest) c.is_old_at.ensures
    ∙ append_assoc c.loop-place.new.items (new_one s (is_old_at first us i)) rest
    ∙ ap (λ new. c.loop-place.new.items ++ new) (new_more first ss us i s
    (slice_get-get_or ss i s c.loop-place-test.true ∙ ap Some (sym c.index-standings-place.is)))
    ∙ c.loop-place.invariant

use Rattle.std.proofs.Common.{sym, ◌∙◌}
use Rattle.gptp_faults.proofs.BoundsLemmas.{found_in_range}
use Rattle.gptp_faults.proofs.case_events.link_events.Goals as goal

pub seen_link-requires-clause-least : goal.seen_link-requires-clause-least
seen_link-requires-clause-least c =
    (found_in_range c.args.cables.now c.args.port c.in-Some-Some.bounds c.requires.bounds
    (sym c.bounds_at.ensures ∙ c.in-Some-Some.is-1)).0

pub seen_link-requires-clause-share : goal.seen_link-requires-clause-share
seen_link-requires-clause-share c =
    (found_in_range c.args.cables.now c.args.port c.in-Some-Some.bounds c.requires.bounds
    (sym c.bounds_at.ensures ∙ c.in-Some-Some.is-1)).1

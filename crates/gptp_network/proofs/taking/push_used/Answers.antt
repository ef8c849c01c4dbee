-- The link at the place is up, and is put after the others where both its ends live, or it is down.
use Rattle.std.proofs.Common.{sym, ◌∙◌}
use Rattle.std.proofs.lemmas.Result.{on_ok_weaker}
use Rattle.gptp_network.specs.SnapshotTables.{seen_links, seen_systems}
use Rattle.gptp_network.proofs.TakingLemmas.{used_added, used_kept}
use Rattle.gptp_network.proofs.taking.push_used.Goals as goal

pub returns-in-Some : goal.returns-in-Some
returns-in-Some c =
    let up = sym c.in-Some.is ∙ c.joined_after.ensures in
    on_ok_weaker c.push_between.result
    (used_added c.args.network.now.links c.args.events.now (seen_systems c.args.systems.now) c.args.place
    c.requires.place c.in-Some.a c.in-Some.b up (seen_links c.args.links.now.items)
    (seen_links c.push_between.new.links.items) c.requires.before)
    c.push_between.ensures

pub returns-in-None : goal.returns-in-None
returns-in-None c =
    let down = sym c.in-None.is ∙ c.joined_after.ensures in
    let kept =
    used_kept c.args.network.now.links c.args.events.now (seen_systems c.args.systems.now) c.args.place
    c.requires.place down in
    c.requires.before ∙ sym kept

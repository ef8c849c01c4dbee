-- The system at the place lives, and is put after the others, or it has failed, and they are all.
use Rattle.std.proofs.Common.{rules, sym, ◌∙◌}
use Rattle.std.proofs.lemmas.Result.{on_ok_weaker}
use Rattle.gptp_network.proofs.TakingLemmas.{live_added, live_kept}
use Rattle.gptp_network.proofs.taking.push_live.Goals as goal

pub returns-in-Some : goal.returns-in-Some
returns-in-Some c =
    on_ok_weaker c.push_system.result
    (live_added c.args.network.now.systems c.args.events.now c.args.systems.now.items c.args.place
    c.requires.place c.requires.before c.in-Some.live (search rules) (sym c.in-Some.is ∙ c.live_after.ensures)
    c.push_system.new.systems.items)
    c.push_system.ensures

pub returns-in-None : goal.returns-in-None
returns-in-None c =
    live_kept c.args.network.now.systems c.args.events.now c.args.systems.now.items c.args.place
    c.requires.place c.requires.before (sym c.in-None.is ∙ c.live_after.ensures)

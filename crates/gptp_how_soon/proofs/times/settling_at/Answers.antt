-- What a search finds is the time that is looked for.
use Rattle.std.proofs.Common.{None, get_or, sym}
use Rattle.std.proofs.lemmas.Option.{slice_get-get_or}
use Rattle.gptp_how_soon.specs.declared.bounds.SettlingTime.{SettlingTime}
use Rattle.gptp_how_soon.proofs.RisingLemmas.{found_there}
use Rattle.gptp_how_soon.proofs.times.settling_at.Goals as goal

pub returns-then-time-at : goal.returns-then-time-at
returns-then-time-at c =
    let times = c.args.times.now in
    let none : SettlingTime = record { at = 0; settling = None; watch = 0 } in
    sym (found_there c.args.at times c.in-Ok.place (get_or times c.in-Ok.place none) c.requires
    (slice_get-get_or times c.in-Ok.place none c.in-Ok.ensures.bound) c.if-time-at.true)

use Rattle.std.proofs.Common.{◌∙◌, sym}
use Rattle.gptp_faults.proofs.StayLemmas.{found_watch}
use Rattle.gptp_faults.proofs.stays.watch_among.Goals as goal

pub returns-in-Some-clause-bound : goal.returns-in-Some-clause-bound
returns-in-Some-clause-bound c =
    (found_watch c.args.times.now c.args.at c.in-Some.time c.requires.watched
    (sym c.settling_at.ensures ∙ c.in-Some.is)).span

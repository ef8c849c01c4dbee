-- What is told of the system at the place is the system's.
use Rattle.std.proofs.Common.{slice_get, ap, ◌∙◌}
use Rattle.gptp_how_soon.specs.Silent.{log_by}
use Rattle.gptp_how_soon.proofs.SilentLemmas.{log_told, no_log}
use Rattle.gptp_how_soon.proofs.silent.log_at.Goals as goal

pub returns-in-Some : goal.returns-in-Some
returns-in-Some c =
    c.log_by.ensures
    ∙ ap (log_by c.args.port.now c.in-Some.system.0) c.as_slice.ensures.value
    ∙ log_told c.args.port.now (slice_get c.args.network.now.systems c.args.place) c.in-Some.system c.in-Some.ensures

pub returns-in-None : goal.returns-in-None
returns-in-None c = no_log c.args.port.now (slice_get c.args.network.now.systems c.args.place) c.in-None.ensures

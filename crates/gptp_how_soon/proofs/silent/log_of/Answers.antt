-- Each interval of a network is between -4 and 4.
use Rattle.std.proofs.Common.{subst, sym}
use Rattle.std.specs.Prelude.{IfSome}
use Rattle.gptp_setup.specs.Intervals.{IsLog}
use Rattle.gptp_how_soon.proofs.SilentLemmas.{logs_within}
use Rattle.gptp_how_soon.proofs.silent.log_of.Goals as goal

pub returns-clause-range : goal.returns-clause-range
returns-clause-range c =
    subst (λ o. IfSome o IsLog) (sym c.log_from.ensures)
    (logs_within c.args.port.now c.args.network.now.systems c.well_formed-2.ensures.systems)

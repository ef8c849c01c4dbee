-- The look-up finds a place exactly where a system has the clock.
use Rattle.std.proofs.Common.{◌∙◌}
use Rattle.gptp_network.specs.SnapshotTables.{seen_systems}
use Rattle.gptp_network.proofs.TakingLemmas.{looked_up}
use Rattle.gptp_network.proofs.taking.has_clock.Goals as goal

pub returns : goal.returns
returns c =
    let place = c.place_among in
    c.is_some.ensures
    ∙ looked_up (seen_systems c.args.systems.now) c.args.clock place.result place.ensures.some place.ensures.only

use Rattle.std.proofs.Common.{◌*◌}
use Rattle.gptp_world.specs.Directory.{AreOuts}
use Rattle.gptp_world.proofs.directory.list_outs.Given as goal

abbrev pub invariant-loop-link : goal.invariant-loop-link
invariant-loop-link l = AreOuts (2 * l.link) l.clocks l.joins l.outs.items

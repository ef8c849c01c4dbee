-- It stays the pair.
use Rattle.gptp_network_tests.specs.Pair.{IsPairSince}
use Rattle.gptp_network_tests.proofs.drawn.hear_in_time.Given as goal

abbrev pub invariant-loop-act : goal.invariant-loop-act
invariant-loop-act g l = IsPairSince 15000000000 l.world.world_core

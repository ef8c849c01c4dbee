use Rattle.gptp_invariants.proofs.SyncExactLemmas.{claimed_of}
use Rattle.gptp_world.proofs.world_core.WorldCore.well_formed.Goals as goal

pub returns-clause-claimed : goal.returns-clause-claimed
returns-clause-claimed c = claimed_of c.args.self.now (rw (← c.self.view_is) c.self.invariant.claimed)

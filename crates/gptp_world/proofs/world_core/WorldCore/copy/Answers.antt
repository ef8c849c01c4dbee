use Rattle.std.proofs.Common.{subst, sym}
use Rattle.gptp_invariants.specs.SyncTimedClaim.{WorldInvariant}
use Rattle.gptp_world.proofs.WorldCoreLemmas.{same_sound}
use Rattle.gptp_world.proofs.world_core.WorldCore.copy.Goals as goal

pub invariant_of-result : goal.invariant_of-result
invariant_of-result c =
    let same = c.in_ok-parts.ensures.world in
    record {
      stage_kept = c.in_ok-parts.ensures.parts;
      sound = same_sound _ _ same c.self.invariant.sound;
      claimed = subst WorldInvariant (sym same) c.self.invariant.claimed;
    }

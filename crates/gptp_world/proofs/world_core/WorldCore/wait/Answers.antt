use Rattle.std.proofs.Common.{◌+◌, ◌≤◌, subst, sym, arith}
use Rattle.gptp_model.specs.Pending.{NothingBefore}
use Rattle.gptp_model.specs.World.{WorldState}
use Rattle.gptp_model.proofs.AdvanceLemmas.{nothing_sooner}
use Rattle.gptp_model.proofs.SoundLemmas.{later_sound}
use Rattle.gptp_invariants.proofs.SyncExactLemmas.{all_later}
use Rattle.gptp_world.specs.WorldParts.{world_of}
use Rattle.gptp_world.proofs.LaterLemmas.{stage_later}
use Rattle.gptp_world.proofs.world_core.WorldCore.wait.Goals as goal

pub invariant_of-self : goal.invariant_of-self
invariant_of-self c =
    let parts = c.self.inside.parts in let until = c.args.until in
    let none = subst (λ (w : WorldState). NothingBefore (until + 1) w.net.pending) (sym c.self.view_is)
    c.requires.first in
    let first = nothing_sooner until (until + 1) parts.net.traffic.net.pending (omega arith) none in
    let early : parts.now ≤ until =
    subst (λ (w : WorldState). w.time ≤ until) (sym c.self.view_is) c.requires.ahead in
    record {
      stage_kept = stage_later parts until c.requires.moment c.self.invariant.stage_kept;
      sound = later_sound (world_of parts) until parts.last_change c.self.invariant.sound first;
      claimed = all_later (world_of parts) until early first c.self.invariant.claimed;
    }

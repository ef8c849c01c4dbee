-- A world and its fate: how it begins, and what an act makes of it.
use Rattle.std.specs.Prelude.{ℕ, List, Option}
use Rattle.std.specs.List.{range_with_len}
use Rattle.gptp_links.specs.declared.bounds.Bounds.{Bounds}
use Rattle.gptp_links.specs.Fate.{Draw, Draws}
use Rattle.gptp_world.specs.declared.world_parts.WorldParts.{WorldParts}
use Rattle.gptp_model.specs.Changing.{StartsAll}
use Rattle.gptp_model.specs.Sound.{IsSound}
use Rattle.gptp_world.specs.WorldParts.{world_of, IsWorldParts}
use Rattle.gptp_invariants.specs.SyncTimedClaim.{WorldInvariant}

-- what the code keeps of a world while its systems start
pub record IsFounded (parts : WorldParts) : Type 0 where
  pub stage_kept : IsWorldParts parts
  pub sound : IsSound (world_of parts)

-- what it keeps between acts: also what every world of a network keeps, from which it follows that the world settles
-- and how exact its offsets are
pub record IsWorldCore (parts : WorldParts) : Type 0 where
  pub stage_kept : IsWorldParts parts
  pub sound : IsSound (world_of parts)
  pub claimed : WorldInvariant (world_of parts)

-- the systems at the first places, as many as this, started one after another
pub record SystemsStarted {F : Type 0} (answers : Bounds → ℕ → F → Option ℕ → F → Type 0) (count : ℕ)
    (fate fate_after : F)
    (parts stage_after : WorldParts) : Type 0 where
  pub draws : List Draw
  pub drawn : Draws answers fate draws fate_after
  pub starts : StartsAll (range_with_len 0 count) (world_of parts) draws (world_of stage_after)

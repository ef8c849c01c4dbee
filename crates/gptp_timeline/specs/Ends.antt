-- How a stretch ended (profile).
use Rattle.std.specs.Prelude.{ℕ, List}
use Rattle.gptp_timeline.specs.declared.keepers.Keeper.{Keeper}
use Rattle.gptp_timeline.specs.declared.stretch.Stretch.{Stretch}

-- what became of it, the roots that live systems follow where it ends, and those of these that keep time then, both by
-- rising clock
pub record EndState : Type 0 where
  pub stretch : Stretch
  pub roots : List ℕ
  pub keepers : List Keeper

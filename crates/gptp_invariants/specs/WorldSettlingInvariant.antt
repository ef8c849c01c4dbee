-- What every world of a network keeps.
use Rattle.gptp_setup.specs.SettlingParams.{SettlingParams}
use Rattle.gptp_scenario.specs.Params.{KeepPace}
use Rattle.gptp_model.specs.World.{WorldState}
use Rattle.gptp_invariants.specs.DelayMeasured.{LinkIsMeasured}
use Rattle.gptp_invariants.specs.ChoiceSettlesAsMachine.{SettlesAsMachine, IsWorld}
use Rattle.gptp_invariants.specs.DelayWatch.{GoodLinksMeasure}
use Rattle.gptp_invariants.specs.FailedUnanswered.{FailedNeighboursAreSilent}

-- What every world of a network with these parameters and this largest interval keeps: they are within their limits; it
-- is sound, encodable and known; its ports measure; good links in use are watched, and ports beside failed systems are
-- unanswered; and it settles as the machine of gptp_bmca_machine does.
pub record KeepsAll (p : SettlingParams) (w : WorldState) : Type 0 where
  pub pace : KeepPace p
  pub world : IsWorld p w
  pub measured : LinkIsMeasured w
  pub watched : GoodLinksMeasure p w
  pub silent : FailedNeighboursAreSilent p w
  pub settling : SettlesAsMachine p w

-- what every world of a network keeps
pub record SettlingInvariant (w : WorldState) : Type 0 where
  pub pace : SettlingParams
  pub is : KeepsAll pace w

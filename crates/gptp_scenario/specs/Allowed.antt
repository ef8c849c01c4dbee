-- What is asked of acts.
use Rattle.std.specs.Prelude.{◌≡◌, ◌≤◌, ⊤, ℕ, List, Some, slice_get}
use Rattle.gptp_setup.specs.Intervals.{IsMoment}
use Rattle.gptp_scenario.specs.declared.change.Act.{Act}
use Rattle.gptp_scenario.specs.declared.change.Act.TheVariants.{Change as Changing}
use Rattle.gptp_scenario.specs.declared.change.Change.TheVariants.{LinkSet}
use Rattle.gptp_scenario.specs.declared.change.Timed.{Timed}

-- what is asked of a change of bounds: delays of 1 ns to 16 s, the least first, and a loss of at most all frames
pub record IsFitChange (min max loss : ℕ) : Type 0 where
  pub positive : 1 ≤ min
  pub ordered : min ≤ max
  pub short : max ≤ 16000000000
  pub share : loss ≤ 1000

abbrev pub IsFitAct : Act → Type 0
IsFitAct (Changing (LinkSet number port min max loss)) = IsFitChange min max loss
IsFitAct act = ⊤

-- what is asked of each act
pub record IsAllowed (timed : Timed) : Type 0 where
  pub moment : IsMoment timed.at
  pub fit : IsFitAct timed.act

abbrev pub AreAllowed : List Timed → Type 0
AreAllowed acts = (place : ℕ) (timed : Timed) → slice_get acts place ≡ Some timed → IsAllowed timed

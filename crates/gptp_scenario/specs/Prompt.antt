-- Acts after which every frame still arrives within a time, such as an announce interval.
use Rattle.std.specs.Prelude.{◌≡◌, ◌≤◌, ⊤, ℕ, List, Some, slice_get}
use Rattle.gptp_scenario.specs.declared.change.Act.{Act}
use Rattle.gptp_scenario.specs.declared.change.Act.TheVariants.{Change as Changing}
use Rattle.gptp_scenario.specs.declared.change.Change.TheVariants.{LinkSet}
use Rattle.gptp_scenario.specs.declared.change.Timed.{Timed}

-- a link is set to no delay above this one, in ns
abbrev pub DelayFitsInterval : ℕ → Act → Type 0
DelayFitsInterval most (Changing (LinkSet number port least greatest loss)) = greatest ≤ most
DelayFitsInterval most act = ⊤

-- no act of a list sets a link to a delay above this one, in ns
abbrev pub ArePromptActs : ℕ → List Timed → Type 0
ArePromptActs most acts = (place : ℕ) (timed : Timed) → slice_get acts place ≡ Some timed
    → DelayFitsInterval most timed.act

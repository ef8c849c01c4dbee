-- Laws on the tree that a settled world forms.
use Rattle.gptp_model.specs.World.{WorldState}
use Rattle.gptp_invariants.specs.WorldSettlingInvariant.{SettlingInvariant}
use Rattle.gptp_invariants.specs.ChoiceSettled.{Settled}
use Rattle.gptp_invariants.specs.WorldTree.{IsTree}

-- a world of a network that has settled is a tree
abbrev pub SettledIsTree : Type 0
SettledIsTree = (w : WorldState) → SettlingInvariant w → Settled w → IsTree w

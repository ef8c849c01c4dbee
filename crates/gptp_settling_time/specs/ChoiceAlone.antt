-- A network whose choice stands, though roles may change still: the ports beside a system that fails stay capable for
-- a time.
use Rattle.std.specs.Prelude.{ℕ}
use Rattle.gptp_model.specs.World.{WorldState}
use Rattle.gptp_network.specs.Document.{DocumentState}
use Rattle.gptp_invariants.specs.ChoiceSettled.{ChoiceStands}
use Rattle.gptp_theorem.specs.HeadlineLaws.{HasSnapshotOf}

-- its choice stands, and its snapshot is that of the document
pub record ChoiceStandsAs (d : DocumentState) (until : ℕ) (w : WorldState) : Type 0 where
  pub choice : ChoiceStands w
  pub snapshot : HasSnapshotOf d until w

-- The law of settling, on documents.
use Rattle.std.specs.Prelude.{ℕ, List, Option}
use Rattle.gptp_graph.specs.Labelling.{SystemLine}
use Rattle.gptp_graph.specs.SettledChoice.{IsSettledChoice}
use Rattle.gptp_graph.specs.Snapshot.{Snapshot}
use Rattle.gptp_links.specs.declared.bounds.Bounds.{Bounds}
use Rattle.gptp_model.specs.Advancing.{Told}
use Rattle.gptp_model.specs.World.{WorldState}
use Rattle.gptp_scenario.specs.Network.{IsNetwork}
use Rattle.gptp_network.specs.Document.{DocumentState}
use Rattle.gptp_network.specs.Snapshot.{IsSnapshot}
use Rattle.gptp_report.specs.Run.{PlaysRun}
use Rattle.gptp_invariants.specs.WorldSettlingInvariant.{SettlingInvariant}
use Rattle.gptp_certificate.specs.Stated.{States}
use Rattle.gptp_theorem.specs.PlayedLaws.{DocumentIsAtRest, IsPlayable, IsReached}

-- Where a document is at rest at a time, what is stated of the live systems of the world that it leads to is the
-- settled choice of its snapshot.
abbrev pub DocumentsSettle : Type 0
DocumentsSettle = (d : DocumentState) (until : ℕ) (w : WorldState) (lines : List SystemLine) (g : Snapshot)
    → IsNetwork d.network → IsReached d until w → SettlingInvariant w → DocumentIsAtRest d until → States w lines
    → IsSnapshot d until g
    → IsSettledChoice g lines

-- a document settles whatever is drawn for the frames meanwhile
abbrev pub PlayedSettle : {F : Type 0} → (Bounds → ℕ → F → Option ℕ → F → Type 0) → Type 0
PlayedSettle {F} answers = (d : DocumentState) (until : ℕ) (fate : F) (told : List Told) (w : WorldState)
    (lines : List SystemLine) (g : Snapshot)
    → IsPlayable d → PlaysRun answers d until fate told w → DocumentIsAtRest d until → States w lines
    → IsSnapshot d until g
    → IsSettledChoice g lines

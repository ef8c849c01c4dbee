-- The run of a document has one outcome, and so have its lines.
use Rattle.std.specs.Prelude.{◌≡◌, ℕ, Bool, List, Option}
use Rattle.gptp_links.specs.declared.bounds.Bounds.{Bounds}
use Rattle.gptp_network.specs.Document.{DocumentState, Means}
use Rattle.gptp_model.specs.Advancing.{Told}
use Rattle.gptp_model.specs.Initial.{initial}
use Rattle.gptp_model.specs.World.{WorldState}
use Rattle.gptp_graph.specs.Labelling.{SystemLine}
use Rattle.gptp_certificate.specs.Stated.{States}
use Rattle.gptp_report.specs.Report.{Reports}
use Rattle.gptp_report.specs.Run.{LeadsTo, PlaysRun}
use Rattle.gptp_determinism.specs.CourseLaws.{SameTold}
use Rattle.gptp_determinism.specs.Named.{AnswersOnce, IsNamed}

-- names mean one thing in the world that the network of a document makes
abbrev pub MeantIsNamed : Type 0
MeantIsNamed = (text : List ℕ) (d : DocumentState) → Means text d → IsNamed (initial d.network)

-- a document leads to one world by a time, and the same is told meanwhile
abbrev pub PlaysOnce : {F : Type 0} → (Bounds → ℕ → F → Option ℕ → F → Type 0) → Type 0
PlaysOnce {F} answers = AnswersOnce answers →
    (d : DocumentState) (until : ℕ) (fate : F) (told more : List Told) (w v : WorldState)
    → IsNamed (initial d.network) → PlaysRun answers d until fate told w → PlaysRun answers d until fate more v
    → SameTold told more × (w ≡ v)

-- in which names mean one thing
abbrev pub PlayedIsNamed : {F : Type 0} → (Bounds → ℕ → F → Option ℕ → F → Type 0) → Type 0
PlayedIsNamed {F} answers = (d : DocumentState) (until : ℕ) (fate : F) (told : List Told) (w : WorldState)
    → IsNamed (initial d.network) → PlaysRun answers d until fate told w
    → IsNamed w

-- the lines of its frames are the same
abbrev pub LeadsOnce : {F : Type 0} → (Bounds → ℕ → F → Option ℕ → F → Type 0) → Type 0
LeadsOnce {F} answers = AnswersOnce answers →
    (d : DocumentState) (until : ℕ) (frames : Bool) (fate : F) (w v : WorldState)
    (lines others : List (List ℕ))
    → IsNamed (initial d.network) → LeadsTo answers d until frames fate w lines
    → LeadsTo answers d until frames fate v others
    → (w ≡ v) × (lines ≡ others)

-- a world has one report
abbrev pub ReportsOnce : Type 0
ReportsOnce = (d : DocumentState) (until : ℕ) (w : WorldState) (lines others : List (List ℕ))
    → IsNamed w → Reports d until w lines → Reports d until w others
    → lines ≡ others

-- a world has one certificate
abbrev pub StatesOnce : Type 0
StatesOnce = (w : WorldState) (lines others : List SystemLine) → States w lines → States w others → lines ≡ others

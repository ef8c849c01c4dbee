-- Law on what a document does before its end: the lines of the frames so far are the first of all.
use Rattle.std.specs.Prelude.{◌≡◌, ℕ, Bool, List, ◌++◌, Option}
use Rattle.gptp_links.specs.declared.bounds.Bounds.{Bounds}
use Rattle.gptp_network.specs.Document.{DocumentState}
use Rattle.gptp_model.specs.Initial.{initial}
use Rattle.gptp_model.specs.World.{WorldState}
use Rattle.gptp_report.specs.Run.{LeadsSoFar, LeadsTo}
use Rattle.gptp_determinism.specs.Named.{AnswersOnce, IsNamed}

-- those lines are the first of all that the document leads to
abbrev pub LeadsBeginSo : {F : Type 0} → (Bounds → ℕ → F → Option ℕ → F → Type 0) → Type 0
LeadsBeginSo {F} answers = AnswersOnce answers →
    (d : DocumentState) (until : ℕ) (frames : Bool) (fate : F) (w : WorldState) (lines whole : List (List ℕ))
    → IsNamed (initial d.network) → LeadsSoFar answers d until frames fate lines
    → LeadsTo answers d until frames fate w whole
    → (rest : List (List ℕ)) × (whole ≡ lines ++ rest)

-- The report of a world that a document led to (profile).
use Rattle.std.specs.Prelude.{◌≡◌, ◌⊎◌, ℕ, List, [], ◌∷◌, ◌++◌, codes}
use Rattle.std.specs.Fmt.{decimal}
use Rattle.gptp_network.specs.Document.{DocumentState}
use Rattle.gptp_model.specs.Acts.{AtSystem}
use Rattle.gptp_scenario.specs.Calm.{IsCalm, last_change}
use Rattle.gptp_scenario.specs.SettlingTime.{settles}
use Rattle.gptp_model.specs.Views.{rising_clocks}
use Rattle.gptp_model.specs.World.{WorldState}
use Rattle.gptp_words.specs.Lines.{text_of}
use Rattle.gptp_report.specs.SystemLines.{system_lines}

abbrev pub time_line : ℕ → List ℕ
time_line until = codes "time " ++ decimal until

-- a last change, and by when a network that is calm after it has settled
abbrev pub calm_text : ℕ → ℕ → List ℕ
calm_text last settled = codes "change " ++ decimal last ++ codes " calm yes settle " ++ decimal settled

-- the line of a calm document
abbrev pub calm_line : DocumentState → List ℕ
calm_line d = calm_text (last_change d.events) (settles d.network d.events)

abbrev pub restless_line : DocumentState → List ℕ
restless_line d = codes "change " ++ decimal (last_change d.events) ++ codes " calm no"

abbrev pub IsChangeLine : DocumentState → List ℕ → Type 0
IsChangeLine d line =
    (IsCalm d.network d.events × (line ≡ calm_line d)) ⊎ ((IsCalm d.network d.events → ⊥) × (line ≡ restless_line d))

-- the lines of the system with a clock come after what was written
abbrev pub WritesSystem : ℕ → WorldState → List ℕ → List ℕ → Type 0
WritesSystem name w before after = AtSystem name w (λ place station. after ≡ before ++ text_of (system_lines station))

-- the lines of the systems with these clocks, one system after another
abbrev pub ShowsSystems : List ℕ → WorldState → List (List ℕ) → Type 0
ShowsSystems [] w lines = lines ≡ []
ShowsSystems (name ∷ names) w lines = (rest : List (List ℕ))
    × AtSystem name w (λ place station. lines ≡ system_lines station ++ rest) × ShowsSystems names w rest

-- the time, the last change, and all systems by rising clock
pub record Reports (d : DocumentState) (until : ℕ) (w : WorldState) (lines : List (List ℕ)) : Type 0 where
  pub change : List ℕ
  pub changes : IsChangeLine d change
  pub systems : List (List ℕ)
  pub shows : ShowsSystems (rising_clocks w) w systems
  pub are : lines ≡ time_line until ∷ change ∷ systems

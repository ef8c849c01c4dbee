-- What a document does up to a time, and the lines of the frames meanwhile (profile).
use Rattle.std.specs.Prelude.{◌≡◌, ◌⊎◌, ℕ, Bool, true, false, List, [], ◌∷◌, ◌++◌, Option}
use Rattle.gptp_links.specs.declared.bounds.Bounds.{Bounds}
use Rattle.gptp_network.specs.Document.{DocumentState}
use Rattle.gptp_network.specs.Snapshot.{events_by}
use Rattle.gptp_scenario.specs.declared.change.Timed.{Timed}
use Rattle.gptp_model.specs.declared.done.Done.{Done}
use Rattle.gptp_model.specs.declared.done.Done.TheVariants.{Quiet, Heard}
use Rattle.gptp_model.specs.Advancing.{Advanced, Advances, Told}
use Rattle.gptp_model.specs.Course.{Begun, WasDone}
use Rattle.gptp_model.specs.World.{WorldState}
use Rattle.gptp_report.specs.declared.frame_line.FrameType.{FrameType}
use Rattle.gptp_report.specs.FrameLine.{frame_line, IsOfType}

-- A change is made once all that is due by its time has happened, and leads from one state to another.
pub record Changed {F : Type 0} (answers : Bounds → ℕ → F → Option ℕ → F → Type 0) (event : Timed) (told : List Told)
    (fate fate_after : F) (w w' : WorldState) : Type 0 where
  pub drawn : F
  pub between : WorldState
  pub advanced : Advanced answers event.at told fate drawn w between
  pub done : Done
  pub changed : WasDone answers event drawn fate_after between w' done

-- Changes are made so, one after another; then all that is due by the end happens. This is told meanwhile.
abbrev pub Goes : {F : Type 0} → (Bounds → ℕ → F → Option ℕ → F → Type 0) → ℕ → List Timed → List Told → F → F
    → WorldState → WorldState → Type 0
Goes answers until [] told fate fate_after w w' = Advanced answers until told fate fate_after w w'
Goes {F} answers until (event ∷ events) told fate fate_after w w' =
    (first : List Told) × (rest : List Told) × (drawn : F) × (between : WorldState)
    × Changed answers event first fate drawn w between × Goes answers until events rest drawn fate_after between w'
    × (told ≡ first ++ rest)

-- The world of a document begins, and goes on with its events up to a time.
pub record PlaysRun {F : Type 0} (answers : Bounds → ℕ → F → Option ℕ → F → Type 0) (d : DocumentState) (until : ℕ)
    (fate : F) (told : List Told) (w : WorldState) : Type 0 where
  pub started : F
  pub start : WorldState
  pub begun : Begun answers d.network fate started start
  pub drawn : F
  pub goes : Goes answers until (events_by until d.events) told started drawn start w

-- the line of an act at which a frame reached a port; none of another
abbrev pub ShowsDone : ℕ → Done → List (List ℕ) → Type 0
ShowsDone at Quiet lines = lines ≡ []
ShowsDone at (Heard clock port answer frame) lines =
    (kind : FrameType) × IsOfType frame.items kind × (lines ≡ frame_line at clock port kind answer frame.items ∷ [])

-- the lines of all frames, in order of delivery
abbrev pub ShowsFrames : List Told → List (List ℕ) → Type 0
ShowsFrames [] lines = lines ≡ []
ShowsFrames (t ∷ told) lines = (first : List (List ℕ)) × (rest : List (List ℕ))
    × ShowsDone t.timed.at t.done first × ShowsFrames told rest × (lines ≡ first ++ rest)

-- where they are asked for
abbrev pub ShowsIf : Bool → List Told → List (List ℕ) → Type 0
ShowsIf true told lines = ShowsFrames told lines
ShowsIf false told lines = lines ≡ []

-- A document leads to this world by a time, and to the lines of the frames meanwhile, where they are asked for.
pub record LeadsTo {F : Type 0} (answers : Bounds → ℕ → F → Option ℕ → F → Type 0) (d : DocumentState) (until : ℕ)
    (frames : Bool) (fate : F) (w : WorldState) (lines : List (List ℕ)) : Type 0 where
  pub told : List Told
  pub plays : PlaysRun answers d until fate told w
  pub shows : ShowsIf frames told lines

-- ---- as far as it gets

-- Acts were done, each the next that was pending then, none later than a time. This was told of them; then it broke
-- off.
pub record BreaksOff {F : Type 0} (answers : Bounds → ℕ → F → Option ℕ → F → Type 0) (until : ℕ) (told : List Told)
    (fate : F) (w : WorldState) : Type 0 where
  pub fate_after : F
  pub after : WorldState
  pub advances : Advances answers until told fate fate_after w after

-- Some of the changes are made, one after another, and after them it breaks off. This is told until then.
abbrev pub GoesSoFar : {F : Type 0} → (Bounds → ℕ → F → Option ℕ → F → Type 0) → ℕ → List Timed → List Told → F
    → WorldState → Type 0
GoesSoFar answers until [] told fate w = BreaksOff answers until told fate w
GoesSoFar {F} answers until (event ∷ events) told fate w =
    BreaksOff answers event.at told fate w
    ⊎ ((first : List Told) × (rest : List Told) × (drawn : F) × (between : WorldState)
    × Changed answers event first fate drawn w between × GoesSoFar answers until events rest drawn between
    × (told ≡ first ++ rest))

-- The world of a document begins and goes on until it breaks off, and these are the lines of the frames until then,
-- where they are asked for.
pub record LeadsSoFar {F : Type 0} (answers : Bounds → ℕ → F → Option ℕ → F → Type 0) (d : DocumentState) (until : ℕ)
    (frames : Bool) (fate : F) (lines : List (List ℕ)) : Type 0 where
  pub told : List Told
  pub started : F
  pub start : WorldState
  pub begun : Begun answers d.network fate started start
  pub goes : GoesSoFar answers until (events_by until d.events) told started start
  pub shows : ShowsIf frames told lines

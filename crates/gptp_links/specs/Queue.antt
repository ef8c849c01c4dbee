-- What is in flight in one direction of a link (profile).
use Rattle.std.specs.Prelude.{◌≡◌, ℕ, ◌+◌, ◌≤◌, max, ⊤, List, [], ◌∷◌, ◌++◌, Option, Some, None}
use Rattle.std.specs.Option.{option_map, option_map_or, IsSomeAnd}
use Rattle.gptp_links.specs.declared.bounds.Bounds.{Bounds}
use Rattle.gptp_links.specs.Bounds.{IsLawful}

-- a frame, and when it is due, in ns
pub record Frame : Type 0 where
  pub due : ℕ
  pub octets : List ℕ

-- the frames in flight, oldest first, and how many more can be sent without being refused
pub record Queue : Type 0 where
  pub frames : List Frame
  pub room : ℕ

abbrev pub frame : ℕ → List ℕ → Frame
frame due octets = record { due = due; octets = octets }

abbrev pub first_frame : List Frame → Option Frame
first_frame [] = None
first_frame (f ∷ fs) = Some f

abbrev pub last : List Frame → Option Frame
last [] = None
last (f ∷ []) = Some f
last (f ∷ (g ∷ fs)) = last (g ∷ fs)

-- no frame is due before one that was sent earlier
abbrev pub AreDueInOrder : List Frame → Type 0
AreDueInOrder [] = ⊤
AreDueInOrder (f ∷ []) = ⊤
AreDueInOrder (f ∷ (g ∷ fs)) = (f.due ≤ g.due) × AreDueInOrder (g ∷ fs)

-- when the newest frame is due, or 0
abbrev pub newest_due : List Frame → ℕ
newest_due frames = option_map_or (λ (f : Frame). f.due) (last frames) 0

-- When a frame is due that is sent at this time with this delay: not before the last that is in flight there.
abbrev pub due_after : List Frame → ℕ → ℕ → ℕ
due_after frames sent delay = max (sent + delay) (newest_due frames)

-- the frames in flight once one was sent that is due then, or was lost
abbrev pub with_sent : List Frame → Option ℕ → List ℕ → List Frame
with_sent frames None octets = frames
with_sent frames (Some due) octets = frames ++ frame due octets ∷ []

-- A frame was sent: one lawful answer was drawn, and unless it is a loss the frame went after the others.
pub record IsSent {F : Type 0} (answers : Bounds → ℕ → F → Option ℕ → F → Type 0) (bounds : Bounds) (now : ℕ)
    (fate fate_after : F) (before : List Frame) (octets : List ℕ)
    (after : List Frame) (due : Option ℕ) : Type 0 where
  pub answer : Option ℕ
  pub drawn : answers bounds now fate answer fate_after
  pub lawful : IsLawful bounds answer
  pub due_is : due ≡ option_map (due_after before now) answer
  pub frames : after ≡ with_sent before due octets

-- the oldest frame is due
abbrev pub FrameIsDue : List Frame → ℕ → Type 0
FrameIsDue frames now = IsSomeAnd (first_frame frames) (λ f. f.due ≤ now)

-- the oldest frame was taken out, whole
pub record IsTaken (before : List Frame) (octets : List ℕ) (after : List Frame) : Type 0 where
  pub due : ℕ
  pub oldest : before ≡ frame due octets ∷ after

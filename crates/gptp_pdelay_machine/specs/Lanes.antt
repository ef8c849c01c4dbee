-- Frames in flight, and what is said of a lane of them. Which message a frame's octets are is a parameter throughout:
-- `says octets x`, the octets are the message x. Frames that are no such message are mute, whatever else they are.
use Rattle.std.specs.Prelude.{◌⊎◌, ℕ, List, [], ◌∷◌}
use Rattle.gptp_lists.specs.Members.{In}

-- a frame in flight: when it is due at the other end, in ns, and its octets
pub record LaneFrame : Type 0 where
  pub due : ℕ
  pub octets : List ℕ

-- the frame is no message of the kind that `says` reads
abbrev pub IsMute : {X : Type 0} → (List ℕ → X → Type 0) → LaneFrame → Type 0
IsMute {X} says f = (x : X) → says f.octets x → ⊥

-- none of the frames is
abbrev pub AreMute : {X : Type 0} → (List ℕ → X → Type 0) → List LaneFrame → Type 0
AreMute {X} says fs = (f : LaneFrame) → In f fs → IsMute says f

-- first mute frames, then one of which P holds, and of the frames after it Q holds
abbrev pub FirstIs : {X : Type 0} → (List ℕ → X → Type 0) → (LaneFrame → Type 0) → (List LaneFrame → Type 0)
    → List LaneFrame
    → Type 0
FirstIs {X} says P Q [] = ⊥
FirstIs {X} says P Q (f ∷ fs) = (P f × Q fs) ⊎ (IsMute says f × FirstIs says P Q fs)

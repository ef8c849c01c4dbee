-- What a link is (profile).
use Rattle.std.specs.Prelude.{◌≡◌, ℕ, ◌≤◌, Bool}
use Rattle.gptp_links.specs.declared.bounds.Bounds.{Bounds}
use Rattle.gptp_links.specs.declared.link.Direction.{Direction}
use Rattle.gptp_links.specs.declared.link.Direction.TheVariants.{FromA, FromB}
use Rattle.gptp_links.specs.Queue.{Queue}

-- a link: its bounds, whether it is up, and what is in flight from each end
pub record LinkState : Type 0 where
  pub bounds : Bounds
  pub up : Bool
  pub from_a : Queue
  pub from_b : Queue

-- what is in flight in a direction
abbrev pub queue : Direction → LinkState → Queue
queue FromA link = link.from_a
queue FromB link = link.from_b

abbrev pub opposite : Direction → Direction
opposite FromA = FromB
opposite FromB = FromA

-- what is in flight the other way, the bounds and whether the link is up stay
pub record ChangesOnly (direction : Direction) (old new : LinkState) : Type 0 where
  pub other_way : queue (opposite direction) new ≡ queue (opposite direction) old
  pub bounds : new.bounds ≡ old.bounds
  pub up : new.up ≡ old.up

-- the frames in flight, the bounds and whether the link is up stay; the room may change
pub record SameFrames (old new : LinkState) : Type 0 where
  pub from_a : new.from_a.frames ≡ old.from_a.frames
  pub from_b : new.from_b.frames ≡ old.from_b.frames
  pub bounds : new.bounds ≡ old.bounds
  pub up : new.up ≡ old.up

-- there is no less room than there was
pub record KeepsRoom (old new : LinkState) : Type 0 where
  pub from_a : old.from_a.room ≤ new.from_a.room
  pub from_b : old.from_b.room ≤ new.from_b.room

-- at least this many more frames can be sent in each direction
pub record HasRoom (more : ℕ) (link : LinkState) : Type 0 where
  pub from_a : more ≤ link.from_a.room
  pub from_b : more ≤ link.from_b.room

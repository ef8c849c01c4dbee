-- What is pending in a world, the frames in flight, and room for more.
use Rattle.std.specs.Prelude.{ℕ, List, [], slice_index_or}
use Rattle.gptp_links.specs.declared.link.Direction.{Direction}
use Rattle.gptp_links.specs.Queue.{Frame}
use Rattle.gptp_model.specs.Pending.{Entry, arrival_place}

-- how many systems and links there are, what is pending of them, the frames in flight of each direction of each link,
-- oldest first, and how many more can be put without being refused
pub record PendingView : Type 0 where
  pub systems : ℕ
  pub links : ℕ
  pub entries : List Entry
  pub frames : List (List Frame)
  pub room : ℕ

-- the frames in flight of a direction of a link
abbrev pub frames_at : ℕ → Direction → List (List Frame) → List Frame
frames_at link direction frames = slice_index_or frames (arrival_place link direction) []

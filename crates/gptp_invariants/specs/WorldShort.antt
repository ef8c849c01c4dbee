-- No frame in flight is due later than one greatest delay from now.
use Rattle.std.specs.Prelude.{◌≡◌, ◌+◌, ◌≤◌, ℕ, List, Some, slice_get}
use Rattle.gptp_lists.specs.Members.{In}
use Rattle.gptp_links.specs.declared.link.Direction.{Direction}
use Rattle.gptp_links.specs.Queue.{Frame}
use Rattle.gptp_model.specs.World.{Channel, WorldState, world_queue}

-- no delay of a link is longer than this span, and what is in flight is due within it from now
pub record IsShortChannel (span time : ℕ) (channel : Channel) : Type 0 where
  pub most : channel.bounds.max ≤ span
  pub dues : (direction : Direction) (f : Frame) → In f (world_queue direction channel) → f.due ≤ time + span

abbrev pub AreShort : ℕ → ℕ → List Channel → Type 0
AreShort span time channels = (link : ℕ) (channel : Channel) → slice_get channels link ≡ Some channel
    → IsShortChannel span time channel

-- on every link of a world no delay is longer than this span, and what is in flight is due within it from now
abbrev pub IsShort : ℕ → WorldState → Type 0
IsShort span w = AreShort span w.time w.net.channels

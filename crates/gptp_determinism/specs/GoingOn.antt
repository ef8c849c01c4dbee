-- Worlds that can go on, and fates that answer whatever they are asked.
use Rattle.std.specs.Prelude.{◌≡◌, ◌<◌, ◌≤◌, ⊤, ℕ, List, length, Option, Some, slice_get}
use Rattle.std.specs.List.{AllByRecursion}
use Rattle.gptp_links.specs.declared.bounds.Bounds.{Bounds}
use Rattle.gptp_links.specs.declared.link.Direction.{Direction}
use Rattle.gptp_links.specs.Bounds.{Fit, IsLawful}
use Rattle.gptp_links.specs.Queue.{Frame}
use Rattle.gptp_scenario.specs.declared.change.Act.{Act}
use Rattle.gptp_scenario.specs.declared.change.Act.TheVariants.{Change as Changing}
use Rattle.gptp_scenario.specs.declared.change.Change.TheVariants.{Inject}
use Rattle.gptp_system.specs.Facts.{IsSystem}
use Rattle.gptp_system.specs.Input.{Input, Frame as FrameHeard}
use Rattle.gptp_model.specs.declared.station.Station.{Station}
use Rattle.gptp_model.specs.Changing.{IsStation}
use Rattle.gptp_model.specs.Sound.{IsSound}
use Rattle.gptp_model.specs.World.{Channel, WorldState, world_queue, sender}

-- A fate that is asked anything answers, within the bounds.
abbrev pub AnswersAll : {F : Type 0} → (Bounds → ℕ → F → Option ℕ → F → Type 0) → Type 0
AnswersAll {F} answers = (bounds : Bounds) (sent : ℕ) (fate : F) → Fit bounds
    → (answer : Option ℕ) × (after : F) × answers bounds sent fate answer after × IsLawful bounds answer

-- each number is an octet
abbrev pub AllAreOctets : List ℕ → Type 0
AllAreOctets = AllByRecursion (λ n. n < 256)

-- octets that a frame can have: no more than the longest of this profile has
abbrev pub AreOfFrame : List ℕ → Type 0
AreOfFrame octets = AllAreOctets octets × (length octets ≤ 2116)

-- what a system hears is octets
abbrev pub HearsOctets : Input → Type 0
HearsOctets (FrameHeard port octets) = AllAreOctets octets
HearsOctets input = ⊤

-- what is injected is octets that a frame can have
abbrev pub InjectsOctets : Act → Type 0
InjectsOctets (Changing (Inject number port octets)) = AreOfFrame octets
InjectsOctets act = ⊤

-- a frame in flight is octets that a frame can have
abbrev pub IsOfOctets : Frame → Type 0
IsOfOctets f = AreOfFrame f.octets

-- A sound world whose systems are such as steps ask for, whose links end at systems, and in which octets are in flight.
pub record CanGoOn (w : WorldState) : Type 0 where
  pub sound : IsSound w
  pub systems : (place : ℕ) (station : Station) → slice_get w.stations place ≡ Some station → IsSystem station.system
  pub ends : (link : ℕ) (direction : Direction) (channel : Channel) → slice_get w.net.channels link ≡ Some channel
      → (place : ℕ) × (station : Station) × IsStation (sender direction channel).clock place w station
  pub octets : (link : ℕ) (direction : Direction) (channel : Channel) → slice_get w.net.channels link ≡ Some channel
      → AllByRecursion IsOfOctets (world_queue direction channel)

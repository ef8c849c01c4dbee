-- Laws on states in which all that is held and in flight on any lane is sound.
use Rattle.std.specs.Prelude.{◌≡◌, ◌≤◌, ◌+◌, ℕ}
use Rattle.gptp_graph.specs.Snapshot.{Snapshot, IsWellFormed}
use Rattle.gptp_bmca_machine.specs.Frame.{Announce, Spelling}
use Rattle.gptp_bmca_machine.specs.Station.{MachineState}
use Rattle.gptp_bmca_machine.specs.Touch.{StationTouch, Hear}
use Rattle.gptp_bmca_machine.specs.Acts.{StationAnswers, MachineSteps}
use Rattle.gptp_bmca_machine.specs.Facts.{NetworkSetting, StationFacts}
use Rattle.gptp_bmca_machine.specs.Calm.{Calm}
use Rattle.gptp_bmca_machine.specs.CleanInvariant.{TracesAreClean}
use Rattle.gptp_bmca_machine.specs.Network.{Network, IsSettlingNetwork, network_setting, machine_clean_from}
use Rattle.gptp_bmca_machine.specs.Sound.{HeldIsSound}
use Rattle.gptp_bmca_machine.specs.SoundLaws.{IsSoundOnLinks, HasNews}
use Rattle.gptp_bmca_machine.specs.SoundEverywhere.{IsSoundEverywhere, MaySay}

-- every step keeps it, whatever the time is
abbrev pub EverywhereIsKept : Spelling → Type 0
EverywhereIsKept says = (k : NetworkSetting) (w w' : MachineState)
    → IsWellFormed k.graph → StationFacts k w → StationFacts k w' → MachineSteps says w w'
    → IsSoundEverywhere says k.graph w
    → IsSoundEverywhere says k.graph w'

-- each call by which the network changes keeps that all is sound, where the system is one of the snapshot; such a call
-- hears no Announce
abbrev pub CallsAreSound : Spelling → Type 0
CallsAreSound says = (g : Snapshot) (touch : StationTouch) (w w' : MachineState) (call : StationAnswers says touch w w')
    → IsWellFormed g → MaySay g call.s' → ((n : ℕ) (a : Announce) → touch ≡ Hear n a → ⊥) → IsSoundEverywhere says g w
    → IsSoundEverywhere says g w'

-- what is sound stays so where the network gains systems and links, and where a system becomes better
abbrev pub NewsKeepSound : Spelling → Type 0
NewsKeepSound says = (g g' : Snapshot) (w : MachineState)
    → IsWellFormed g → HasNews g g' → IsSoundEverywhere says g w
    → IsSoundEverywhere says g' w

-- in particular what is held is
abbrev pub SoundIsHeld : Spelling → Type 0
SoundIsHeld says = (g : Snapshot) (w : MachineState) → IsSoundEverywhere says g w → HeldIsSound g w

-- where all is sound on every lane, all that is held is sound, and all that is in flight on the links of the snapshot
abbrev pub LinksAreSound : Spelling → Type 0
LinksAreSound says = (g : Snapshot) (w : MachineState) → IsSoundEverywhere says g w → IsSoundOnLinks says g w

-- It comes to be so: an announce interval after what is held has become wholly clean, so is all that is in flight, on
-- lanes from and to failed systems too.
abbrev pub EverywhereBecomesSound : Spelling → Type 0
EverywhereBecomesSound says = (n : Network) (w : MachineState)
    → IsSettlingNetwork n → Calm n w → TracesAreClean says (network_setting n) w
    → n.gone ≤ w.time → machine_clean_from n + n.interval ≤ w.time
    → IsSoundEverywhere says n.graph w

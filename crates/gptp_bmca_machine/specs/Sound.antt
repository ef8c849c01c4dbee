-- What is held is sound: it names a root worse than the best, or is wholly clean.
use Rattle.std.specs.Prelude.{◌≡◌, ◌≤◌, ℕ, suc, true, Some, slice_get}
use Rattle.gptp_graph.specs.Snapshot.{Snapshot}
use Rattle.gptp_bmca_machine.specs.Station.{Reception, Station, MachineState, HoldsAt}
use Rattle.gptp_bmca_machine.specs.Clean.{CameSound, CameFits}
use Rattle.gptp_bmca_machine.specs.Network.{Network}

-- everything that a live system of the snapshot received has come over the port's link, and is sound
abbrev pub HeldIsSound : Snapshot → MachineState → Type 0
HeldIsSound g w = (i : ℕ) (s : Station) (place : ℕ) (r : Reception)
    → slice_get w.stations i ≡ Some s → s.live ≡ true → HoldsAt s place r
    → CameSound g s.clock (suc place) r

-- everything that a live system received fits
abbrev pub ReceivedFits : Snapshot → MachineState → Type 0
ReceivedFits g w = (i : ℕ) (s : Station) (place : ℕ) (r : Reception)
    → slice_get w.stations i ≡ Some s → s.live ≡ true → HoldsAt s place r
    → CameFits g s.clock (suc place) r

-- everything that a live system received fits, from the time on that the network gives as `sound`
abbrev pub RunIsSound : Network → MachineState → Type 0
RunIsSound n w = n.sound ≤ w.time → ReceivedFits n.graph w

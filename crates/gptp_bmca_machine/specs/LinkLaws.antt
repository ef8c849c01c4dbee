-- Laws on one link: it comes to tell what the system at its one end has settled at.
use Rattle.std.specs.Prelude.{◌≡◌, ◌≤◌}
use Rattle.gptp_bmca_machine.specs.Frame.{Spelling, Lane}
use Rattle.gptp_bmca_machine.specs.Station.{Reception, Received, Port, MachineState}
use Rattle.gptp_bmca_machine.specs.Acts.{MachineSteps}
use Rattle.gptp_bmca_machine.specs.LinkStage.{Wiring, IsFinal}
use Rattle.gptp_bmca_machine.specs.Link.{TellerIsReady, Ends, LapsesLater, HearsOn, StaysOn, Stand, LinkSettles}

-- every step keeps that the link is at one of the stages whenever the teller has settled
abbrev pub LinkIsKept : Spelling → Type 0
LinkIsKept says = (k : Wiring) (w w' : MachineState)
    → Ends k w → Ends k w' → LapsesLater k w → HearsOn says k w → StaysOn k w w' → MachineSteps says w w'
    → LinkSettles says k w
    → LinkSettles says k w'

-- in the end the hearer holds a final Announce whenever the teller has settled
abbrev pub LinkIsSettled : Spelling → Type 0
LinkIsSettled says = (k : Wiring) (w : MachineState) (pv pu : Port) (l : Lane)
    → Ends k w → LinkSettles says k w → (stand : Stand k w pv pu l) → TellerIsReady k stand.v pv
    → k.before ≤ w.time
    → (r : Reception) × (pu.held ≡ Received r) × IsFinal k r.said

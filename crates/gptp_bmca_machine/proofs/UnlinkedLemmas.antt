-- What systems that a loss moves hold at ports without a link: it was told before, until its time is over.
use Rattle.std.proofs.Common.{◌≡◌, ◌<◌, ℕ, suc, true, Some, slice_get, sym, subst, ◌∙◌}
use Rattle.gptp_lists.specs.Members.{In}
use Rattle.gptp_graph.specs.Best.{IsBest}
use Rattle.gptp_graph.specs.Distance.{IsDistance}
use Rattle.gptp_graph.specs.Snapshot.{Adjacent, IsLinked, Snapshot, System, port_of}
use Rattle.gptp_bmca_machine.specs.Frame.{Announce}
use Rattle.gptp_bmca_machine.specs.LossLaws.{Unmoved}
use Rattle.gptp_bmca_machine.specs.Network.{Network}
use Rattle.gptp_bmca_machine.specs.SoundLaws.{UnlinkedAreOff}
use Rattle.gptp_bmca_machine.specs.Station.{Disabled, HoldsAt, MachineState, Received, Reception, Station}

-- the system is moved
abbrev pub IsMoved : Snapshot → Network → ℕ → Type 0
IsMoved g n v = Unmoved g n v → ⊥

-- Who told it isn't beside the system any more; by that the system had its root and steps.
pub record IsOldTold (g : Snapshot) (n : Network) (v : ℕ) (a : Announce) : Type 0 where
  pub from : ℕ
  pub beside : Adjacent g v from
  pub gone : Adjacent n.graph v from → ⊥
  pub old : (b : System) (d : ℕ) → IsBest g v b → IsDistance g v d → (a.root ≡ b.identity) × (suc a.steps ≡ d)

-- so it is of what such systems hold at ports without a link
abbrev pub UnlinkedHoldOld : Snapshot → Network → MachineState → Type 0
UnlinkedHoldOld g n w = (i : ℕ) (s : Station) (place : ℕ) (r : Reception) → slice_get w.stations i ≡ Some s
    → s.live ≡ true → IsMoved g n s.clock → HoldsAt s place r
    → (IsLinked n.graph (port_of s.clock (suc place)) → ⊥)
    → IsOldTold g n s.clock r.said

-- once a time is over they hold nothing there
abbrev pub UnlinkedHoldNone : Snapshot → Network → ℕ → MachineState → Type 0
UnlinkedHoldNone g n start w = start < w.time → (v : ℕ) (s : Station) (place : ℕ) (r : Reception) → IsMoved g n v
    → slice_get w.stations (n.place v) ≡ Some s → s.live ≡ true → s.clock ≡ v
    → (IsLinked n.graph (port_of v (suc place)) → ⊥) → HoldsAt s place r
    → ⊥

-- In a step such a port doesn't come to hold something where it held nothing.
abbrev pub UnlinkedDrop : Snapshot → Network → MachineState → MachineState → Type 0
UnlinkedDrop g n w w' = (v : ℕ) (s s' : Station) (place : ℕ) (r' : Reception) → IsMoved g n v
    → slice_get w.stations (n.place v) ≡ Some s
    → slice_get w'.stations (n.place v) ≡ Some s' → s'.live ≡ true → s'.clock ≡ v
    → (IsLinked n.graph (port_of v (suc place)) → ⊥) → HoldsAt s' place r'
    → (r : Reception) × HoldsAt s place r

-- all that is so where ports without a link are off
pub off_none : (g : Snapshot) (n : Network) (start : ℕ) (w : MachineState) → UnlinkedAreOff n.graph w
    → UnlinkedHoldNone g n start w
off_none g n start w dark over v s place r moved at live clock none (q, there, holds) =
    let off = dark (n.place v) s place q at live there
    (λ linked. none (subst (λ c. IsLinked n.graph (port_of c (suc place))) clock linked)) in
    absurd (let both : Received r ≡ Disabled = sym holds ∙ off in cc)

pub off_hold_old : (g : Snapshot) (n : Network) (w : MachineState) → UnlinkedAreOff n.graph w → UnlinkedHoldOld g n w
off_hold_old g n w dark i s place r at live moved (q, there, holds) none =
    let off = dark i s place q at live there none in
    absurd (let both : Received r ≡ Disabled = sym holds ∙ off in cc)

pub off_drop : (g : Snapshot) (n : Network) (w w' : MachineState) → UnlinkedAreOff n.graph w' → UnlinkedDrop g n w w'
off_drop g n w w' dark v s s' place r' moved at at' live clock none (q, there, holds) =
    let off = dark (n.place v) s' place q at' live there
    (λ linked. none (subst (λ c. IsLinked n.graph (port_of c (suc place))) clock linked)) in
    absurd (let both : Received r' ≡ Disabled = sym holds ∙ off in cc)

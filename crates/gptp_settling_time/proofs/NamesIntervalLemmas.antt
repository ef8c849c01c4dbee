-- An Announce names the interval of the port that sent it, or it is old, as one that was put onto a link: it has aged
-- by a time. Then each that is held, and each in flight, names that interval.
use Rattle.std.proofs.Common.{◌≡◌, ◌⊎◌, ◌≤◌, ◌<◌, ℕ, ℤ, suc, true, Some, slice_get, sym, ap, ◌∙◌, inl, inr, arith}
use Rattle.gptp_lists.specs.Members.{In}
use Rattle.gptp_graph.specs.Snapshot.{PortIdentity, clocks, port_of}
use Rattle.gptp_bmca_machine.specs.Acts.{MachineSteps}
use Rattle.gptp_bmca_machine.specs.Facts.{NetworkSetting, StationFacts}
use Rattle.gptp_bmca_machine.specs.Frame.{Announce, AnnounceFrame, Lane, Spelling}
use Rattle.gptp_bmca_machine.specs.Network.{Network, network_setting}
use Rattle.gptp_bmca_machine.specs.Station.{HoldsAt, MachineState, Port, Reception, Station}
use Rattle.gptp_settling_time.proofs.AgingLemmas.{EachAges, StaysAsNamed, each_ages}

abbrev pub NamesInterval : Network → Announce → Type 0
NamesInterval n a = a.log ≡ n.log_of a.source

-- it does, or it ages before this time
abbrev pub NamedOrOld : Network → ℕ → PortIdentity → Announce → ℕ → Type 0
NamedOrOld n old port a until = NamesInterval n a ⊎ (until < old)

-- a live system's port announces at the interval that the network says
abbrev pub AnnounceAsSet : Network → MachineState → Type 0
AnnounceAsSet n w = (i : ℕ) (s : Station) (place : ℕ) (q : Port) → slice_get w.stations i ≡ Some s → s.live ≡ true
    → slice_get s.ports place ≡ Some q → q.log ≡ n.log_of (port_of s.clock (suc place))

-- every step keeps that
pub named_kept : (says : Spelling) (n : Network) (stay : ℤ → ℕ) (old : ℕ) (w w' : MachineState)
    → StationFacts (network_setting n) w → StationFacts (network_setting n) w' → AnnounceAsSet n w'
    → StaysAsNamed stay w' → MachineSteps says w w' → EachAges says n.graph stay (NamedOrOld n old) w
    → EachAges says n.graph stay (NamedOrOld n old) w'
named_kept says n stay old w w' facts facts' set named =
    each_ages says (network_setting n) stay (NamedOrOld n old) w w' facts facts' named
    (λ i s p a at live own (j, q, same, there, mine) to joins until.
    inl (own.log j q same there ∙ set i s j q at live there
    ∙ ap n.log_of ((λ k. port_of s.clock (sym same k)) ∙ sym own.source)))

-- from then on each does that is held or in flight
module _ (says : Spelling) (n : Network) (stay : ℤ → ℕ) (old : ℕ) (w : MachineState) (k : NetworkSetting)
    (facts : StationFacts k w)
    (left : (j : ℕ) (l : Lane) (f : AnnounceFrame) → slice_get w.lanes j ≡ Some l → In f l.frames → w.time ≤ f.due)
    (late : old ≤ w.time) (all : EachAges says n.graph stay (NamedOrOld n old) w) where
  pub held_named : (i : ℕ) (s : Station) (place : ℕ) (r : Reception) → slice_get w.stations i ≡ Some s → s.live ≡ true
      → HoldsAt s place r → NamesInterval n r.said
  held_named i s place r at live holds = elim (all.held i s place r at live holds) [
    | inl named ↦ named
    | inr over ↦ let stays = ((facts.stations i s at live).held place r holds).stays in
        absurd (omega (arith, over, stays, late))
  ]

  pub flight_named : (j : ℕ) (l : Lane) (f : AnnounceFrame) (a : Announce) → slice_get w.lanes j ≡ Some l
      → In f l.frames → says f.octets a → In l.to.clock (clocks n.graph) → NamesInterval n a
  flight_named j l f a at among said known = elim (all.flight j l f a at among said known) [
    | inl named ↦ named
    | inr over ↦ let left = left j l f at among in absurd (omega (arith, over, left, late))
  ]

-- Once the choice of a world stands it announces over links only to systems that are farther, or as far with the higher
-- clock; once what was sent before has arrived all that is in flight leads so.
use Rattle.std.proofs.Common.{◌≡◌, ◌⊎◌, ◌<◌, ◌≤◌, ℕ, suc, true, List, Some, length, slice_get, refl, sym, ap, subst, ◌∙◌, inl, inr, arith}
use Rattle.gptp_lists.specs.Members.{In}
use Rattle.gptp_lists.proofs.SystemSpecLemmas.{In-parts}
use Rattle.gptp_graph.specs.Distance.{IsDistance, IsNear}
use Rattle.gptp_graph.specs.SettledRole.{IsMasterPort, IsSettledRole}
use Rattle.gptp_graph.specs.SettledRole as roles
use Rattle.gptp_graph.specs.Snapshot.{IsLinked, IsWellFormed, Joins, PortIdentity, Snapshot, clocks, port_of}
use Rattle.gptp_graph.proofs.DistanceLemmas.{IsDistance-unique}
use Rattle.gptp_graph.proofs.LinkLemmas.{Joins-clock}
use Rattle.gptp_receipt.specs.declared.held.Held.{Held}
use Rattle.gptp_receipt.specs.declared.held.Held.TheVariants as helds
use Rattle.gptp_setup.specs.SettlingParams.{SettlingParams}
use Rattle.gptp_model.specs.World.{WorldState}
use Rattle.gptp_model.specs.declared.station.Station.{Station as WorldStation}
use Rattle.gptp_system.specs.Start.{role_at}
use Rattle.gptp_system.specs.State.{SystemState, clock}
use Rattle.gptp_bmca_machine.specs.Acts.{MachineSteps, Pops, StationAnswers}
use Rattle.gptp_bmca_machine.specs.Frame.{Announce, AnnounceFrame, Lane, Spelling}
use Rattle.gptp_bmca_machine.specs.Reacts.{IsMasterAt}
use Rattle.gptp_bmca_machine.specs.SoundLaws.{AllAreNear}
use Rattle.gptp_bmca_machine.specs.Station.{MachineState, Mine, Port, Station}
use Rattle.gptp_bmca_machine.specs.Touch.{StationTouch}
use Rattle.gptp_invariants.specs.ChoiceSettled.{ChoiceStands, HasSettledChoice, graph_role}
use Rattle.gptp_invariants.specs.ChoiceSettlesAsMachine.{IsWorld}
use Rattle.gptp_invariants.specs.ChoiceView.{held_view, says_announce, span_at, station_view, view}
use Rattle.gptp_invariants.specs.WorldStanding.{snapshot_of}
use Rattle.gptp_invariants.proofs.ChoiceCalmKeptLemmas.{KeepsNetwork, same_snapshot}
use Rattle.gptp_invariants.proofs.ChoicePlaceLemmas.{port_from, station_from}
use Rattle.gptp_invariants.proofs.WorldStandsLemmas.{stands_well}
use Rattle.gptp_settling_time.proofs.PortDownLemmas.{place_within}
use Rattle.gptp_settling_time.proofs.NamedLemmas.{ComesSince}

-- ---- of the machine

-- over a link between these ports it leads to a system that is farther, or as far with the higher clock
abbrev pub LeadsOnward : Snapshot → PortIdentity → PortIdentity → Type 0
LeadsOnward g from to = (d e : ℕ) → IsDistance g from.clock d → IsDistance g to.clock e
    → (d < e) ⊎ ((d ≡ e) × (from.clock < to.clock))

module _ (says : Spelling) (g : Snapshot) (since : ℕ) where
  -- what is in flight on links and is due so late leads so
  abbrev pub FliesOnward : MachineState → Type 0
  FliesOnward w = (j : ℕ) (l : Lane) (f : AnnounceFrame) (a : Announce) → slice_get w.lanes j ≡ Some l → In f l.frames
      → says f.octets a → Joins g l.from l.to → since ≤ f.due → LeadsOnward g l.from l.to

  -- so does each master port of a live system, where something in flight is due so late
  abbrev pub MastersLead : MachineState → Type 0
  MastersLead w = (j : ℕ) (l : Lane) (f : AnnounceFrame) (a : Announce) → slice_get w.lanes j ≡ Some l
      → In f l.frames → says f.octets a → Joins g l.from l.to → since ≤ f.due → (i number : ℕ) (s : Station)
      → slice_get w.stations i ≡ Some s → s.live ≡ true → IsMasterAt s number → l.from ≡ port_of s.clock number
      → LeadsOnward g l.from l.to

  called : (touch : StationTouch) (w w' : MachineState) → StationAnswers says touch w w' → MastersLead w'
      → FliesOnward w → FliesOnward w'
  called touch w w' call masters flies j l' f a at among said joins late =
      let (l, stood, step) = call.lanes j l' at in
      elim (In-parts f l.frames step.news (subst (In f) step.behind among)) [
        | inl old ↦
            subst (λ p. LeadsOnward g p l'.to) (sym step.from)
            (subst (LeadsOnward g l.from) (sym step.to)
            (flies j l f a stood old said
            (subst (λ p. Joins g p l.to) step.from (subst (Joins g l'.from) step.to joins)) late))
        | inr new ↦
            let (z, sent, from, octets) = step.sent f new in
            let (own, master) = call.reacts.tells z a sent (subst (λ o. says o a) octets said) in
            masters j l' f a at among said joins late call.place z.port call.s' call.there
            (call.reacts.live ∙ call.live) master
            (step.from ∙ from ∙ ap (λ c. port_of c z.port) (sym call.reacts.clock))
      ]

  popped : (j : ℕ) (l : Lane) (f : AnnounceFrame) (fs : List AnnounceFrame) (w w' : MachineState) → Pops j l f fs w w'
      → FliesOnward w → FliesOnward w'
  popped j l f fs w w' pops flies m l' x a at among said joins late = elim (pops.lanes m l' at) [
    | inl (same, is) ↦
        subst (λ (y : Lane). LeadsOnward g y.from y.to) (sym is)
        (flies j l x a pops.here (subst (In x) (sym pops.frames) (inr (subst (λ (y : Lane). In x y.frames) is among)))
        said (subst (λ (y : Lane). Joins g y.from y.to) is joins) late)
    | inr (other, stood) ↦ flies m l' x a stood among said joins late
  ]

  pub onward_kept : (w w' : MachineState) → MachineSteps says w w' → MastersLead w' → FliesOnward w → FliesOnward w'
  onward_kept w w' (inl wait) masters flies =
      subst FliesOnward (sym wait.is) (λ j l f a. flies j l f a)
  onward_kept w w' (inr (inl act)) masters flies =
      called act.touch act.mid w' act.call masters (popped act.j act.l act.f act.fs w act.mid act.pops flies)
  onward_kept w w' (inr (inr (inl act))) masters flies = popped act.j act.l act.f act.fs w w' act.pops flies
  onward_kept w w' (inr (inr (inr act))) masters flies = called act.touch w w' act.call masters flies

-- a settled master port leads so
master_leads : (g : Snapshot) (from to : PortIdentity) → IsWellFormed g → IsMasterPort g from → Joins g from to
    → LeadsOnward g from to
master_leads g from to wf is joins d e here there =
    let one : is.other ≡ to = wf.one_link from is.other to is.joins joins in
    let d_is = IsDistance-unique g from.clock is.here d wf is.is_here here in
    let e_is = IsDistance-unique g to.clock is.there e wf
    (subst (λ (p : PortIdentity). IsDistance g p.clock is.there) one is.is_there) there in
    let clock_is = ap (λ (p : PortIdentity). p.clock) one in
    elim is.nearer [
      | inl less ↦ inl (omega (arith, less, d_is, e_is))
      | inr (same, lower) ↦ inr (omega (arith, same, d_is, e_is), omega (arith, lower, clock_is))
    ]

-- ---- of worlds

-- a port on a link that is seen as master is master by the snapshot, where the choice stands
module _ (g : Snapshot) (station : WorldStation) (settled : HasSettledChoice g station.system)
    (places : length station.system.held ≡ length station.system.ports) where
  abbrev s : SystemState
  s = station.system

  master_by : (i root steps : ℕ) (h : Held) → slice_get s.held i ≡ Some h
      → held_view (span_at s) h ≡ Mine root steps → IsLinked g (port_of (clock s) (suc i))
      → IsMasterPort g (port_of (clock s) (suc i))
  master_by i root steps helds.Disabled stands is linked = absurd cc
  master_by i root steps helds.Aged stands is linked = absurd cc
  master_by i root steps (helds.Received r) stands is linked = absurd cc
  master_by i root steps (helds.Mine a b) stands is linked =
      let within = place_within i s.held (helds.Mine a b) stands in
      let role : graph_role (role_at s (suc i)) ≡ roles.Master = rw (stands) refl in
      (subst (IsSettledRole g (port_of (clock s) (suc i))) role
      (settled.roles (suc i) (record { least = omega arith; most = omega (arith, within, places) }) linked)).2

  master_at : (number : ℕ) → IsMasterAt (station_view station) number → IsLinked g (port_of (clock s) number)
      → IsMasterPort g (port_of (clock s) number)
  master_at number (i, q, is, there, mine) linked =
      let port = port_from (span_at s) s.held s.ports i q there in
      subst (λ k. IsMasterPort g (port_of (clock s) k)) (sym is)
      (master_by i s.root s.steps port.held port.held_there
      (ap (λ (x : Port). x.held) (sym port.is) ∙ mine)
      (subst (λ k. IsLinked g (port_of (clock s) k)) is linked))

-- what is in flight on links and comes at this time, or later, leads so
abbrev pub IsOnwardFrom : ℕ → WorldState → Type 0
IsOnwardFrom late w = FliesOnward says_announce (snapshot_of w) late (view w)

module _ (time late : ℕ) where
  -- before the other time nothing comes so late
  pub onward_before : (w : WorldState) → ComesSince time late w → w.time < time → IsOnwardFrom late w
  onward_before w since early j l f a at among said joins on =
      let sent = since j l f a at among said joins on in
      absurd (omega (arith, sent, early))

  module _ (w w' : WorldState) (p : SettlingParams) (is' : IsWorld p w') (keeps : KeepsNetwork w w')
      (near : AllAreNear (snapshot_of w')) (since : ComesSince time late w') (stands : time ≤ w'.time → ChoiceStands w')
    where
      wf : IsWellFormed (snapshot_of w')
      wf = stands_well w' is'.sound is'.between is'.encodable

      masters : MastersLead says_announce (snapshot_of w') late (view w')
      masters j l f a at among said joins on i number s at_s live master from =
          let x = station_from w'.stations i s at_s in
          let lives = sym (ap (λ (z : Station). z.live) x.is) ∙ live in
          let clock_is = ap (λ (z : Station). z.clock) x.is in
          let from_is : l.from ≡ port_of (clock x.station.system) number =
          from ∙ ap (λ c. port_of c number) clock_is in
          let known = Joins-clock (snapshot_of w') l.from l.to wf joins in
          let near_x : IsNear (snapshot_of w') (clock x.station.system) =
          near (clock x.station.system) (subst (λ (q : PortIdentity). In q.clock
          (clocks (snapshot_of w'))) from_is known)
          in
          let settled = stands (since j l f a at among said joins on) i x.station x.here lives near_x in
          let places = (is'.sound.on_time.stations i x.station x.here).steady.shown.places in
          master_leads (snapshot_of w') l.from l.to wf
          (subst (IsMasterPort (snapshot_of w')) (sym from_is)
          (master_at (snapshot_of w') x.station settled places number
          (subst (λ (z : Station). IsMasterAt z number) x.is master)
          (l.to, subst (λ q. Joins (snapshot_of w') q l.to) from_is joins)))
          joins

      -- every step keeps that, where the choice stands from that time on
      pub onward_step : MachineSteps says_announce (view w) (view w') → IsOnwardFrom late w → IsOnwardFrom late w'
      onward_step step onward =
          onward_kept says_announce (snapshot_of w') late (view w) (view w') step masters
          (subst (λ h. FliesOnward says_announce h late (view w)) (sym (same_snapshot w w' keeps)) onward)

-- Once the choice of a world stands what it sends names the best; once what was sent before has arrived all that is in
-- flight does.
use Rattle.std.proofs.Common.{◌≡◌, ◌⊎◌, ◌<◌, ◌≤◌, ◌+◌, ℕ, max, true, List, Some, slice_get, sym, ap, subst, ◌∙◌, inl, inr, arith}
use native.Mathlib.Decide.{dec_le}
use Rattle.gptp_lists.specs.Members.{In}
use Rattle.gptp_lists.proofs.SystemSpecLemmas.{In-parts}
use Rattle.gptp_graph.specs.Best.{IsBest}
use Rattle.gptp_graph.specs.Snapshot.{Joins, PortIdentity, Snapshot, System}
use Rattle.gptp_graph.proofs.BestLemmas.{IsBest-unique}
use Rattle.gptp_setup.specs.SettlingParams.{SettlingParams}
use Rattle.gptp_scenario.specs.Network.{NetworkState, pace_of}
use Rattle.gptp_scenario.specs.SyncWait.{sync_paths}
use Rattle.gptp_scenario.specs.declared.change.Timed.{Timed}
use Rattle.gptp_scenario.specs.declared.sync_wait.SyncPaths.{SyncPaths}
use Rattle.gptp_model.specs.World.{Channel, WorldState}
use Rattle.gptp_system.specs.State.{clock}
use Rattle.gptp_bmca_machine.specs.Acts.{MachineSteps, Pops, StationAnswers}
use Rattle.gptp_bmca_machine.specs.Frame.{Announce, AnnounceFrame, Lane, Spelling}
use Rattle.gptp_bmca_machine.specs.SoundLaws.{AllAreNear}
use Rattle.gptp_bmca_machine.specs.Station.{MachineState, Station}
use Rattle.gptp_bmca_machine.specs.Touch.{StationTouch}
use Rattle.gptp_network.specs.Document.{DocumentState}
use Rattle.gptp_invariants.specs.ChoiceCalm.{delay_in}
use Rattle.gptp_invariants.specs.ChoiceSettled.{ChoiceStands}
use Rattle.gptp_invariants.specs.ChoiceSettlesAsMachine.{IsWorld}
use Rattle.gptp_invariants.specs.ChoiceView.{says_announce, view}
use Rattle.gptp_invariants.specs.WorldStanding.{live_stations, snapshot_of}
use Rattle.gptp_invariants.proofs.ChoiceCalmFactLemmas.{frame_from}
use Rattle.gptp_invariants.proofs.ChoiceCalmKeptLemmas.{KeepsNetwork, same_snapshot}
use Rattle.gptp_invariants.proofs.ChoicePlaceLemmas.{station_from}
use Rattle.gptp_invariants.proofs.DelayLimitLemmas.{in_queue}
use Rattle.gptp_invariants.proofs.WorldGreatestDelayLemmas.{delay_of_used}
use Rattle.gptp_invariants.proofs.WorldStandsLemmas.{stands_well}
use Rattle.gptp_invariants.proofs.WorldWayLemmas.{one_way, way_of}
use Rattle.gptp_theorem.specs.PlayedLaws.{IsPlayable}
use Rattle.gptp_theorem.proofs.SyncPathLemmas.{paths_stand}
use Rattle.gptp_settling_time.specs.Arrivals.{HasArrivedBy, arrived_by}
use Rattle.gptp_settling_time.proofs.DueLemmas.{due_by_interval}
use Rattle.gptp_settling_time.proofs.KeptToLemmas.{KeepsTo}
use Rattle.gptp_settling_time.proofs.SinceSetLemmas.{AreLimitedBy, arrive_limit}

-- ---- of the machine

module _ (says : Spelling) (g : Snapshot) (since : ℕ) where
  -- what is in flight on links and is due so late names the best of its sender
  abbrev pub NamesBest : MachineState → Type 0
  NamesBest w = (j : ℕ) (l : Lane) (f : AnnounceFrame) (a : Announce) (best : System) → slice_get w.lanes j ≡ Some l
      → In f l.frames → says f.octets a → Joins g l.from l.to → IsBest g l.from.clock best → since ≤ f.due
      → a.root ≡ best.identity

  -- so does each live system, where something in flight is due so late
  abbrev pub RootsAreBest : MachineState → Type 0
  RootsAreBest w = (j : ℕ) (l : Lane) (f : AnnounceFrame) (a : Announce) → slice_get w.lanes j ≡ Some l
      → In f l.frames → says f.octets a → Joins g l.from l.to → since ≤ f.due → (i : ℕ) (s : Station) (best : System)
      → slice_get w.stations i ≡ Some s → s.live ≡ true → IsBest g s.clock best → s.root ≡ best.identity

  called : (touch : StationTouch) (w w' : MachineState) → StationAnswers says touch w w' → RootsAreBest w'
      → NamesBest w → NamesBest w'
  called touch w w' call roots names j l' f a best at among said joins is_best late =
      let (l, stood, step) = call.lanes j l' at in
      elim (In-parts f l.frames step.news (subst (In f) step.behind among)) [
        | inl old ↦ names j l f a best stood old said
            (subst (λ p. Joins g p l.to) step.from (subst (Joins g l'.from) step.to joins))
            (subst (λ (p : PortIdentity). IsBest g p.clock best) step.from is_best) late
        | inr new ↦
            let (z, sent, from, octets) = step.sent f new in
            let (own, master) = call.reacts.tells z a sent (subst (λ o. says o a) octets said) in
            let clock = ap (λ (p : PortIdentity). p.clock) (step.from ∙ from) ∙ sym call.reacts.clock in
            own.root ∙ roots j l' f a at among said joins late call.place call.s' best call.there
            (call.reacts.live ∙ call.live) (subst (λ c. IsBest g c best) clock is_best)
      ]

  popped : (j : ℕ) (l : Lane) (f : AnnounceFrame) (fs : List AnnounceFrame) (w w' : MachineState) → Pops j l f fs w w'
      → NamesBest w → NamesBest w'
  popped j l f fs w w' pops names m l' x a best at among said joins is_best late = elim (pops.lanes m l' at) [
    | inl (same, is) ↦ names j l x a best pops.here
        (subst (In x) (sym pops.frames) (inr (subst (λ (y : Lane). In x y.frames) is among))) said
        (subst (λ (y : Lane). Joins g y.from y.to) is joins)
        (subst (λ (y : Lane). IsBest g y.from.clock best) is is_best) late
    | inr (other, stood) ↦ names m l' x a best stood among said joins is_best late
  ]

  pub names_kept : (w w' : MachineState) → MachineSteps says w w' → RootsAreBest w' → NamesBest w → NamesBest w'
  names_kept w w' (inl wait) roots names =
      subst NamesBest (sym wait.is) (λ j l f a best. names j l f a best)
  names_kept w w' (inr (inl act)) roots names =
      called act.touch act.mid w' act.call roots (popped act.j act.l act.f act.fs w act.mid act.pops names)
  names_kept w w' (inr (inr (inl act))) roots names = popped act.j act.l act.f act.fs w w' act.pops names
  names_kept w w' (inr (inr (inr act))) roots names = called act.touch w w' act.call roots names

-- ---- of worlds

-- over a link in use it is due within the greatest delay, or as what was in flight at another time
due_by_link : (p : SettlingParams) (gone : ℕ) (w : WorldState) → IsWorld p w → AreLimitedBy gone w → (j : ℕ) (l : Lane)
    (f : AnnounceFrame) → slice_get (view w).lanes j ≡ Some l → In f l.frames → Joins (snapshot_of w) l.from l.to
    → (f.due ≤ w.time + delay_in w) ⊎ (f.due ≤ gone)
due_by_link p gone w is limited j l f there member joins =
    let at = frame_from w j l f there member in
    let way = way_of w l.from l.to joins in
    let one = one_way w is.sound is.encodable way.link at.link way.direction at.direction way.channel at.channel
    way.here at.here (way.from ∙ ap (λ (z : Lane). z.from) at.lane_is) in
    let short : at.channel.bounds.max ≤ delay_in w =
    subst (λ (c : Channel). c.bounds.max ≤ delay_in w) one.same_channel
    (delay_of_used (live_stations w.stations) w.net.channels way.link way.channel way.here way.used) in
    let soon : at.frame.due ≤ max (w.time + at.channel.bounds.max) gone =
    in_queue (arrive_limit gone w.time) w.time at.direction at.channel (limited at.link at.channel at.here) at.frame
    at.among in
    subst (λ (x : AnnounceFrame). (x.due ≤ w.time + delay_in w) ⊎ (x.due ≤ gone)) (sym at.is)
    (elim (dec_le at.frame.due (w.time + delay_in w)) [
      | yes within ↦ inl within
      | no more ↦ inr (omega (arith, soon, short, more))
    ])

-- what is in flight on links and comes at a time or later was sent from another time on
abbrev pub ComesSince : ℕ → ℕ → WorldState → Type 0
ComesSince time late w = (j : ℕ) (l : Lane) (f : AnnounceFrame) (a : Announce) → slice_get (view w).lanes j ≡ Some l
    → In f l.frames → says_announce f.octets a → Joins (snapshot_of w) l.from l.to → late ≤ f.due → time ≤ w.time

-- so it is once what was sent before has arrived
pub comes_since : (d : DocumentState) (playable : IsPlayable d) (events : List Timed) (w : WorldState)
    → KeepsTo d events w → (time late : ℕ) → HasArrivedBy d.network events time late → ComesSince time late w
comes_since d playable events w keeps time late (inl is) j l f a there member said joins on =
    let due = due_by_interval (pace_of d.network) w keeps.claim.world j l f a there member said in
    omega (arith, due, is, on)
comes_since d playable events w keeps time late (inr (is, (most, within, soon))) j l f a there member said joins on =
    let delay : (sync_paths d.network events).delay ≡ delay_in w =
    ap (λ (x : SyncPaths). x.delay)
    (paths_stand d.network events w playable.network keeps.stands keeps.claim.world.sound) in
    elim (due_by_link (pace_of d.network) (arrived_by most events) w keeps.claim.world (keeps.limited most within) j l f
    there member joins) [
      | inl due ↦ omega (arith, due, is, on, delay)
      | inr due ↦ absurd (omega (arith, due, is, on, soon))
    ]

-- which is no sooner
pub arrives_later : (n : NetworkState) (events : List Timed) (time arrived : ℕ) → HasArrivedBy n events time arrived
    → time ≤ arrived
arrives_later n events time arrived (inl is) = omega (arith, is)
arrives_later n events time arrived (inr (is, within)) = omega (arith, is)

-- what is in flight on links and comes at this time, or later, names the best of its sender
abbrev pub IsNamedFrom : ℕ → WorldState → Type 0
IsNamedFrom late w = NamesBest says_announce (snapshot_of w) late (view w)

module _ (time late : ℕ) where
  -- before the other time nothing comes so late
  pub named_before : (w : WorldState) → ComesSince time late w → w.time < time → IsNamedFrom late w
  named_before w since early j l f a best at among said joins is_best on =
      let sent = since j l f a at among said joins on in
      absurd (omega (arith, sent, early))

  module _ (w w' : WorldState) (p : SettlingParams) (is' : IsWorld p w') (keeps : KeepsNetwork w w')
      (near : AllAreNear (snapshot_of w')) (since : ComesSince time late w')
      (stands : time ≤ w'.time → ChoiceStands w') where
    roots : RootsAreBest says_announce (snapshot_of w') late (view w')
    roots j l f a at among said joins on i s best at_s live is_best =
        let x = station_from w'.stations i s at_s in
        let clock_is = ap (λ (z : Station). z.clock) x.is in
        let best_x = subst (λ c. IsBest (snapshot_of w') c best) clock_is is_best in
        let choice = stands (since j l f a at among said joins on) i x.station x.here
        (sym (ap (λ (z : Station). z.live) x.is) ∙ live) (near (clock x.station.system) best_x.reached.1.begins) in
        let (b, is_b, root) = choice.root in
        let same = IsBest-unique (snapshot_of w') (clock x.station.system) b best
        (stands_well w' is'.sound is'.between is'.encodable) is_b best_x in
        ap (λ (z : Station). z.root) x.is ∙ root ∙ ap (λ (z : System). z.identity) same

    -- every step keeps that, where the choice stands from that time on
    pub named_step : MachineSteps says_announce (view w) (view w') → IsNamedFrom late w → IsNamedFrom late w'
    named_step step named =
        names_kept says_announce (snapshot_of w') late (view w) (view w') step roots
        (subst (λ h. NamesBest says_announce h late (view w)) (sym (same_snapshot w w' keeps)) named)

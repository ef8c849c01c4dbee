-- Once all has settled what is sent names the best, so that in the end all is wholly clean.
use Rattle.std.proofs.Common.{◌≡◌, ◌⊎◌, ◌≤◌, ◌<◌, ◌+◌, ℕ, true, List, sym, ap, subst, ◌∙◌, inl, inr, arith}
use Rattle.gptp_lists.specs.Members.{In}
use Rattle.gptp_lists.proofs.SystemSpecLemmas.{In-parts}
use Rattle.gptp_graph.specs.Snapshot.{System, PortIdentity, Joins}
use Rattle.gptp_graph.specs.Best.{IsBest}
use Rattle.gptp_graph.proofs.LinkLemmas.{Joins-clock}
use Rattle.gptp_graph.proofs.BestLemmas.{IsBest-unique}
use Rattle.gptp_graph.proofs.SystemLemmas.{In-clocks}
use Rattle.gptp_bmca_machine.specs.Frame.{Announce, Spelling, AnnounceFrame, Lane}
use Rattle.gptp_bmca_machine.specs.Station.{MachineState}
use Rattle.gptp_bmca_machine.specs.Touch.{StationTouch}
use Rattle.gptp_bmca_machine.specs.Reacts.{IsOwn}
use Rattle.gptp_bmca_machine.specs.Acts.{StationAnswers, Pops, MachineSteps}
use Rattle.gptp_bmca_machine.specs.Clean.{Whole}
use Rattle.gptp_bmca_machine.specs.Facts.{station_system}
use Rattle.gptp_bmca_machine.specs.Network.{Network, IsSettlingNetwork, since, settled_from}
use Rattle.gptp_bmca_machine.specs.Calm.{Calm}
use Rattle.gptp_bmca_machine.specs.Levels.{Invariant}
use Rattle.gptp_bmca_machine.specs.SoundLaws.{IsSoundFrom, IsSoundOnLinks, AllIsWhole, AllAreNear, FlightNamesBest}
use Rattle.gptp_bmca_machine.proofs.SettledLemmas.{network_settles, network_whole}

module _ (says : Spelling) (n : Network) (net : IsSettlingNetwork n) where
  pub flight_begins : (w : MachineState) → Calm n w → w.time < settled_from n → FlightNamesBest says n w
  flight_begins w calm early j l f a best at flies said joins late is_best =
      absurd (by (calm.facts.fresh j l f at flies joins))
    where
      by : (f.due ≤ w.time + n.most) ⊎ (f.due < n.start) → ⊥
      by (inl soon) = omega arith
      by (inr before) = let begun : n.start ≤ since n 0 = net.begun in omega arith

  module _ (near : AllAreNear n.graph) where
    -- one system answers
    called : (touch : StationTouch) (w w' : MachineState) → StationAnswers says touch w w' → Calm n w'
        → Invariant says n w'
        → FlightNamesBest says n w → FlightNamesBest says n w'
    called touch w w' call calm' invariant' flight j l' f a best at flies said joins late is_best =
        let (l, stood, step) = call.lanes j l' at in
        elim (In-parts f l.frames step.news (subst (In f) step.behind flies)) [
          | inl old ↦ flight j l f a best stood old said
              (subst (λ p. Joins n.graph p l.to) step.from (subst (Joins n.graph l'.from) step.to joins)) late
              (subst (λ (p : PortIdentity). IsBest n.graph p.clock best) step.from is_best)
          | inr new ↦
              let (x, x_in, from, octets) = step.sent f new in
              let own : IsOwn call.s' x.port a =
              (call.reacts.tells x a x_in (subst (λ (o : List ℕ). says o a) octets said)).0 in
              let clock : l'.from.clock ≡ call.s'.clock =
              ap (λ (p : PortIdentity). p.clock) (step.from ∙ from) ∙ sym call.reacts.clock in
              let live' : call.s'.live ≡ true = call.reacts.live ∙ call.live in
              let known = (calm'.facts.stations call.place call.s' call.there live').known in
              let (has, follows, roles) = network_settles says n w' call.place call.s' net calm' invariant' call.there
              live'
              (near call.s'.clock (In-clocks n.graph (station_system call.s') known))
              (now (calm'.facts.fresh j l' f at flies joins)) in
              let (b, is_b, root) = has.root in
              let same : b ≡ best =
              IsBest-unique n.graph call.s'.clock b best net.graph is_b
              (subst (λ c. IsBest n.graph c best) clock is_best) in
              own.root ∙ root ∙ ap (λ (s : System). s.identity) same
        ]
      where
        now : (f.due ≤ w'.time + n.most) ⊎ (f.due < n.start) → settled_from n ≤ w'.time
        now (inl soon) = omega arith
        now (inr before) = let begun : n.start ≤ since n 0 = net.begun in absurd (omega arith)

    -- a frame is taken off its lane
    popped : (j : ℕ) (l : Lane) (f : AnnounceFrame) (fs : List AnnounceFrame) (w w' : MachineState) → Pops j l f fs w w'
        → FlightNamesBest says n w → FlightNamesBest says n w'
    popped j l f fs w w' pops flight m l' x a best at flies said joins late is_best = elim (pops.lanes m l' at) [
      | inl (same, is) ↦ flight j l x a best pops.here
          (subst (In x) (sym pops.frames) (inr (subst (λ (y : Lane). In x y.frames) is flies))) said
          (subst (λ (y : Lane). Joins n.graph y.from y.to) is joins) late
          (subst (λ (y : Lane). IsBest n.graph y.from.clock best) is is_best)
      | inr (other, stood) ↦ flight m l' x a best stood flies said joins late is_best
    ]

    pub flight_kept : (w w' : MachineState) → Calm n w' → Invariant says n w' → MachineSteps says w w'
        → FlightNamesBest says n w
        → FlightNamesBest says n w'
    flight_kept w w' calm' invariant' (inl wait) flight =
        subst (FlightNamesBest says n) (sym wait.is) (λ j l f a best. flight j l f a best)
    flight_kept w w' calm' invariant' (inr (inl act)) flight =
        called act.touch act.mid w' act.call calm' invariant'
        (popped act.j act.l act.f act.fs w act.mid act.pops flight)
    flight_kept w w' calm' invariant' (inr (inr (inl act))) flight =
        popped act.j act.l act.f act.fs w w' act.pops flight
    flight_kept w w' calm' invariant' (inr (inr (inr act))) flight =
        called act.touch w w' act.call calm' invariant' flight

    -- a delay after all has settled all is wholly clean
    pub settled_is_whole : (w : MachineState) → Calm n w → Invariant says n w → IsSoundOnLinks says n.graph w
        → FlightNamesBest says n w → settled_from n + n.most ≤ w.time → n.off ≤ w.time
        → AllIsWhole says n.graph (Joins n.graph) w
    settled_is_whole w calm invariant all flight late off = record {
      lanes = λ j l f a at flies said joins.
          let left : w.time ≤ f.due = calm.left j l f at flies in
          let is = all.lanes j l f a at flies said joins in
          let (d, here, close) = near l.from.clock (Joins-clock n.graph l.from l.to net.graph joins) in
          record {
            source = is.source;
            whole = whole is here.best here.is_best
                (flight j l f a here.best at flies said joins (omega arith) here.is_best);
          };
      stations = λ i s place r at live holds.
          let known = (calm.facts.stations i s at live).known in
          network_whole says n w i s net calm invariant at live
          (near s.clock (In-clocks n.graph (station_system s) known)) (omega arith) off place r
          (all.stations i s place r at live holds) holds;
    }
      where
        whole : {from : PortIdentity} {a : Announce} → IsSoundFrom n.graph from a → (best : System)
            → IsBest n.graph from.clock best → a.root ≡ best.identity → Whole n.graph from.clock a
        whole {from} {a} is best is_best root = elim is.sound [
          | inl worse ↦ absurd (let above : best.identity < a.root = worse best is_best in omega arith)
          | inr is_whole ↦ is_whole
        ]

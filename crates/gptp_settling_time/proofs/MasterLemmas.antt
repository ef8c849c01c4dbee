-- What enters a lane and says an Announce comes from a port that is capable.
use Rattle.std.proofs.Common.{◌≡◌, ◌⊎◌, ℕ, ℤ, suc, Bool, true, false, List, Some, slice_get, refl, sym, ap, subst, ◌∙◌, inl, inr}
use Rattle.gptp_lists.specs.Members.{In}
use Rattle.gptp_lists.proofs.SystemSpecLemmas.{In-parts}
use Rattle.gptp_graph.specs.Snapshot.{port_of}
use Rattle.gptp_pdelay.specs.Peer.{is_capable}
use Rattle.gptp_receipt.specs.declared.held.Held.{Held}
use Rattle.gptp_receipt.specs.declared.held.Held.TheVariants as helds
use Rattle.gptp_system.specs.declared.port.Port.{Port}
use Rattle.gptp_system.specs.Facts.{AreShown, IsShown}
use Rattle.gptp_system.specs.State.{clock}
use Rattle.gptp_model.specs.declared.station.Station.{Station}
use Rattle.gptp_model.specs.World.{WorldState}
use Rattle.gptp_bmca_machine.specs.Acts.{Pops, StationActs, StationAnswers}
use Rattle.gptp_bmca_machine.specs.Frame.{Announce, AnnounceFrame, Lane, Spelling}
use Rattle.gptp_bmca_machine.specs.Reacts.{IsMasterAt}
use Rattle.gptp_bmca_machine.specs.Station.{Disabled, MachineState, Mine, Port as SeenPort, Station as SeenStation}
use Rattle.gptp_bmca_machine.specs.Touch.{StationTouch}
use Rattle.gptp_invariants.specs.ChoiceView.{held_view, span_at, view}
use Rattle.gptp_invariants.proofs.ChoicePlaceLemmas.{port_from, station_from}

-- ---- the machine

-- a lane begins at a master port of a live system
pub record BeginsAtMaster (w : MachineState) (l : Lane) : Type 0 where
  pub place : ℕ
  pub s : SeenStation
  pub here : slice_get w.stations place ≡ Some s
  pub live : s.live ≡ true
  pub port : ℕ
  pub from : l.from ≡ port_of s.clock port
  pub master : IsMasterAt s port

-- the frame was on the lane at that place
pub record WasOnLane (w : MachineState) (j : ℕ) (f : AnnounceFrame) : Type 0 where
  pub lane : Lane
  pub there : slice_get w.lanes j ≡ Some lane
  pub among : In f lane.frames

module _ (says : Spelling) (j : ℕ) (f : AnnounceFrame) (a : Announce) (said : says f.octets a) where
  pub answered : (touch : StationTouch) (w w' : MachineState) → StationAnswers says touch w w' → (l' : Lane)
      → slice_get w'.lanes j ≡ Some l' → In f l'.frames
      → WasOnLane w j f ⊎ BeginsAtMaster w' l'
  answered touch w w' call l' at member =
      let (l, stood, step) = call.lanes j l' at in
      elim (In-parts f l.frames step.news (subst (In f) step.behind member)) [
        | inl old ↦ inl (record { lane = l; there = stood; among = old })
        | inr new ↦
            let (x, x_in, from, octets) = step.sent f new in
            let told = call.reacts.tells x a x_in (subst (λ (o : List ℕ). says o a) octets said) in
            inr (record {
              place = call.place;
              s = call.s';
              here = call.there;
              live = call.reacts.live ∙ call.live;
              port = x.port;
              from = step.from ∙ from ∙ (λ i. port_of (sym call.reacts.clock i) x.port);
              master = told.1;
            })
      ]

  -- what is on a lane once a frame is taken off some lane was there before
  popped : (n : ℕ) (l : Lane) (g : AnnounceFrame) (fs : List AnnounceFrame) (w w' : MachineState)
      → Pops n l g fs w w' → WasOnLane w' j f → WasOnLane w j f
  popped n l g fs w w' pops was = elim (pops.lanes j was.lane was.there) [
    | inl (same, is) ↦ record {
      lane = l;
      there = ap (slice_get w.lanes) same ∙ pops.here;
      among = subst (In f) (sym pops.frames) (inr (subst (λ (m : Lane). In f m.frames) is was.among));
    }
    | inr (other, stood) ↦ record { lane = was.lane; there = stood; among = was.among }
  ]

  pub acted : (w w' : MachineState) → StationActs says w w' → (l' : Lane) → slice_get w'.lanes j ≡ Some l'
      → In f l'.frames → WasOnLane w j f ⊎ BeginsAtMaster w' l'
  acted w w' (inl act) l' at member = elim (answered act.touch act.mid w' act.call l' at member) [
    | inl old ↦ inl (popped act.j act.l act.f act.fs w act.mid act.pops old)
    | inr master ↦ inr master
  ]
  acted w w' (inr (inl act)) l' at member =
      inl (popped act.j act.l act.f act.fs w w' act.pops (record { lane = l'; there = at; among = member }))
  acted w w' (inr (inr act)) l' at member = answered act.touch w w' act.call l' at member

-- ---- worlds

-- a master port of the view of a world is capable
pub record IsCapablePort (w : WorldState) (place number port : ℕ) : Type 0 where
  pub station : Station
  pub here : slice_get w.stations place ≡ Some station
  pub named : clock station.system ≡ number
  pub at : ℕ
  pub port_is : port ≡ suc at
  pub state : Port
  pub there : slice_get station.system.ports at ≡ Some state
  pub capable : is_capable state.peer ≡ true

-- what is seen as disabled is no master port
not_mine : (keep : ℤ → ℕ) (h : Held) (root steps : ℕ) → held_view keep h ≡ Mine root steps → h ≡ helds.Disabled → ⊥
not_mine keep h root steps mine off =
    let same : Disabled ≡ Mine root steps = sym (ap (held_view keep) off) ∙ mine in cc

pub on_capable : (q : Port) (h : Held) (capable : Bool) → is_capable q.peer ≡ capable → IsShown h q
    → (h ≡ helds.Disabled → ⊥)
    → is_capable q.peer ≡ true
on_capable q h true is shown on = is
on_capable q h false is shown on = absurd (on (shown.off is))

pub master_capable : (w : WorldState)
    → ((place : ℕ) (station : Station) → slice_get w.stations place ≡ Some station → AreShown station.system)
    → (l : Lane) → (m : BeginsAtMaster (view w) l) → IsCapablePort w m.place m.s.clock m.port
master_capable w shown l m =
    let at = station_from w.stations m.place m.s m.here in
    let (i, q, port_is, stands, mine) = m.master in
    let s = at.station.system in
    let p = port_from (span_at s) s.held s.ports i q
    (subst (λ (x : SeenStation). slice_get x.ports i ≡ Some q) at.is stands) in
    let held : held_view (span_at s) p.held ≡ Mine m.s.root m.s.steps =
    ap (λ (x : SeenPort). x.held) (sym p.is) ∙ mine in
    record {
      station = at.station;
      here = at.here;
      named = ap (λ (x : SeenStation). x.clock) (sym at.is);
      at = i;
      port_is = port_is;
      state = p.port;
      there = p.port_there;
      capable = on_capable p.port p.held (is_capable p.port.peer) refl
          ((shown m.place at.station at.here).each i p.held p.port p.held_there p.port_there)
          (not_mine (span_at s) p.held m.s.root m.s.steps held);
    }

-- A neighbour of the system that is moved has turned away from it: its port is Master, and the link between them is at
-- one of its stages. Every step keeps that.
use Rattle.std.proofs.Common.{◌≡◌, ◌≢◌, ◌⊎◌, ◌<◌, ◌≤◌, ◌+◌, ℕ, suc, true, List, Some, slice_get, refl, sym, ap, subst, ◌∙◌, inl, inr, arith}
use Rattle.gptp_lists.specs.Members.{In}
use Rattle.gptp_lists.proofs.SystemSpecLemmas.{In-parts}
use Rattle.gptp_graph.specs.Order.{IsLower}
use Rattle.gptp_graph.specs.Snapshot.{Joins, PortIdentity, Snapshot, System, port_of}
use Rattle.gptp_graph.proofs.LinkLemmas.{Joins-sym}
use Rattle.gptp_graph.proofs.OrderLemmas.{IsLower-irrefl, IsLower-trans}
use Rattle.gptp_bmca_machine.specs.Acts.{Arrives, LaneStep, MachineSteps, Pops, StationAnswers}
use Rattle.gptp_bmca_machine.specs.Calm.{HasLane, IsCalmPort}
use Rattle.gptp_bmca_machine.specs.Frame.{Announce, AnnounceFrame, Lane, Spelling}
use Rattle.gptp_bmca_machine.specs.Link.{Ends, IsLaneOf, LaneIsOnTime, LinkSettles}
use Rattle.gptp_bmca_machine.specs.Network.{Network}
use Rattle.gptp_bmca_machine.specs.Reacts.{KeepsHeld, PortStep}
use Rattle.gptp_bmca_machine.specs.Station.{Aged, Disabled, Held, MachineState, Mine, Port, Received, Reception, Station}
use Rattle.gptp_bmca_machine.specs.Touch.{Hear, Replaces, StationTouch}
use Rattle.gptp_bmca_machine.specs.Vectors.{master, message}
use Rattle.gptp_bmca_machine.proofs.LinkLemmas.{link_kept}
use Rattle.gptp_bmca_machine.proofs.PlaceLemmas.{same_there}
use Rattle.gptp_settling_time.proofs.BesideLemmas.{IsFresh, IsMoving, above, neighbour_at, chooses_y, fresh_worse, here_x, here_y, hears_new, late, on_x, on_y, tells_new, towards}
use Rattle.gptp_bmca_machine.proofs.StillLemmas.{stands}
use Rattle.gptp_settling_time.proofs.TurnLemmas.{IsBeside, TurnsOne}
use Rattle.gptp_settling_time.proofs.TouchedLemmas.{mid_heard}
use Rattle.gptp_graph.proofs.LinkLemmas as graph_links

-- each Announce of the frames is fresh
abbrev pub AllFresh : Spelling → PortIdentity → ℕ → System → List AnnounceFrame → Type 0
AllFresh says from e best fs = (f : AnnounceFrame) (a : Announce) → In f fs → says f.octets a → IsFresh from e best a

module _ (says : Spelling) (g : Snapshot) (n : Network) (x d e : ℕ) (best : System) (t : TurnsOne g n x d e best)
    (p y q : ℕ) (joins : Joins n.graph (port_of x (suc p)) (port_of y (suc q))) where
  abbrev neighbour : IsBeside g n x d e best y
  neighbour = neighbour_at says g n x d e best t p y q joins

  pub joins_back : Joins n.graph (port_of y (suc q)) (port_of x (suc p))
  joins_back = Joins-sym n.graph (port_of x (suc p)) (port_of y (suc q)) joins

  -- ---- a lane

  -- what the system sends is fresh
  pub news_fresh : (touch : StationTouch) (mid w' : MachineState) (call : StationAnswers says touch mid w')
      → IsMoving says g n x e best w' → (l l' : Lane) → l.from ≡ port_of x (suc p)
      → (step : LaneStep call.s.clock call.sends l l') → AllFresh says (port_of x (suc p)) e best step.news
  news_fresh touch mid w' call m' l l' from step f a new said =
      let (z, sent, lane_from, octets) = step.sent f new in
      let (own, master_at) = call.reacts.tells z a sent (subst (λ o. says o a) octets said) in
      let end : port_of x (suc p) ≡ port_of call.s.clock z.port = sym from ∙ lane_from in
      let named : call.s'.clock ≡ x = call.reacts.clock ∙ ap (λ (k : PortIdentity). k.clock) (sym end) in
      let live : call.s'.live ≡ true = call.reacts.live ∙ call.live in
      let over = above says g n x d e best t w' m' call.place call.s' call.there live named in
      let root = own.root in
      let steps = own.steps in
      record {
        source = own.source ∙ (λ i. port_of (call.reacts.clock i) z.port) ∙ sym end;
        above = omega (arith, over, root);
        late = λ same.
            let many = late says g n x d e best t w' m' call.place call.s' call.there live named (sym root ∙ same) in
            omega (arith, many, steps);
      }

  -- ---- what the neighbour's port comes to in an answer

  pub record PortThen (touch : StationTouch) (mid w w' : MachineState) (call : StationAnswers says touch mid w')
      (pu' : Port) : Type 0 where
    pub s : Station
    pub pu : Port
    pub at : slice_get w.stations (n.place y) ≡ Some s
    pub there : slice_get s.ports q ≡ Some pu
    pub so : ((n.place y ≢ call.place) × (pu' ≡ pu))
        ⊎ ((n.place y ≡ call.place)
        × PortStep says y (suc q) mid.time touch call.s'.root call.s'.steps pu pu' call.sends)

  pub port_then : (touch : StationTouch) (mid w w' : MachineState) (call : StationAnswers says touch mid w')
      → IsMoving says g n x e best w → ((i : ℕ) (s : Station) → slice_get mid.stations i ≡ Some s
      → slice_get w.stations i ≡ Some s) → (s' : Station) (pu' : Port) → slice_get w'.stations (n.place y) ≡ Some s'
      → slice_get s'.ports q ≡ Some pu' → PortThen touch mid w w' call pu'
  port_then touch mid w w' call m stood s' pu' at there = elim (call.stations (n.place y) s' at) [
    | inl (same, is) ↦ answers same
        (call.reacts.ports q pu' (subst (λ (s : Station). slice_get s.ports q ≡ Some pu') is there))
    | inr (other, before) ↦ record {
      s = s';
      pu = pu';
      at = stood (n.place y) s' before;
      there = there;
      so = inl (other, refl);
    }
  ]
    where
      answers : n.place y ≡ call.place
          → ((pu : Port) × (slice_get call.s.ports q ≡ Some pu)
          × PortStep says call.s.clock (suc q) mid.time touch call.s'.root call.s'.steps pu pu' call.sends)
          → PortThen touch mid w w' call pu'
      answers same (pu, port, answer) =
          let before : slice_get w.stations (n.place y) ≡ Some call.s =
          stood (n.place y) call.s (subst (λ i. slice_get mid.stations i ≡ Some call.s) (sym same) call.here) in
          let (live, clock) = here_y says g n x d e best t p y q joins w m call.s before in
          record {
            s = call.s;
            pu = pu;
            at = before;
            there = port;
            so = inr (
              same,
              subst
                  (λ c. PortStep says c (suc q) mid.time touch call.s'.root call.s'.steps pu pu' call.sends)
                  clock answer,
            );
          }

  -- what it hears came over the lane from the system
  pub record HeardOver (w w' : MachineState) (act : Arrives says w w') (a : Announce) : Type 0 where
    pub lane : n.lane (port_of x (suc p)) ≡ act.j
    pub said : says act.f.octets a

  pub heard_over : (w w' : MachineState) (act : Arrives says w w') → IsMoving says g n x e best w → (a : Announce)
      → act.touch ≡ Hear (suc q) a → n.place y ≡ act.call.place → HeardOver w w' act a
  heard_over w w' act m a touched place =
      let here = act.pops.stations (n.place y) act.call.s
      (subst (λ i. slice_get act.mid.stations i ≡ Some act.call.s) (sym place) act.call.here) in
      let (live, clock) = here_y says g n x d e best t p y q joins w m act.call.s here in
      let (number, said) = act.heard (suc q) a touched in
      let to : act.l.to ≡ port_of y (suc q) = λ i. port_of ((sym act.owner ∙ clock) i) (sym number i) in
      let has = m.kept.calm.lanes (port_of x (suc p)) (port_of y (suc q)) joins in
      record {
        lane = m.kept.calm.apart (n.lane (port_of x (suc p))) act.j has.lane act.l has.there act.pops.here
            (has.to ∙ sym to);
        said = said;
      }

  -- ---- the link back

  module _ (before : ℕ) (in_time : n.most ≤ before) (w : MachineState) (m : IsMoving says g n x e best w)
      (mine : (s : Station) (pu : Port) → slice_get w.stations (n.place y) ≡ Some s → slice_get s.ports q ≡ Some pu
      → (root : ℕ) × (steps : ℕ) × (pu.held ≡ Mine root steps)) where
    has_lane : HasLane n w (port_of y (suc q)) (port_of x (suc p))
    has_lane = m.kept.calm.lanes (port_of y (suc q)) (port_of x (suc p)) joins_back

    lane_is : (l : Lane) → slice_get w.lanes (n.lane (port_of y (suc q))) ≡ Some l
        → IsLaneOf (towards n before neighbour.far best y q x p) l
    lane_is l at =
        subst (IsLaneOf (towards n before neighbour.far best y q x p))
        (same_there w.lanes (n.lane (port_of y (suc q))) has_lane.lane l has_lane.there at)
        (record { from = has_lane.from; to = has_lane.to; loss = has_lane.loss; is_up = has_lane.is_up })

    on_time : (l : Lane) (f : AnnounceFrame) → slice_get w.lanes (n.lane (port_of y (suc q))) ≡ Some l
        → In f l.frames → LaneIsOnTime (towards n before neighbour.far best y q x p) w.time f
    on_time l f at h = record {
      left = m.kept.calm.left (n.lane (port_of y (suc q))) l f at h;
      due = λ since. within (m.kept.calm.facts.fresh (n.lane (port_of y (suc q))) l f at h
          (subst (λ k. Joins n.graph k l.to) (sym (lane_is l at).from)
          (subst (Joins n.graph (port_of y (suc q))) (sym (lane_is l at).to) joins_back)));
    }
      where
        within : (f.due ≤ w.time + n.most) ⊎ (f.due < n.start) → f.due ≤ w.time + n.most
        within (inl soon) = soon
        within (inr early) = let begun = m.kept.begun in omega (arith, early, begun)

    pub ends_new : Ends (towards n before neighbour.far best y q x p) w
    ends_new = record {
      in_time = omega (arith, in_time);
      claimed = omega arith;
      entry = inl refl;
      apart = neighbour.apart;
      teller_stands = stands g n t.well t.left w m.kept m.fits.stations y neighbour.known;
      hearer_stands = stands g n t.well t.left w m.kept m.fits.stations x
          (graph_links.Joins-clock n.graph (port_of x (suc p)) (port_of y (suc q)) t.well joins);
      hearer_lives = λ s at. (here_x says g n x d e best t p y q joins w m s at).0;
      lane = lane_is;
      only_lane = λ j l at to. m.kept.calm.apart j (n.lane (port_of y (suc q))) l has_lane.lane at has_lane.there
          (to ∙ sym has_lane.to);
      frames = on_time;
      teller = λ s pu at port.
          let (live, clock) = here_y says g n x d e best t p y q joins w m s at in
          let is_port : IsCalmPort n w.time (port_of y (suc q)) pu =
          subst (λ c. IsCalmPort n w.time (port_of c (suc q)) pu) clock
          ((m.kept.calm.stations (n.place y) s at live).ports q pu port) in
          record {
            log = is_port.log;
            interval = is_port.interval;
            timer = is_port.timer;
            own = λ root steps is.
                (m.kept.calm.stations (n.place y) s at live).at_rest.mine q pu root steps port is;
            settled = λ since ready.
                let (root, steps, is) = mine s pu at port in
                tells_new says g n x d e best t p y q joins w m s at pu port root steps is before;
            early = λ not.
                let chosen = chooses_y says g n x d e best t p y q joins w m s at in
                absurd (not ((chosen.root, chosen.steps), on_y says g n x d e best t p y q joins w m s pu at port));
          };
      hearer = λ s pv at port since. hears_new says g n x d e best t p y q joins w m before s pv at port;
    }

  -- ---- it has turned away

  -- the neighbour's port is Master, the system sends what is fresh, and the link back is at its stage
  pub record HasTurned (before : ℕ) (w : MachineState) : Type 0 where
    pub mine : (s : Station) (pu : Port) → slice_get w.stations (n.place y) ≡ Some s → slice_get s.ports q ≡ Some pu
        → (root : ℕ) × (steps : ℕ) × (pu.held ≡ Mine root steps)
    pub fresh : (l : Lane) → slice_get w.lanes (n.lane (port_of x (suc p))) ≡ Some l
        → AllFresh says (port_of x (suc p)) e best l.frames
    pub link : LinkSettles says (towards n before neighbour.far best y q x p) w

  module _ (before : ℕ) (in_time : n.most ≤ before) (w w' : MachineState) (m : IsMoving says g n x e best w)
      (m' : IsMoving says g n x e best w') where
    lane_from : (l : Lane) → slice_get w.lanes (n.lane (port_of x (suc p))) ≡ Some l → l.from ≡ port_of x (suc p)
    lane_from l at =
        let has = m.kept.calm.lanes (port_of x (suc p)) (port_of y (suc q)) joins in
        ap (λ (k : Lane). k.from)
        (same_there w.lanes (n.lane (port_of x (suc p))) l has.lane at has.there) ∙ has.from

    -- a port that was Master stays so, where what it hears is fresh
    stays_mine : (touch : StationTouch) (mid : MachineState) (call : StationAnswers says touch mid w')
        → ((i : ℕ) (s : Station) → slice_get mid.stations i ≡ Some s → slice_get w.stations i ≡ Some s)
        → ((a : Announce) → touch ≡ Hear (suc q) a → n.place y ≡ call.place
        → IsFresh (port_of x (suc p)) e best a) → HasTurned before w → (s' : Station) (pu' : Port)
        → slice_get w'.stations (n.place y) ≡ Some s' → slice_get s'.ports q ≡ Some pu'
        → (root : ℕ) × (steps : ℕ) × (pu'.held ≡ Mine root steps)
    stays_mine touch mid call stood heard is s' pu' at there =
        by (port_then touch mid w w' call m stood s' pu' at there)
      where
        on' : pu'.held ≢ Disabled
        on' = on_y says g n x d e best t p y q joins w' m' s' pu' at there

        by : PortThen touch mid w w' call pu' → (root : ℕ) × (steps : ℕ) × (pu'.held ≡ Mine root steps)
        by then = elim then.so [
          | inl (other, same) ↦
              let (root, steps, was) = is.mine then.s then.pu then.at then.there in
              (root, steps, ap (λ (z : Port). z.held) same ∙ was)
          | inr (place, answer) ↦ answered place answer (is.mine then.s then.pu then.at then.there)
        ]
          where
            answered : n.place y ≡ call.place
                → PortStep says y (suc q) mid.time touch call.s'.root call.s'.steps then.pu pu' call.sends
                → ((root : ℕ) × (steps : ℕ) × (then.pu.held ≡ Mine root steps))
                → (root : ℕ) × (steps : ℕ) × (pu'.held ≡ Mine root steps)
            answered place answer (root, steps, was) = elim answer.after [
              | inr becomes ↦ (call.s'.root, call.s'.steps, becomes.mine)
              | inl (kept, keeps) ↦ absurd (none answer.mid refl keeps)
            ]
              where
                received : (r : Reception) → answer.mid ≡ Received r → ⊥
                received r mid_is = elim (mid_heard y (suc q) mid.time touch then.pu.held answer.mid r answer.before
                    mid_is) [
                      | inl held ↦ absurd (let both : Mine root steps ≡ Received r = sym was ∙ held in cc)
                      | inr (touched, usable, replaces) ↦
                          let a : Announce = r.said in
                          let (live, clock) = here_y says g n x d e best t p y q joins w m then.s then.at in
                          let rest = (m.kept.calm.stations (n.place y) then.s then.at live).at_rest in
                          let (own_root, own_steps) = rest.mine q then.pu root steps then.there was in
                          let lower : IsLower (message a (suc q)) (master root steps y (suc q)) =
                          subst (Replaces y (suc q) a) was replaces in
                          let worse = fresh_worse says g n x d e best t p y q joins w m then.s then.at a
                          (heard a touched place) root steps own_root own_steps in
                          IsLower-irrefl (message a (suc q))
                          (IsLower-trans (message a (suc q)) (master root steps y (suc q)) (message a (suc q)) lower
                          worse)
                    ]

                none : (held : Held) → answer.mid ≡ held → KeepsHeld answer.mid → ⊥
                none Disabled mid_is keeps = elim answer.after [
                  | inl (kept, also) ↦ on' (kept ∙ mid_is)
                  | inr becomes ↦ becomes.on mid_is
                ]
                none Aged mid_is keeps = subst KeepsHeld mid_is keeps
                none (Mine r s) mid_is keeps = subst KeepsHeld mid_is keeps
                none (Received r) mid_is keeps = received r mid_is

    -- so does what is fresh
    fresh_answered : (touch : StationTouch) (mid : MachineState) (call : StationAnswers says touch mid w')
        → ((l : Lane) → slice_get mid.lanes (n.lane (port_of x (suc p))) ≡ Some l
        → (l.from ≡ port_of x (suc p)) × AllFresh says (port_of x (suc p)) e best l.frames) → (l : Lane)
        → slice_get w'.lanes (n.lane (port_of x (suc p))) ≡ Some l
        → AllFresh says (port_of x (suc p)) e best l.frames
    fresh_answered touch mid call was l' at f a flies said =
        let (l, stood, step) = call.lanes (n.lane (port_of x (suc p))) l' at in
        let (from, fresh) = was l stood in
        elim (In-parts f l.frames step.news (subst (In f) step.behind flies)) [
          | inl old ↦ fresh f a old said
          | inr new ↦ news_fresh touch mid w' call m' l l' from step f a new said
        ]

    fresh_popped : (j : ℕ) (l : Lane) (f : AnnounceFrame) (fs : List AnnounceFrame) (mid : MachineState)
        → Pops j l f fs w mid → HasTurned before w → (k : Lane)
        → slice_get mid.lanes (n.lane (port_of x (suc p))) ≡ Some k
        → (k.from ≡ port_of x (suc p)) × AllFresh says (port_of x (suc p)) e best k.frames
    fresh_popped j l f fs mid pops is k at = elim (pops.lanes (n.lane (port_of x (suc p))) k at) [
      | inl (same, one) ↦
          let stood = subst (λ i. slice_get w.lanes i ≡ Some l) (sym same) pops.here in (
            ap (λ (y : Lane). y.from) one ∙ lane_from l stood,
            (λ h a flies said.
                is.fresh l stood h a
                (subst (In h) (sym pops.frames) (inr (subst (λ (y : Lane). In h y.frames) one flies))) said),
          )
      | inr (other, stood) ↦ (lane_from k stood, is.fresh k stood)
    ]

    link_then : MachineSteps says w w' → HasTurned before w
        → ((s : Station) (pu : Port) → slice_get w'.stations (n.place y) ≡ Some s → slice_get s.ports q ≡ Some pu
        → (root : ℕ) × (steps : ℕ) × (pu.held ≡ Mine root steps))
        → LinkSettles says (towards n before neighbour.far best y q x p) w'
    link_then step is mine' =
        link_kept says (towards n before neighbour.far best y q x p) w w' (ends_new before in_time w m is.mine)
        (ends_new before in_time w' m' mine') (λ s due at since slave lapse. m.kept.lapses (n.place x) due s at lapse)
        (λ l f fs a s pv since at_lane frames due said at port.
        on_x says g n x d e best t p y q joins w m s pv at port)
        (λ s s' pv pv' since at port at' port' on. on_x says g n x d e best t p y q joins w' m' s' pv' at' port')
        step is.link

    pub turned_kept : MachineSteps says w w' → HasTurned before w → HasTurned before w'
    turned_kept step is = by step
      where
        made : ((s : Station) (pu : Port) → slice_get w'.stations (n.place y) ≡ Some s
            → slice_get s.ports q ≡ Some pu → (root : ℕ) × (steps : ℕ) × (pu.held ≡ Mine root steps))
            → ((l : Lane) → slice_get w'.lanes (n.lane (port_of x (suc p))) ≡ Some l
            → AllFresh says (port_of x (suc p)) e best l.frames) → HasTurned before w'
        made mine' fresh' = record { mine = mine'; fresh = fresh'; link = link_then step is mine' }

        by : MachineSteps says w w' → HasTurned before w'
        by (inl wait) =
            made
            (λ s pu at.
            is.mine s pu (subst (λ (z : MachineState). slice_get z.stations (n.place y) ≡ Some s) wait.is at))
            (λ l at.
            is.fresh l
            (subst (λ (z : MachineState). slice_get z.lanes (n.lane (port_of x (suc p))) ≡ Some l) wait.is at))
        by (inr (inl act)) =
            made
            (stays_mine act.touch act.mid act.call act.pops.stations (λ a touched place.
            let over = heard_over w w' act m a touched place in
            is.fresh act.l (subst (λ i. slice_get w.lanes i ≡ Some act.l) (sym over.lane) act.pops.here) act.f a
            (subst (In act.f) (sym act.pops.frames) (inl refl)) over.said) is)
            (fresh_answered act.touch act.mid act.call
            (fresh_popped act.j act.l act.f act.fs act.mid act.pops is))
        by (inr (inr (inl act))) =
            made (λ s pu at. is.mine s pu (act.pops.stations (n.place y) s at))
            (λ l at. (fresh_popped act.j act.l act.f act.fs w' act.pops is l at).1)
        by (inr (inr (inr act))) =
            made
            (stays_mine act.touch w act.call (λ i s at. at) (λ a touched place. absurd (act.deaf (suc q) a touched)) is)
            (fresh_answered act.touch w act.call (λ l at. (lane_from l at, is.fresh l at)))

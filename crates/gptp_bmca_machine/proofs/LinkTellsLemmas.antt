-- The ends of a link of which claims are made at all times, where what its port holds came over it: what both show
-- keeps the link at its stages.
use Rattle.std.proofs.Common.{◌≡◌, ◌<◌, ◌≤◌, ◌+◌, ℕ, suc, true, List, Some, length, slice_get, sym, ap, subst, ◌∙◌, inl, arith}
use Rattle.gptp_lists.specs.Members.{In}
use Rattle.gptp_graph.specs.Order.{IsLower}
use Rattle.gptp_graph.specs.Snapshot.{IsWellFormed, Joins, PortIdentity, System, clocks, port_of}
use Rattle.gptp_graph.proofs.LinkLemmas.{Joins-clock, Joins-sym}
use Rattle.gptp_bmca_machine.specs.Acts.{LaneStep, MachineSteps}
use Rattle.gptp_bmca_machine.specs.Calm.{IsCalmPort}
use Rattle.gptp_bmca_machine.specs.Frame.{Announce, Lane, Send, Spelling}
use Rattle.gptp_bmca_machine.specs.Link.{Ends, LinkSettles, StandsAt, TellerIsReady, TellerIsSettled, final_vector}
use Rattle.gptp_bmca_machine.specs.LinkStage.{AllFinal, IsFinal}
use Rattle.gptp_bmca_machine.specs.LossLaws.{IsAfterLoss}
use Rattle.gptp_bmca_machine.specs.Network.{Network}
use Rattle.gptp_bmca_machine.specs.Reacts.{IsMasterAt, IsOwn}
use Rattle.gptp_bmca_machine.specs.Station.{MachineState, Mine, Port, Received, Reception, Station}
use Rattle.gptp_bmca_machine.specs.Vectors.{master}
use Rattle.gptp_bmca_machine.proofs.LinkEndsLemmas.{telling}
use Rattle.gptp_bmca_machine.proofs.LinkLemmas.{link_kept}
use Rattle.gptp_bmca_machine.proofs.LinkStepLemmas.{AtLink, lives_at}
use Rattle.gptp_bmca_machine.proofs.StandsLemmas.{due_by, lane_is, port_on}

module _ (says : Spelling) (n : Network) (wf : IsWellFormed n.graph) (before d : ℕ) (best : System) (v p u q : ℕ)
    (joins : Joins n.graph (port_of v (suc p)) (port_of u (suc q))) (in_time : n.most ≤ before) where
  back : Joins n.graph (port_of u (suc q)) (port_of v (suc p))
  back = Joins-sym n.graph (port_of v (suc p)) (port_of u (suc q)) joins

  known_v : In v (clocks n.graph)
  known_v = Joins-clock n.graph (port_of v (suc p)) (port_of u (suc q)) wf joins

  known_u : In u (clocks n.graph)
  known_u = Joins-clock n.graph (port_of u (suc q)) (port_of v (suc p)) wf back

  -- what the port at its end holds came over it
  abbrev pub CameOver : MachineState → Type 0
  CameOver w = AtLink says n v p u q
      (λ held fs. (r : Reception) → held ≡ Received r → r.said.source ≡ port_of v (suc p)) w

  -- what both ends show
  pub record Shows (w : MachineState) : Type 0 where
    pub kept : IsAfterLoss n w
    pub came : CameOver w
    pub settled : (s : Station) (pv : Port) → slice_get w.stations (n.place v) ≡ Some s
        → slice_get s.ports p ≡ Some pv → TellerIsReady (telling n before d best v p u q) s pv
        → TellerIsSettled (telling n before d best v p u q) s pv
    pub early : (s : Station) (pv : Port) → slice_get w.stations (n.place v) ≡ Some s → slice_get s.ports p ≡ Some pv
        → (TellerIsReady (telling n before d best v p u q) s pv → ⊥) → w.time + n.most < before
    pub weaker : (s : Station) (pu : Port) → slice_get w.stations (n.place u) ≡ Some s → slice_get s.ports q ≡ Some pu
        → (root steps : ℕ) → pu.held ≡ Mine root steps
        → IsLower (final_vector (telling n before d best v p u q)) (master root steps u (suc q))

  module _ (w : MachineState) (show : Shows w) where
    stands : (c : ℕ) → In c (clocks n.graph) → StandsAt w c (n.place c)
    stands c known i m at = (
      (λ here. (lives_at n w show.kept.calm c known m (subst (λ j. slice_get w.stations j ≡ Some m) here at)).1),
      (λ clock. show.kept.calm.placed i m at ∙ (λ j. n.place (clock j))),
    )

    source : (s : Station) (pu : Port) (r : Reception) → slice_get w.stations (n.place u) ≡ Some s
        → slice_get s.ports q ≡ Some pu → pu.held ≡ Received r → r.said.source ≡ port_of v (suc p)
    source s pu r at there holds =
        let has = show.kept.calm.lanes (port_of v (suc p)) (port_of u (suc q)) joins in
        show.came s pu has.lane at there has.there r holds

    pub ends_so : Ends (telling n before d best v p u q) w
    ends_so = record {
      in_time = omega (arith, in_time);
      claimed = omega arith;
      entry = inl (λ i. 0);
      apart = wf.apart (port_of v (suc p)) (port_of u (suc q)) joins;
      teller_stands = stands v known_v;
      hearer_stands = stands u known_u;
      hearer_lives = λ s at. (lives_at n w show.kept.calm u known_u s at).0;
      lane = λ l at.
          let (from, to, loss, up) = lane_is n wf w show.kept v p u q joins l at in
          record { from = from; to = to; loss = loss; is_up = up };
      only_lane = λ j l at to.
          let has = show.kept.calm.lanes (port_of v (suc p)) (port_of u (suc q)) joins in
          show.kept.calm.apart j (n.lane (port_of v (suc p))) l has.lane at has.there (to ∙ sym has.to);
      frames = λ l f at among. record {
        left = show.kept.calm.left (n.lane (port_of v (suc p))) l f at among;
        due = λ since. due_by n wf w show.kept v p u q joins l f at among;
      };
      teller = λ s pv at there.
          let (live, clock) = lives_at n w show.kept.calm v known_v s at in
          let is_port : IsCalmPort n w.time (port_of v (suc p)) pv =
          subst (λ c. IsCalmPort n w.time (port_of c (suc p)) pv) clock
          ((show.kept.calm.stations (n.place v) s at live).ports p pv there) in
          record {
            log = is_port.log;
            interval = is_port.interval;
            timer = is_port.timer;
            own = λ root steps mine.
                (show.kept.calm.stations (n.place v) s at live).at_rest.mine p pv root steps there mine;
            settled = λ since ready. show.settled s pv at there ready;
            early = show.early s pv at there;
          };
      hearer = λ s pu at there since.
          let (live, clock) = lives_at n w show.kept.calm u known_u s at in
          let is_port : IsCalmPort n w.time (port_of u (suc q)) pu =
          subst (λ c. IsCalmPort n w.time (port_of c (suc q)) pu) clock
          ((show.kept.calm.stations (n.place u) s at live).ports q pu there) in
          record {
            weaker = show.weaker s pu at there;
            source = λ r holds. source s pu r at there holds;
            long = λ r holds log. is_port.long r (port_of v (suc p)) holds joins (source s pu r at there holds) log;
          };
    }

  -- every step keeps the link at its stages
  pub tells_on : (w w' : MachineState) → Shows w → Shows w' → MachineSteps says w w'
      → LinkSettles says (telling n before d best v p u q) w → LinkSettles says (telling n before d best v p u q) w'
  tells_on w w' show show' step link =
      link_kept says (telling n before d best v p u q) w w' (ends_so w show) (ends_so w' show')
      (λ s due at since slave lapse. show.kept.lapses (n.place u) due s at lapse)
      (λ l f fs a s pu since at_l frames due said at there.
      port_on n wf w show.kept u q (port_of v (suc p)) s pu at there back)
      (λ s s' pu pu' since at there at' there' on.
      port_on n wf w' show'.kept u q (port_of v (suc p)) s' pu' at' there' back) step link

  -- what a settled teller says over it is final
  module _ (w : MachineState) (kept : IsAfterLoss n w) (s : Station)
      (at : slice_get w.stations (n.place v) ≡ Some s) (pv : Port) (there : slice_get s.ports p ≡ Some pv)
      (ready : TellerIsReady (telling n before d best v p u q) s pv)
      (tells : TellerIsSettled (telling n before d best v p u q) s pv) where
    own_final : (number : ℕ) (a : Announce) → IsOwn s number a → number ≡ suc p
        → IsFinal (telling n before d best v p u q) a
    own_final number a own is = record {
      root = own.root ∙ ready.0.0;
      steps = own.steps ∙ ready.0.1;
      source = source;
      log = own.log p pv is there ∙ is_port.log;
      qualified = record {
        foreign = λ same.
            wf.apart (port_of v (suc p)) (port_of u (suc q)) joins (ap (λ (e : PortIdentity). e.clock) (sym source) ∙
            same);
        near = subst (λ k. k < 255) (sym (own.steps ∙ ready.0.1)) tells.near;
        no_loop = λ names. tells.foreign (subst (In u) own.path names);
        short = subst (λ (xs : List ℕ). length xs ≤ 255) (sym own.path) tells.short;
      };
    }
      where
        lives : (s.live ≡ true) × (s.clock ≡ v)
        lives = lives_at n w kept.calm v known_v s at

        source : a.source ≡ port_of v (suc p)
        source = own.source ∙ (λ i. port_of (lives.1 i) (is i))

        is_port : IsCalmPort n w.time (port_of v (suc p)) pv
        is_port =
            subst (λ c. IsCalmPort n w.time (port_of c (suc p)) pv) lives.1
            ((kept.calm.stations (n.place v) s at lives.0).ports p pv there)

    pub news_final : (sends : List Send) → ((z : Send) (a : Announce) → In z sends → says z.octets a
        → IsOwn s z.port a × IsMasterAt s z.port) → (c : ℕ) (l l' : Lane) → l.from ≡ port_of v (suc p)
        → (laid : LaneStep c sends l l') → AllFinal says (telling n before d best v p u q) laid.news
    news_final sends reacts c l l' from laid h a among said =
        let (z, sent, over, octets) = laid.sent h among in
        let (own, master) = reacts z a sent (subst (λ o. says o a) octets said) in
        own_final z.port a own (ap (λ (e : PortIdentity). e.port) (sym over ∙ from))

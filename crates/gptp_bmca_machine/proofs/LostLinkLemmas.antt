-- A system of a network at rest fails: the far end of a link of it holds what it told last.
use Rattle.std.proofs.Common.{◌≡◌, ◌≢◌, ◌<◌, ◌≤◌, ◌+◌, ℕ, ℤ, suc, true, Some, slice_get, refl, sym, ap, subst, ◌∙◌, inl, inr, arith}
use Rattle.gptp_lists.specs.Members.{In}
use Rattle.gptp_graph.specs.Best.{IsBest}
use Rattle.gptp_graph.specs.Distance.{IsDistance}
use Rattle.gptp_graph.specs.Snapshot.{IsLinked, IsWellFormed, Joins, Snapshot, System, clocks, port_of}
use Rattle.gptp_graph.proofs.BestLemmas.{IsBest-neighbour}
use Rattle.gptp_graph.proofs.LinkLemmas.{Joins-clock, Joins-sym}
use Rattle.gptp_graph.proofs.PathBoundLemmas.{IsDistance-within}
use Rattle.gptp_bmca_machine.specs.Calm.{IsCalmPort}
use Rattle.gptp_bmca_machine.specs.Frame.{AnnounceFrame, Lane, Spelling}
use Rattle.gptp_bmca_machine.specs.Levels.{LeadsFarther}
use Rattle.gptp_bmca_machine.specs.LinkStage.{FinalAnnounceStays}
use Rattle.gptp_bmca_machine.specs.LossLaws.{IsAfterLoss, IsLoss}
use Rattle.gptp_bmca_machine.specs.Network.{IsSettlingNetwork, Network}
use Rattle.gptp_bmca_machine.specs.Station.{Disabled, HoldsAt, MachineState, Port, Received, Reception, Station}
use Rattle.gptp_bmca_machine.proofs.EndsLemmas.{clear_at, is_station, station_of}
use Rattle.gptp_bmca_machine.proofs.LevelLemmas.{port_there}
use Rattle.gptp_bmca_machine.proofs.LinkStepLemmas.{lives_at}
use Rattle.gptp_bmca_machine.proofs.LostPortLemmas.{HoldsLast, StaysAsNamed}
use Rattle.gptp_bmca_machine.proofs.PlaceLemmas.{same_there}
use Rattle.gptp_bmca_machine.proofs.RestLemmas.{Chooses, is_master}
use Rattle.gptp_bmca_machine.proofs.RestingLemmas.{all_choose, by_then_at, links_stay, stays_so}
use Rattle.gptp_bmca_machine.proofs.StillLemmas.{still, still_stays}

-- what a system holds came over a link of before
pub bare_begins : (says : Spelling) (n0 n : Network) (w w' : MachineState) → IsLoss says n0 n w w' → IsAfterLoss n w'
    → (x : ℕ) → In x (clocks n.graph) → (s : Station) (i : ℕ) (r : Reception)
    → slice_get w'.stations (n.place x) ≡ Some s → HoldsAt s i r → IsLinked n0.graph (port_of x (suc i))
bare_begins says n0 n w w' loss kept' x known s i r at holds =
    let is = lives_at n w' kept'.calm x known s at in
    let came = loss.rests.whole.stations (n.place x) s i r (loss.stations (n.place x) s at is.0) is.0 holds in (
      came.from,
      subst (λ c. Joins n0.graph (port_of c (suc i)) came.from) is.1
          (Joins-sym n0.graph came.from (port_of s.clock (suc i)) came.joins),
    )

module _ (says : Spelling) (n0 n : Network) (net0 : IsSettlingNetwork n0) (w w' : MachineState)
    (loss : IsLoss says n0 n w w') (kept' : IsAfterLoss n w') (wf : IsWellFormed n0.graph) (lost x : ℕ)
    (known_x : In x (clocks n.graph)) (best : System) (d : ℕ) (is_best_x : IsBest n0.graph x best)
    (lost_far : IsDistance n0.graph lost d) (far : IsDistance n0.graph x (suc d)) (near : suc d < 255)
    (stood : (p i : ℕ) → Joins n0.graph (port_of lost (suc p)) (port_of x (suc i)) → (l : Lane)
    → slice_get w'.lanes (n.lane (port_of lost (suc p))) ≡ Some l
    → slice_get w.lanes (n.lane (port_of lost (suc p))) ≡ Some l) (stay : ℤ → ℕ) (named : StaysAsNamed stay w) where
  abbrev g : Snapshot
  g = n0.graph

  -- its far end stands as it did
  stood_x : (s : Station) → slice_get w'.stations (n.place x) ≡ Some s
      → slice_get w.stations (n0.place x) ≡ Some s
  stood_x s at =
      subst (λ i. slice_get w.stations i ≡ Some s) (loss.same.place x)
      (loss.stations (n.place x) s at (lives_at n w' kept'.calm x known_x s at).0)

  module _ (p i : ℕ) (joins : Joins g (port_of lost (suc p)) (port_of x (suc i))) where
    nearer : d < suc d
    nearer = omega arith

    leads : LeadsFarther g d best lost p x i
    leads = record {
      is_best = IsBest-neighbour g x lost best wf
          (suc i, suc p, Joins-sym g (port_of lost (suc p)) (port_of x (suc i)) joins) is_best_x;
      here = lost_far;
      joins = joins;
      far = suc d;
      there = far;
      farther = inl nearer;
    }

    close : d < 255
    close = omega (arith, near)

    known : In lost (clocks g)
    known = Joins-clock g (port_of lost (suc p)) (port_of x (suc i)) wf joins

    -- the failed system told it by a timer that wasn't over
    module _ (s : Station) (at : slice_get w.stations (n0.place lost) ≡ Some s) (pv : Port)
        (there : slice_get s.ports p ≡ Some pv) where
      is : (s.live ≡ true) × (s.clock ≡ lost)
      is = is_station n0 net0 w loss.rests.calm loss.rests.invariant.sound lost s known at

      calm_port : IsCalmPort n0 w.time (port_of lost (suc p)) pv
      calm_port =
          subst (λ c. IsCalmPort n0 w.time (port_of c (suc p)) pv) is.1
          ((loss.rests.calm.stations (n0.place lost) s at is.0).ports p pv there)

      chosen : Chooses s best d
      chosen =
          all_choose says n0 net0 w loss.rests.calm loss.rests.invariant loss.rests.late d close
          (by_then_at says n0 net0 w loss.rests.calm loss.rests.invariant loss.rests.late d
          (IsDistance-within g n0.reach lost d net0.paths lost_far)) lost best s at leads.is_best lost_far

      told_late : w.time ≤ pv.announce
      told_late =
          (calm_port.timer best.identity d
          (is_master g net0.graph s (clear_at n0 net0 w loss.rests.calm loss.rests.invariant.sound (n0.place lost) s at
          is.0 (let late = loss.rests.late in omega (arith, late))) best
          (subst (λ c. IsBest g c best) (sym is.1) leads.is_best) d (suc d) p pv (port_of x (suc i)) chosen
          there on (subst (λ c. Joins g (port_of c (suc p)) (port_of x (suc i))) (sym is.1) joins)
          far (inl nearer))).0
        where
          on : pv.held ≢ Disabled
          on = calm_port.capable (let late = loss.rests.late in
              let ready = net0.ready (port_of lost (suc p)) (port_of x (suc i), joins) in omega (arith, late, ready))
              (port_of x (suc i), joins)

    -- what the far end held at rest stays for more than an interval and a delay
    module _ (s : Station) (at : slice_get w.stations (n0.place x) ≡ Some s) (pu : Port)
        (there : slice_get s.ports i ≡ Some pu) where
      is_x : (s.live ≡ true) × (s.clock ≡ x)
      is_x = is_station n0 net0 w loss.rests.calm loss.rests.invariant.sound x s
          (Joins-clock g (port_of x (suc i)) (port_of lost (suc p)) wf
          (Joins-sym g (port_of lost (suc p)) (port_of x (suc i)) joins)) at

      stays_long : (r : Reception) → pu.held ≡ Received r → r.said.source ≡ port_of lost (suc p)
          → r.said.log ≡ n0.log_of (port_of lost (suc p))
          → n0.interval_of (port_of lost (suc p)) + n0.most < r.span
      stays_long r holds source log =
          (subst (λ c. IsCalmPort n0 w.time (port_of c (suc i)) pu) is_x.1
          ((loss.rests.calm.stations (n0.place x) s at is_x.0).ports i pu there)).long r (port_of lost (suc p))
          holds
          joins source log

    -- how it was told at rest
    record ToldAtRest (pu : Port) (l : Lane) : Type 0 where
      pv : Port
      late : w.time ≤ pv.announce
      stays : FinalAnnounceStays says (still n d best lost p x i) pv.announce pu.held l.frames

    told_at_rest : (s : Station) (pu : Port) (l : Lane) → slice_get w.stations (n0.place x) ≡ Some s
        → slice_get s.ports i ≡ Some pu → slice_get w.lanes (n0.lane (port_of lost (suc p))) ≡ Some l → ToldAtRest pu l
    told_at_rest s pu l at there lane = by (station_of n0 net0 w loss.rests.calm loss.rests.invariant.sound lost known)
      where
        by : ((sv : Station) × (slice_get w.stations (n0.place lost) ≡ Some sv) × (sv.live ≡ true) × (sv.clock ≡ lost))
            → ToldAtRest pu l
        by (sv, at_v, live, clock) = by_port (port_there says n0 net0 w loss.rests.calm loss.rests.invariant.sound lost
            p
            (port_of x (suc i)) sv at_v joins)
          where
            by_port : ((pv : Port) × (slice_get sv.ports p ≡ Some pv)) → ToldAtRest pu l
            by_port (pv, there_v) = record {
              pv = pv;
              late = told_late sv at_v pv there_v;
              stays = still_stays says n d best lost p x i pv.announce pu.held l.frames
                  (stays_so says n0 n loss.same d best best lost p x i refl pv.announce pu.held l.frames
                  (links_stay says n0 net0 w loss.rests.calm loss.rests.invariant loss.rests.late d best lost p x i
                  close leads pv pu l (record {
                    v = sv;
                    u = s;
                    teller = at_v;
                    teller_port = there_v;
                    hearer = at;
                    hearer_port = there;
                    lane = lane;
                  })));
            }

    -- so the port holds what was told last
    pub last_begins : (s : Station) (pu : Port) (l : Lane) → slice_get w'.stations (n.place x) ≡ Some s
        → slice_get s.ports i ≡ Some pu → slice_get w'.lanes (n.lane (port_of lost (suc p))) ≡ Some l
        → HoldsLast says (still n d best lost p x i) (w.time + n0.most) pu.held l.frames
    last_begins s pu l at there lane = record {
      r = told.stays.what;
      holds = told.stays.holds;
      final = told.stays.final;
      flight = told.stays.flight;
      by = λ f among said. due f among;
      young = elim told.stays.next [
        | inl timer ↦ inl (
            let late = told.late in
            let interval = loss.same.interval (port_of lost (suc p)) in
            omega (arith, timer, late, more, interval))
        | inr (h, among, said, soon) ↦ inr (inl (h, among, said, soon))
      ];
    }
      where
        here : slice_get w.stations (n0.place x) ≡ Some s
        here = stood_x s at

        lane0 : slice_get w.lanes (n0.lane (port_of lost (suc p))) ≡ Some l
        lane0 = subst (λ i. slice_get w.lanes i ≡ Some l) (loss.same.lane (port_of lost (suc p)))
            (stood p i joins l lane)

        told : ToldAtRest pu l
        told = told_at_rest s pu l here there lane0

        more : n0.interval_of (port_of lost (suc p)) + n0.most < told.stays.what.span
        more = stays_long s here pu there told.stays.what told.stays.holds told.stays.final.source
            (told.stays.final.log ∙ loss.same.log (port_of lost (suc p)))

        due : (f : AnnounceFrame) → In f l.frames → f.due ≤ w.time + n0.most
        due f among =
            let has = loss.rests.calm.lanes (port_of lost (suc p)) (port_of x (suc i)) joins in
            let one = same_there w.lanes (n0.lane (port_of lost (suc p))) has.lane l has.there lane0 in
            let from : l.from ≡ port_of lost (suc p) = ap (λ (y : Lane). y.from) (sym one) ∙ has.from in
            let to : l.to ≡ port_of x (suc i) = ap (λ (y : Lane). y.to) (sym one) ∙ has.to in
            elim (loss.rests.calm.facts.fresh (n0.lane (port_of lost (suc p))) l f lane0 among
            (subst (λ k. Joins g k l.to) (sym from) (subst (Joins g (port_of lost (suc p))) (sym to) joins))) [
              | inl soon ↦ soon
              | inr early ↦
                  let begun = net0.begun in
                  let late = loss.rests.late in
                  omega (arith, early, begun, late)
            ]

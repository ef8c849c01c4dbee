-- A calm state of which lanes are emptied that no link needs is calm in an alike network.
use Rattle.std.proofs.Common.{◌≡◌, ◌⊎◌, ◌≤◌, ◌*◌, ℕ, suc, false, List, [], Some, slice_get, refl, sym, subst, ◌∙◌, inl, inr, arith}
use Rattle.gptp_lists.specs.Members.{In}
use Rattle.gptp_graph.specs.Snapshot.{IsLinked, Joins, PortIdentity, Snapshot, System, clocks, port_of}
use Rattle.gptp_bmca_machine.specs.Calm.{Calm, HasLane, HasStation}
use Rattle.gptp_bmca_machine.specs.Facts.{StationFacts, station_system}
use Rattle.gptp_bmca_machine.specs.Frame.{AnnounceFrame, Lane}
use Rattle.gptp_bmca_machine.specs.LossLaws.{IsAfterLoss}
use Rattle.gptp_bmca_machine.specs.Network.{Network, network_setting}
use Rattle.gptp_bmca_machine.specs.RestLaws.{SameWiring}
use Rattle.gptp_bmca_machine.specs.Station.{MachineState}
use Rattle.gptp_settling_time.proofs.AgingStillLemmas.{IsEmptied}

-- the networks differ in when what is older is gone, and in times of settling, at most
pub record IsAlike (n n' : Network) : Type 0 where
  pub graph : n'.graph ≡ n.graph
  pub wiring : SameWiring n n'
  pub most : n'.most ≡ n.most
  pub interval : n'.interval ≡ n.interval
  pub timeout : n'.timeout ≡ n.timeout
  pub start : n'.start ≡ n.start
  pub bare : n'.bare ≡ n.bare
  pub off : n'.off ≡ n.off
  pub ready : (p : PortIdentity) → n'.ready p ≡ n.ready p

-- Each lane is as it was, or down and empty between the same ports; and one that a link has is as it was.
pub record AreEmptied (g : Snapshot) (old new : List Lane) : Type 0 where
  pub back : (j : ℕ) (l : Lane) → slice_get new j ≡ Some l
      → (slice_get old j ≡ Some l)
      ⊎ ((m : Lane) × (slice_get old j ≡ Some m) × (m.to ≡ l.to) × (l.frames ≡ []) × (l.is_up ≡ false))
  pub ahead : (j : ℕ) (l : Lane) → slice_get old j ≡ Some l → Joins g l.from l.to → slice_get new j ≡ Some l

module _ (n n' : Network) (alike : IsAlike n n') (w : MachineState) (lanes : List Lane)
    (emptied : AreEmptied n'.graph w.lanes lanes) where
  abbrev w' : MachineState
  w' = record w { lanes = lanes }

  pub lanes_emptied : IsEmptied w w'
  lanes_emptied = record {
    time = refl;
    stations = λ i s there live. there;
    lanes = λ j l there. elim (emptied.back j l there) [
      | inl stood ↦ inl stood
      | inr (m, at, to, none, off) ↦ inr (none, off)
    ];
  }

  -- what is in flight was
  flew : (j : ℕ) (l : Lane) (f : AnnounceFrame) → slice_get lanes j ≡ Some l → In f l.frames
      → slice_get w.lanes j ≡ Some l
  flew j l f there flies = elim (emptied.back j l there) [
    | inl stood ↦ stood
    | inr (m, at, to, none, off) ↦ absurd (subst (In f) none flies)
  ]

  -- where a lane leads one led
  led : (j : ℕ) (l : Lane) → slice_get lanes j ≡ Some l
      → (m : Lane) × (slice_get w.lanes j ≡ Some m) × (m.to ≡ l.to)
  led j l there = elim (emptied.back j l there) [
    | inl stood ↦ (l, stood, refl)
    | inr (m, at, to, none, off) ↦ (m, at, to)
  ]

  joined : (a b : PortIdentity) → Joins n'.graph a b → Joins n.graph a b
  joined a b = subst (λ h. Joins h a b) alike.graph

  linked : (a : PortIdentity) → IsLinked n'.graph a → IsLinked n.graph a
  linked a (b, joins) = (b, joined a b joins)

  linked_too : (a : PortIdentity) → IsLinked n.graph a → IsLinked n'.graph a
  linked_too a (b, joins) = (b, subst (λ h. Joins h a b) (sym alike.graph) joins)

  pub emptied_calm : Calm n w → Calm n' w'
  emptied_calm c = record {
    facts = record {
      stations = λ i s there live.
          let x = c.facts.stations i s there live in
          record {
            known = subst (λ (h : Snapshot). In (station_system s) h.systems) (sym alike.graph) x.known;
            follows = x.follows;
            held = λ place r holds.
                let y = x.held place r holds in
                record {
                  came = y.came;
                  stays = y.stays;
                  short = subst (λ t. r.span ≤ t * n'.interval) (sym alike.timeout)
                      (subst (λ t. r.span ≤ n.timeout * t) (sym alike.interval) y.short);
                  no_loop = y.no_loop;
                };
          };
      near = λ j l f there flies.
          let near = c.facts.near j l f (flew j l f there flies) flies in
          let interval = alike.interval in
          omega (arith, near, interval);
      fresh = λ j l f there flies joins.
          let most = alike.most in
          let start = alike.start in
          elim (c.facts.fresh j l f (flew j l f there flies) flies (joined l.from l.to joins)) [
            | inl soon ↦ inl (omega (arith, soon, most))
            | inr old ↦ inr (omega (arith, old, start))
          ];
      linked = λ j l f there flies from to.
          subst (λ h. Joins h l.from l.to) (sym alike.graph)
          (c.facts.linked j l f (flew j l f there flies) flies
          (subst (λ h. In l.from.clock (clocks h)) alike.graph from)
          (subst (λ h. In l.to.clock (clocks h)) alike.graph to));
    };
    stations = λ i s there live.
        let x = c.stations i s there live in
        record {
          at_rest = x.at_rest;
          ports = λ place q at.
              let y = x.ports place q at in
              let p : PortIdentity = port_of s.clock (suc place) in
              let interval = alike.wiring.interval p in
              record {
                log = y.log ∙ sym (alike.wiring.log p);
                interval = y.interval ∙ sym interval;
                timer = λ root steps mine.
                    let (early, late) = y.timer root steps mine in (early, omega (arith, late, interval));
                capable = λ now is_linked.
                    let ready = alike.ready p in y.capable (omega (arith, now, ready)) (linked p is_linked);
                bare = λ now none.
                    let bare = alike.bare in
                    y.bare (omega (arith, now, bare)) (λ is_linked. none (linked_too p is_linked));
                unlinked = λ now none.
                    let off = alike.off in
                    y.unlinked (omega (arith, now, off)) (λ is_linked. none (linked_too p is_linked));
                long = λ r from holds joins source log.
                    let most = alike.most in
                    let interval_from = alike.wiring.interval from in
                    let long = y.long r from holds (joined from p joins) source (log ∙ alike.wiring.log from) in
                    omega (arith, long, most, interval_from);
              };
        };
    placed = λ i s there. c.placed i s there ∙ sym (alike.wiring.place s.clock);
    there = there;
    lanes = has_lane;
    apart = λ i j l m at_i at_j same.
        let (l0, l_there, l_to) = led i l at_i in
        let (m0, m_there, m_to) = led j m at_j in
        c.apart i j l0 m0 l_there m_there (l_to ∙ same ∙ sym m_to);
    left = λ j l f there flies. c.left j l f (flew j l f there flies) flies;
  }
    where
      there : (s : System) → In s n'.graph.systems → HasStation n' w' s
      there s member =
          let x = c.there s (subst (λ (h : Snapshot). In s h.systems) alike.graph member) in
          record {
            station = x.station;
            there = subst (λ i. slice_get w.stations i ≡ Some x.station) (sym (alike.wiring.place s.clock)) x.there;
            live = x.live;
            is = x.is;
          }

      has_lane : (p q : PortIdentity) → Joins n'.graph p q → HasLane n' w' p q
      has_lane p q joins =
          let x = c.lanes p q (joined p q joins) in
          let still = emptied.ahead (n.lane p) x.lane x.there
          (subst (λ a. Joins n'.graph a x.lane.to) (sym x.from) (subst (Joins n'.graph p) (sym x.to) joins)) in
          record {
            lane = x.lane;
            there = subst (λ i. slice_get lanes i ≡ Some x.lane) (sym (alike.wiring.lane p)) still;
            from = x.from;
            to = x.to;
            loss = x.loss;
            is_up = x.is_up;
          }

  pub emptied_after : IsAfterLoss n w → IsAfterLoss n' w'
  emptied_after after =
      let start = alike.start in
      let most = alike.most in
      let begun = after.begun in
      let late = after.late in
      record {
        calm = emptied_calm after.calm;
        capable = λ p is_linked.
            let ready = alike.ready p in
            let capable = after.capable p (linked p is_linked) in
            omega (arith, ready, capable);
        lapses = after.lapses;
        begun = omega (arith, begun, start);
        late = omega (arith, late, most);
      }

-- ---- what is older is gone at another time

-- so the network is alike, and the state as calm
module _ (n : Network) (gone : ℕ) where
  abbrev n' : Network
  n' = record n { gone = gone }

  older : IsAlike n n'
  older = record {
    graph = refl;
    wiring = record { place = λ v. refl; lane = λ p. refl; log = λ p. refl; interval = λ p. refl };
    most = refl;
    interval = refl;
    timeout = refl;
    start = refl;
    bare = refl;
    off = refl;
    ready = λ p. refl;
  }

  all_stand : (w : MachineState) → AreEmptied n.graph w.lanes w.lanes
  all_stand w = record { back = λ j l there. inl there; ahead = λ j l there joins. there }

  pub older_calm : (w : MachineState) → Calm n w → Calm n' w
  older_calm w = emptied_calm n n' older w w.lanes (all_stand w)

  pub older_after : (w : MachineState) → IsAfterLoss n w → IsAfterLoss n' w
  older_after w = emptied_after n n' older w w.lanes (all_stand w)

  pub older_facts : (w : MachineState) → StationFacts (network_setting n) w → StationFacts (network_setting n') w
  older_facts w facts = record {
    stations = λ i s there live.
        let x = facts.stations i s there live in
        record {
          known = x.known;
          follows = x.follows;
          held = λ place r holds.
              let y = x.held place r holds in
              record { came = y.came; stays = y.stays; short = y.short; no_loop = y.no_loop };
        };
    near = facts.near;
    fresh = facts.fresh;
    linked = facts.linked;
  }

-- A state between two calm ones, of which each system stands as in one of them, and each lane is one of the second with
-- fewer frames, is calm in the network of the second: what is left of the first.
use Rattle.std.proofs.Common.{◌≡◌, ◌⊎◌, ◌<◌, ◌≤◌, ◌*◌, ℕ, suc, Some, slice_get, sym, subst, ◌∙◌, inl, inr, arith}
use Rattle.gptp_lists.specs.Members.{In}
use Rattle.gptp_graph.specs.Snapshot.{IsLinked, Joins, PortIdentity, System, clocks, port_of}
use Rattle.gptp_bmca_machine.specs.Calm.{Calm, HasStation, IsCalmStation}
use Rattle.gptp_bmca_machine.specs.Facts.{IsLiveStationState, station_system}
use Rattle.gptp_bmca_machine.specs.Frame.{AnnounceFrame, Lane}
use Rattle.gptp_bmca_machine.specs.LossLaws.{IsAfterLoss}
use Rattle.gptp_bmca_machine.specs.Network.{Network, network_setting}
use Rattle.gptp_bmca_machine.specs.RestLaws.{SameWiring}
use Rattle.gptp_bmca_machine.specs.Station.{MachineState, Station}

-- The second network has the systems of the first, and no other links. By this time it claims nothing of ports without
-- a link.
pub record IsLesser (n n' : Network) (now : ℕ) : Type 0 where
  pub wiring : SameWiring n n'
  pub systems : n'.graph.systems ≡ n.graph.systems
  pub links : (p q : PortIdentity) → Joins n'.graph p q → Joins n.graph p q
  pub most : n'.most ≤ n.most
  pub interval : n'.interval ≡ n.interval
  pub timeout : n'.timeout ≡ n.timeout
  pub ready : (p : PortIdentity) → n'.ready p ≡ n.ready p
  pub bare : now < n'.bare
  pub off : now < n'.off

-- the lane leads where the other does, with fewer frames
pub record IsEmptier (l l' : Lane) : Type 0 where
  pub from : l'.from ≡ l.from
  pub to : l'.to ≡ l.to
  pub loss : l'.loss ≡ l.loss
  pub is_up : l'.is_up ≡ l.is_up
  pub fewer : (f : AnnounceFrame) → In f l.frames → In f l'.frames

pub record IsBetween (n' : Network) (w m w' : MachineState) : Type 0 where
  pub since : m.time ≡ w.time
  pub time : w'.time ≡ m.time
  pub stations : (i : ℕ) (s : Station) → slice_get m.stations i ≡ Some s
      → (slice_get w.stations i ≡ Some s) ⊎ (slice_get w'.stations i ≡ Some s)
  pub there : (s : System) → In s n'.graph.systems → HasStation n' m s
  pub lanes : (j : ℕ) (l : Lane) → slice_get m.lanes j ≡ Some l
      → (l' : Lane) × (slice_get w'.lanes j ≡ Some l') × IsEmptier l l'
  pub ahead : (j : ℕ) (l' : Lane) → slice_get w'.lanes j ≡ Some l'
      → (l : Lane) × (slice_get m.lanes j ≡ Some l) × IsEmptier l l'

module _ (n n' : Network) (w m w' : MachineState) (lesser : IsLesser n n' w.time) (was : IsAfterLoss n w)
    (after : IsAfterLoss n' w') (between : IsBetween n' w m w') where
  linked : (a : PortIdentity) → IsLinked n'.graph a → IsLinked n.graph a
  linked a (b, joins) = (b, lesser.links a b joins)

  -- what is known of a system before is of what is left
  facts_before : (s : Station) → IsLiveStationState (network_setting n) w.time s
      → IsLiveStationState (network_setting n') m.time s
  facts_before s x =
      let since = between.since in
      record {
        known = subst (In (station_system s)) (sym lesser.systems) x.known;
        follows = x.follows;
        held = λ place r holds.
            let y = x.held place r holds in
            let came = y.came in
            let stays = y.stays in
            record {
              came = omega (arith, came, since);
              stays = omega (arith, stays, since);
              short = subst (λ t. r.span ≤ t * n'.interval) (sym lesser.timeout)
                  (subst (λ t. r.span ≤ n.timeout * t) (sym lesser.interval) y.short);
              no_loop = y.no_loop;
            };
      }

  ports_before : (s : Station) → IsCalmStation n w.time s → IsCalmStation n' m.time s
  ports_before s x = record {
    at_rest = x.at_rest;
    ports = λ place q at.
        let y = x.ports place q at in
        let p : PortIdentity = port_of s.clock (suc place) in
        let interval = lesser.wiring.interval p in
        let since = between.since in
        record {
          log = y.log ∙ sym (lesser.wiring.log p);
          interval = y.interval ∙ sym interval;
          timer = λ root steps mine.
              let (early, late) = y.timer root steps mine in
              (omega (arith, early, since), omega (arith, late, interval, since));
          capable = λ now is_linked.
              let ready = lesser.ready p in
              y.capable (omega (arith, now, ready, since)) (linked p is_linked);
          bare = λ now none. let bare = lesser.bare in absurd (omega (arith, now, bare, since));
          unlinked = λ now none. let off = lesser.off in absurd (omega (arith, now, off, since));
          long = λ r from holds joins source log.
              let most = lesser.most in
              let interval_from = lesser.wiring.interval from in
              let long = y.long r from holds (lesser.links from p joins) source (log ∙ lesser.wiring.log from) in
              omega (arith, long, most, interval_from);
        };
  }

  between_calm : Calm n' m
  between_calm = record {
    facts = record {
      stations = λ i s there live. elim (between.stations i s there) [
        | inl stood ↦ facts_before s (was.calm.facts.stations i s stood live)
        | inr stands ↦
            subst (λ t. IsLiveStationState (network_setting n') t s) between.time
            (after.calm.facts.stations i s stands live)
      ];
      near = λ j l f there flies.
          let (l', at, x) = between.lanes j l there in
          let near = after.calm.facts.near j l' f at (x.fewer f flies) in
          let time = between.time in
          omega (arith, near, time);
      fresh = λ j l f there flies joins.
          let (l', at, x) = between.lanes j l there in
          let time = between.time in
          elim (after.calm.facts.fresh j l' f at (x.fewer f flies)
          (subst (λ a. Joins n'.graph a l'.to) (sym x.from) (subst (Joins n'.graph l.from) (sym x.to) joins))) [
            | inl soon ↦ inl (omega (arith, soon, time))
            | inr old ↦ inr old
          ];
      linked = λ j l f there flies from to.
          let (l', at, x) = between.lanes j l there in
          subst (λ a. Joins n'.graph a l.to) x.from
          (subst (Joins n'.graph l'.from) x.to
          (after.calm.facts.linked j l' f at (x.fewer f flies)
          (subst (λ (a : PortIdentity). In a.clock (clocks n'.graph)) (sym x.from) from)
          (subst (λ (a : PortIdentity). In a.clock (clocks n'.graph)) (sym x.to) to)));
    };
    stations = λ i s there live. elim (between.stations i s there) [
      | inl stood ↦ ports_before s (was.calm.stations i s stood live)
      | inr stands ↦ subst (λ t. IsCalmStation n' t s) between.time (after.calm.stations i s stands live)
    ];
    placed = λ i s there. elim (between.stations i s there) [
      | inl stood ↦ was.calm.placed i s stood ∙ sym (lesser.wiring.place s.clock)
      | inr stands ↦ after.calm.placed i s stands
    ];
    there = between.there;
    lanes = λ p q joins.
        let x = after.calm.lanes p q joins in
        let (l, at, y) = between.ahead (n'.lane p) x.lane x.there in
        record {
          lane = l;
          there = at;
          from = sym y.from ∙ x.from;
          to = sym y.to ∙ x.to;
          loss = sym y.loss ∙ x.loss;
          is_up = sym y.is_up ∙ x.is_up;
        };
    apart = λ i j l k at_i at_j same.
        let (l', there_i, x) = between.lanes i l at_i in
        let (k', there_j, y) = between.lanes j k at_j in
        after.calm.apart i j l' k' there_i there_j (x.to ∙ same ∙ sym y.to);
    left = λ j l f there flies.
        let (l', at, x) = between.lanes j l there in
        let left = after.calm.left j l' f at (x.fewer f flies) in
        let time = between.time in
        omega (arith, left, time);
  }

  pub between_after : IsAfterLoss n' m
  between_after =
      let time = between.time in
      let begun = after.begun in
      let late = after.late in
      record {
        calm = between_calm;
        capable = λ p is_linked. let capable = after.capable p is_linked in omega (arith, capable, time);
        lapses = λ i due s there lapse. elim (between.stations i s there) [
          | inl stood ↦
              let soon = was.lapses i due s stood lapse in
              let since = between.since in
              omega (arith, soon, since)
          | inr stands ↦ let soon = after.lapses i due s stands lapse in omega (arith, soon, time)
        ];
        begun = omega (arith, begun, time);
        late = omega (arith, late, time);
      }

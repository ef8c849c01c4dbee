-- A state of which links or systems are gone, and nothing else, where no system is moved but such as are cut off: what
-- is held and in flight fits as it did, each link that is left stays at its stage, and each unmoved system holds as
-- much at its other ports.
use Rattle.std.proofs.Common.{◌≡◌, ◌≢◌, ◌⊎◌, ◌<◌, ◌≤◌, ℕ, zero, suc, true, false, List, [], Some, slice_get, refl, sym, ap, subst, ◌∙◌, inl, inr, arith}
use Rattle.gptp_lists.specs.Members.{In}
use Rattle.gptp_graph.specs.Distance.{IsDistance}
use Rattle.gptp_graph.specs.Snapshot.{Adjacent, IsLinked, IsWellFormed, Joins, PortIdentity, Snapshot, System, clocks, port_of}
use Rattle.gptp_graph.proofs.BestLemmas.{IsBest-neighbour}
use Rattle.gptp_graph.proofs.DistanceLemmas.{IsDistance-clock, IsDistance-unique, best_at_zero, nearer_neighbour}
use Rattle.gptp_graph.proofs.ExistenceLemmas.{distance_exists}
use Rattle.gptp_graph.proofs.LinkLemmas.{Joins-clock, Joins-sym}
use Rattle.gptp_graph.proofs.PathBoundLemmas.{IsDistance-within}
use Rattle.gptp_graph.proofs.SystemLemmas.{In-clocks, same_clock, system_of}
use Rattle.gptp_bmca_machine.specs.Calm.{Calm}
use Rattle.gptp_bmca_machine.specs.Clean.{CameFits}
use Rattle.gptp_bmca_machine.specs.Facts.{station_system}
use Rattle.gptp_bmca_machine.specs.Frame.{Lane, Spelling}
use Rattle.gptp_bmca_machine.specs.Levels.{Invariant, LeadsFarther, LevelSettles}
use Rattle.gptp_bmca_machine.specs.Link.{Stand}
use Rattle.gptp_bmca_machine.specs.LossLaws.{EverythingFits}
use Rattle.gptp_bmca_machine.specs.Network.{IsSettlingNetwork, Network, settled_from, since, wiring}
use Rattle.gptp_bmca_machine.specs.RestLaws.{SameWiring}
use Rattle.gptp_bmca_machine.specs.Sound.{ReceivedFits, RunIsSound}
use Rattle.gptp_bmca_machine.specs.Station.{Disabled, HoldsAt, MachineState, Port, Received, Reception, Station}
use Rattle.gptp_bmca_machine.proofs.EndsLemmas.{is_station}
use Rattle.gptp_bmca_machine.proofs.LevelLemmas.{places_of, told}
use Rattle.gptp_bmca_machine.proofs.PlaceLemmas.{same_there}
use Rattle.gptp_bmca_machine.proofs.RestingLemmas.{all_choose, by_then_at, links_stay, stays_so}
use Rattle.gptp_settling_time.specs.Losses.{IsUnmoved}
use Rattle.gptp_settling_time.proofs.FitsLemmas.{IsLeftUnmoved, best_before, distance_before, joined_stays, lived}

-- each port of a system is as it was or disabled
pub record IsReducedStation (old s : Station) : Type 0 where
  pub live : s.live ≡ old.live
  pub clock : s.clock ≡ old.clock
  pub ports : (j : ℕ) (q : Port) → slice_get s.ports j ≡ Some q
      → (slice_get old.ports j ≡ Some q) ⊎ (q.held ≡ Disabled)

pub reduced_itself : (s : Station) → IsReducedStation s s
reduced_itself s = record { live = refl; clock = refl; ports = λ j q there. inl there }

-- so it is of each live system, and each lane is as it was, or down and empty
pub record IsReduced (w w' : MachineState) : Type 0 where
  pub time : w'.time ≡ w.time
  pub stations : (i : ℕ) (s : Station) → slice_get w'.stations i ≡ Some s → s.live ≡ true
      → (old : Station) × (slice_get w.stations i ≡ Some old) × IsReducedStation old s
  pub lanes : (j : ℕ) (l : Lane) → slice_get w'.lanes j ≡ Some l
      → (slice_get w.lanes j ≡ Some l) ⊎ ((l.frames ≡ []) × (l.is_up ≡ false))

-- a port that isn't disabled is as it was
kept : (ports : List Port) (j : ℕ) (q : Port) → (slice_get ports j ≡ Some q) ⊎ (q.held ≡ Disabled)
    → q.held ≢ Disabled → slice_get ports j ≡ Some q
kept ports j q (inl before) on = before
kept ports j q (inr off) on = absurd (on off)

-- ---- what fits

module _ (says : Spelling) (g : Snapshot) (n n' : Network) (well : IsWellFormed n.graph) (well' : IsWellFormed n'.graph)
    (left : IsLeftUnmoved n.graph n'.graph) (w w' : MachineState) (less : IsReduced w w') where
  station_fits : ReceivedFits g w → (i : ℕ) (s : Station) (place : ℕ) (r : Reception)
      → ((old : Station) × (slice_get w.stations i ≡ Some old) × IsReducedStation old s) → s.live ≡ true
      → HoldsAt s place r → CameFits g s.clock (suc place) r
  station_fits all i s place r (old, stood, same) live (q, there, holds) = elim (same.ports place q there) [
    | inl before ↦
        subst (λ c. CameFits g c (suc place) r) (sym same.clock)
        (all i old place r stood (sym same.live ∙ live) (q, before, holds))
    | inr off ↦ absurd (let no : Received r ≡ Disabled = sym holds ∙ off in cc)
  ]

  pub fits_reduced : EverythingFits says g n w → EverythingFits says g n' w'
  fits_reduced all = record {
    lanes = λ j l f a at flies said known. elim (less.lanes j l at) [
      | inl stood ↦ all.lanes j l f a stood flies said (lived n.graph n'.graph well well' left l.to.clock known)
      | inr (none, off) ↦ absurd (subst (In f) none flies)
    ];
    stations = λ i s place r at live holds.
        station_fits all.stations i s place r (less.stations i s at live) live holds;
  }

-- ---- links

module _ (says : Spelling) (n n' : Network) (net : IsSettlingNetwork n) (net' : IsSettlingNetwork n')
    (same : SameWiring n n') (left : IsLeftUnmoved n.graph n'.graph) (w w' : MachineState) (less : IsReduced w w')
    (calm : Calm n w) (calm' : Calm n' w') (invariant : Invariant says n w) (late : settled_from n ≤ w.time)
    (sound' : RunIsSound n' w') (capable : (q : PortIdentity) → IsLinked n'.graph q → n'.ready q ≤ w'.time) where
  pub levels_reduced : (d : ℕ) → LevelSettles says n' d w'
  levels_reduced d best v p u q close leads from pv pu l stand ready =
      inr (inr (stays_so says n n' same d best best v p u q refl pv.announce pu.held l.frames
      (links_stay says n net w calm invariant late d best v p u q close before pv pu l stood)))
    where
      back : Joins n'.graph (port_of u (suc q)) (port_of v (suc p))
      back = Joins-sym n'.graph (port_of v (suc p)) (port_of u (suc q)) leads.joins

      known_v : In v (clocks n'.graph)
      known_v = Joins-clock n'.graph (port_of v (suc p)) (port_of u (suc q)) net'.graph leads.joins

      known_u : In u (clocks n'.graph)
      known_u = Joins-clock n'.graph (port_of u (suc q)) (port_of v (suc p)) net'.graph back

      stays_v : IsUnmoved n.graph n'.graph v
      stays_v =
          joined_stays n.graph n'.graph net.graph net'.graph left (port_of v (suc p)) (port_of u (suc q)) leads.joins

      stays_u : IsUnmoved n.graph n'.graph u
      stays_u = joined_stays n.graph n'.graph net.graph net'.graph left (port_of u (suc q)) (port_of v (suc p)) back

      before : LeadsFarther n.graph d best v p u q
      before = record {
        is_best = best_before n.graph n'.graph net.graph net'.graph left v best stays_v leads.is_best;
        here = distance_before n.graph n'.graph net.graph net'.graph left v d stays_v leads.here;
        joins = left.links (port_of v (suc p)) (port_of u (suc q)) leads.joins;
        far = leads.far;
        there = distance_before n.graph n'.graph net.graph net'.graph left u leads.far stays_u leads.there;
        farther = leads.farther;
      }

      hears_on : pu.held ≢ Disabled
      hears_on =
          let (live, clock) = is_station n' net' w' calm' sound' u stand.u known_u stand.hearer in
          let port = (calm'.stations (n'.place u) stand.u stand.hearer live).ports q pu stand.hearer_port in
          port.capable
          (subst (λ c. n'.ready (port_of c (suc q)) ≤ w'.time) (sym clock)
          (capable (port_of u (suc q)) (port_of v (suc p), back)))
          (subst (λ c. IsLinked n'.graph (port_of c (suc q))) (sym clock) (port_of v (suc p), back))

      lane_before : slice_get w.lanes (n.lane (port_of v (suc p))) ≡ Some l
      lane_before = elim (less.lanes (n'.lane (port_of v (suc p))) l stand.lane) [
        | inl was ↦ subst (λ i. slice_get w.lanes i ≡ Some l) (same.lane (port_of v (suc p))) was
        | inr (none, off) ↦
            let has = calm'.lanes (port_of v (suc p)) (port_of u (suc q)) leads.joins in
            let one : l ≡ has.lane =
            same_there w'.lanes (n'.lane (port_of v (suc p))) l has.lane stand.lane has.there in
            absurd (let both : true ≡ false = sym has.is_up ∙ ap (λ (x : Lane). x.is_up) (sym one) ∙ off in cc)
      ]

      stood : Stand (wiring n d best v p u q) w pv pu l
      stood =
          let live_v = (is_station n' net' w' calm' sound' v stand.v known_v stand.teller).0 in
          let live_u = (is_station n' net' w' calm' sound' u stand.u known_u stand.hearer).0 in
          let (old_v, at_v, same_v) = less.stations (n'.place v) stand.v stand.teller live_v in
          let (old_u, at_u, same_u) = less.stations (n'.place u) stand.u stand.hearer live_u in
          record {
            v = old_v;
            u = old_u;
            teller = subst (λ i. slice_get w.stations i ≡ Some old_v) (same.place v) at_v;
            teller_port = kept old_v.ports p pv (same_v.ports p pv stand.teller_port) ready.1;
            hearer = subst (λ i. slice_get w.stations i ≡ Some old_u) (same.place u) at_u;
            hearer_port = kept old_u.ports q pu (same_u.ports q pu stand.hearer_port) hears_on;
            lane = lane_before;
          }

-- ---- what a system holds elsewhere

-- it is its own root, or a port at a link that is left received as much
abbrev pub HoldsAsMuch : Snapshot → Station → Type 0
HoldsAsMuch g s =
    ((s.root ≡ s.identity) × (s.steps ≡ 0))
    ⊎ ((p : ℕ) × (r : Reception) × IsLinked g (port_of s.clock (suc p)) × HoldsAt s p r × (r.said.root ≡ s.root)
    × (suc r.said.steps ≡ s.steps))

-- the second snapshot has systems and links of the first alone
pub record IsLess (g g' : Snapshot) : Type 0 where
  pub systems : (s : System) → In s g'.systems → In s g.systems
  pub links : (p q : PortIdentity) → Joins g' p q → Joins g p q

-- the neighbours that are nearer than the system are unmoved
abbrev pub NearerStay : Snapshot → Snapshot → ℕ → Type 0
NearerStay g g' v = (y e : ℕ) → Adjacent g' v y → IsDistance g' y e → IsDistance g' v (suc e) → IsUnmoved g g' y

module _ (says : Spelling) (n : Network) (net : IsSettlingNetwork n) (w : MachineState) (calm : Calm n w)
    (invariant : Invariant says n w) (late : settled_from n ≤ w.time) (g : Snapshot) (well : IsWellFormed g)
    (left : IsLess n.graph g) (i : ℕ) (s : Station) (at : slice_get w.stations i ≡ Some s) (live : s.live ≡ true)
    (unmoved : IsUnmoved n.graph g s.clock) (beside : NearerStay n.graph g s.clock) where
  at_place : slice_get w.stations (n.place s.clock) ≡ Some s
  at_place = subst (λ k. slice_get w.stations k ≡ Some s) (calm.placed i s at) at

  was_far : (v e : ℕ) → IsUnmoved n.graph g v → IsDistance g v e → IsDistance n.graph v e
  was_far v e stays there =
      let (x, here, clock) = system_of g v (IsDistance-clock g v e well there) in
      let known : In v (clocks n.graph) =
      subst (λ c. In c (clocks n.graph)) clock (In-clocks n.graph x (left.systems x here)) in
      let (f, was) = distance_exists n.graph v net.graph known in
      subst (IsDistance n.graph v) (IsDistance-unique g v f e well (stays.far f was) there) was

  by_now : (e : ℕ) → IsDistance n.graph s.clock e → since n e ≤ w.time
  by_now e here =
      let within = IsDistance-within n.graph n.reach s.clock e net.paths here in
      by_then_at says n net w calm invariant late e within

  -- it is its own root
  itself : IsDistance g s.clock 0 → HoldsAsMuch g s
  itself here =
      let far = was_far s.clock 0 unmoved here in
      let b = far.best in
      let chosen = all_choose says n net w calm invariant late 0 (omega arith) (by_now 0 far) s.clock b s at_place
      far.is_best far in
      let own : b ≡ station_system s =
      same_clock n.graph b (station_system s) net.graph far.is_best.live (calm.facts.stations i s at live).known
      (best_at_zero n.graph s.clock b net.graph far.is_best far) in
      inl (chosen.root ∙ ap (λ (x : System). x.identity) own, chosen.steps)

  -- a neighbour that is nearer tells as much
  module _ (e : ℕ) (close : suc e < 255) (here : IsDistance g s.clock (suc e)) where
    far : IsDistance n.graph s.clock (suc e)
    far = was_far s.clock (suc e) unmoved here

    by_neighbour : ((y : ℕ) × Adjacent g s.clock y × IsDistance g y e) → HoldsAsMuch g s
    by_neighbour (y, (m, k, joins), nearer) = go (places_of g s.clock m y k well joins)
      where
        go : ((p : ℕ) × (q : ℕ) × (m ≡ suc p) × (k ≡ suc q)) → HoldsAsMuch g s
        go (p, q, is_p, is_q) =
            let over : Joins g (port_of s.clock (suc p)) (port_of y (suc q)) =
            subst (λ j. Joins g (port_of s.clock (suc p)) (port_of y j)) is_q
            (subst (λ j. Joins g (port_of s.clock j) (port_of y k)) is_p joins) in
            let was : Joins n.graph (port_of s.clock (suc p)) (port_of y (suc q)) =
            left.links (port_of s.clock (suc p)) (port_of y (suc q)) over in
            let stays : IsUnmoved n.graph g y = beside y e (suc p, suc q, over) nearer here in
            let best = far.best in
            let leads : LeadsFarther n.graph e best y q s.clock p =
            record {
              is_best = IsBest-neighbour n.graph s.clock y best net.graph (suc p, suc q, was) far.is_best;
              here = was_far y e stays nearer;
              joins = Joins-sym n.graph (port_of s.clock (suc p)) (port_of y (suc q)) was;
              far = suc e;
              there = far;
              farther = inl (omega arith);
            } in
            let (r, holds, final) =
            told says n net w calm invariant.sound e best y q s.clock p (omega (arith, close)) leads
            (λ by. all_choose says n net w calm invariant late e (omega (arith, close)) by)
            (invariant.levels e best y q s.clock p (omega (arith, close)) leads) (by_now (suc e) far) s at_place in
            let chosen = all_choose says n net w calm invariant late (suc e) close (by_now (suc e) far) s.clock best s
            at_place far.is_best far in
            inr (
              p,
              r,
              (port_of y (suc q), over),
              holds,
              final.root ∙ sym chosen.root,
              ap suc final.steps ∙ sym chosen.steps,
            )

    nearer_holds : HoldsAsMuch g s
    nearer_holds = by_neighbour (nearer_neighbour g s.clock e well here)

  pub holds_as_much : (d : ℕ) → d < 255 → IsDistance g s.clock d → HoldsAsMuch g s
  holds_as_much zero close here = itself here
  holds_as_much (suc e) close here = nearer_holds e close here

-- What stands in a calm state: the systems of the snapshot, their ports, and the lanes of its links.
use Rattle.std.proofs.Common.{◌≡◌, ◌≢◌, ◌⊎◌, ◌≤◌, ◌+◌, ℕ, suc, true, List, Some, slice_get, sym, ap, subst, ◌∙◌, inl, inr, arith}
use Rattle.gptp_lists.specs.Members.{In}
use Rattle.gptp_lists.proofs.PlaceLemmas.{member_there}
use Rattle.gptp_graph.specs.Snapshot.{IsLinked, IsWellFormed, Joins, PortIdentity, System, clocks, port_of}
use Rattle.gptp_graph.proofs.LinkLemmas.{Joins-clock, Joins-sym}
use Rattle.gptp_graph.proofs.SystemLemmas.{same_clock, system_of}
use Rattle.gptp_bmca_machine.specs.Facts.{station_system}
use Rattle.gptp_bmca_machine.specs.Frame.{AnnounceFrame, Lane, Spelling}
use Rattle.gptp_bmca_machine.specs.LossLaws.{IsAfterLoss}
use Rattle.gptp_bmca_machine.specs.Network.{Network}
use Rattle.gptp_bmca_machine.specs.Station.{Disabled, Held, MachineState, Port, Station}
use Rattle.gptp_bmca_machine.proofs.LinkStepLemmas.{AtLink, lives_at}
use Rattle.gptp_bmca_machine.proofs.PlaceLemmas.{same_there}

module _ (n : Network) (wf : IsWellFormed n.graph) (w : MachineState) (kept : IsAfterLoss n w) where
  pub stands_there : (v : ℕ) → In v (clocks n.graph)
      → (s : Station) × (slice_get w.stations (n.place v) ≡ Some s)
  stands_there v known =
      let (x, live, clock) = system_of n.graph v known in
      let has = kept.calm.there x live in (
        has.station,
        subst (λ c. slice_get w.stations (n.place c) ≡ Some has.station) clock has.there,
      )

  pub port_stands : (v p : ℕ) (to : PortIdentity) (s : Station) → slice_get w.stations (n.place v) ≡ Some s
      → Joins n.graph (port_of v (suc p)) to → (q : Port) × (slice_get s.ports p ≡ Some q)
  port_stands v p to s at joins =
      let known = Joins-clock n.graph (port_of v (suc p)) to wf joins in
      let (live, clock) = lives_at n w kept.calm v known s at in
      let (x, in_x, is_port) = wf.ends (port_of v (suc p)) to joins in
      let same : x ≡ station_system s =
      same_clock n.graph x (station_system s) wf in_x (kept.calm.facts.stations (n.place v) s at live).known
      (is_port.clock ∙ sym clock) in
      member_there s.ports p (subst (λ (y : System). suc p ≤ y.ports) same is_port.last)

  pub port_on : (v p : ℕ) (to : PortIdentity) (s : Station) (q : Port) → slice_get w.stations (n.place v) ≡ Some s
      → slice_get s.ports p ≡ Some q → Joins n.graph (port_of v (suc p)) to → q.held ≢ Disabled
  port_on v p to s q at there joins =
      let known = Joins-clock n.graph (port_of v (suc p)) to wf joins in
      let (live, clock) = lives_at n w kept.calm v known s at in
      let linked : IsLinked n.graph (port_of s.clock (suc p)) =
      subst (λ x. IsLinked n.graph (port_of x (suc p))) (sym clock) (to, joins) in
      ((kept.calm.stations (n.place v) s at live).ports p q there).capable
      (kept.capable (port_of s.clock (suc p)) linked) linked

  -- where the lane of a link leads
  pub lane_is : (v p u q : ℕ) → Joins n.graph (port_of v (suc p)) (port_of u (suc q)) → (l : Lane)
      → slice_get w.lanes (n.lane (port_of v (suc p))) ≡ Some l
      → (l.from ≡ port_of v (suc p)) × (l.to ≡ port_of u (suc q)) × (l.loss ≡ 0) × (l.is_up ≡ true)
  lane_is v p u q joins l at =
      let has = kept.calm.lanes (port_of v (suc p)) (port_of u (suc q)) joins in
      let same = same_there w.lanes (n.lane (port_of v (suc p))) has.lane l has.there at in (
        ap (λ (x : Lane). x.from) (sym same) ∙ has.from,
        ap (λ (x : Lane). x.to) (sym same) ∙ has.to,
        ap (λ (x : Lane). x.loss) (sym same) ∙ has.loss,
        ap (λ (x : Lane). x.is_up) (sym same) ∙ has.is_up,
      )

  pub due_by : (v p u q : ℕ) → Joins n.graph (port_of v (suc p)) (port_of u (suc q)) → (l : Lane)
      (f : AnnounceFrame) → slice_get w.lanes (n.lane (port_of v (suc p))) ≡ Some l → In f l.frames
      → f.due ≤ w.time + n.most
  due_by v p u q joins l f at among =
      let (from, to, loss, up) = lane_is v p u q joins l at in
      elim (kept.calm.facts.fresh (n.lane (port_of v (suc p))) l f at among
      (subst (λ x. Joins n.graph x l.to) (sym from) (subst (Joins n.graph (port_of v (suc p))) (sym to) joins))) [
        | inl soon ↦ soon
        | inr early ↦ let begun = kept.begun in omega (arith, early, begun)
      ]

  -- what is so or else so of a link is the one or the other
  pub at_either : (says : Spelling) (v p u q : ℕ) → Joins n.graph (port_of v (suc p)) (port_of u (suc q))
      → (A B : Held → List AnnounceFrame → Type 0) → AtLink says n v p u q (λ held fs. A held fs ⊎ B held fs) w
      → AtLink says n v p u q A w ⊎ AtLink says n v p u q B w
  at_either says v p u q joins A B is =
      let back = Joins-sym n.graph (port_of v (suc p)) (port_of u (suc q)) joins in
      let (s, at) = stands_there u (Joins-clock n.graph (port_of u (suc q)) (port_of v (suc p)) wf back) in
      let (pu, there) = port_stands u q (port_of v (suc p)) s at back in
      let has = kept.calm.lanes (port_of v (suc p)) (port_of u (suc q)) joins in
      elim (is s pu has.lane at there has.there) [
        | inl a ↦ inl (one s pu has.lane at there has.there A a)
        | inr b ↦ inr (one s pu has.lane at there has.there B b)
      ]
    where
      one : (s : Station) (pu : Port) (l : Lane) → slice_get w.stations (n.place u) ≡ Some s
          → slice_get s.ports q ≡ Some pu → slice_get w.lanes (n.lane (port_of v (suc p))) ≡ Some l
          → (P : Held → List AnnounceFrame → Type 0) → P pu.held l.frames → AtLink says n v p u q P w
      one s pu l at there lane P is s2 pu2 l2 at2 there2 lane2 =
          let same = same_there w.stations (n.place u) s s2 at at2 in
          let port = same_there s2.ports q pu pu2
          (subst (λ (z : Station). slice_get z.ports q ≡ Some pu) same there) there2 in
          let same_lane = same_there w.lanes (n.lane (port_of v (suc p))) l l2 lane lane2 in
          subst (λ (z : Lane). P pu2.held z.frames) same_lane
          (subst (λ (z : Port). P z.held l.frames) port is)

-- A system of a network at rest fails, which moves trees: they begin to fall back. Nobody answers yet. The top of each
-- holds what the failed system told, until that ages, or its port isn't capable any more.
use Rattle.std.proofs.Common.{◌≡◌, ◌⊎◌, ◌≤◌, ◌+◌, ◌∙◌, ℕ, suc, Some, slice_get, ap, subst, sym, inl, inr}
use Rattle.gptp_lists.specs.Members.{In}
use Rattle.gptp_graph.proofs.LinkLemmas.{Adjacent-clock, Joins-sym}
use Rattle.gptp_graph.specs.Snapshot.{Joins, PortIdentity, Snapshot, System, clocks, port_of}
use Rattle.gptp_bmca_machine.specs.Clean.{Whole}
use Rattle.gptp_bmca_machine.specs.CutTree.{CutsOff}
use Rattle.gptp_bmca_machine.specs.Frame.{Announce, AnnounceFrame, Lane, Spelling}
use Rattle.gptp_bmca_machine.specs.LossLaws.{IsLoss}
use Rattle.gptp_bmca_machine.specs.Network.{IsSettlingNetwork, Network}
use Rattle.gptp_bmca_machine.specs.Station.{MachineState, Station}
use Rattle.gptp_bmca_machine.proofs.CutTreeLemmas.{IsCutOff, LeadsNowhere, moves_off, off_whole}
use Rattle.gptp_bmca_machine.proofs.MovedTreeLemmas.{LeadsDown, MovesTree}
use Rattle.gptp_bmca_machine.proofs.FallLemmas.{IsAftermath, IsFalling, IsFreeAt, IsLed, IsOld}
use Rattle.gptp_bmca_machine.proofs.FallLevelLemmas.{TreeSettles, not_ready}
use Rattle.gptp_bmca_machine.proofs.FallRestLemmas.{chosen, held_before, stays0}
use Rattle.gptp_bmca_machine.proofs.LinkStepLemmas.{lives_at}
use Rattle.gptp_bmca_machine.proofs.PlaceLemmas.{same_there}

module _ (says : Spelling) (n0 n : Network) (net0 : IsSettlingNetwork n0) (w w' : MachineState)
    (loss : IsLoss says n0 n w w') (m' : IsAftermath says n0.graph n w') where
  abbrev g : Snapshot
  g = n0.graph

  -- ---- a tree that is moved

  module _ (Tree : ℕ → Type 0) (Out : ℕ → ℕ → Type 0) (top : ℕ) (best next : System) (base : ℕ) (depth : ℕ → ℕ)
      (t : MovesTree g n Tree Out top best next base depth) where
    -- each live system stands as it did
    stood : (x : ℕ) → In x (clocks n.graph) → (s : Station) → slice_get w'.stations (n.place x) ≡ Some s
        → slice_get w.stations (n.place x) ≡ Some s
    stood x known s at = loss.stations (n.place x) s at (lives_at n w' m'.kept.calm x known s at).0

    stood_lane : (v p u q : ℕ) → Joins n.graph (port_of v (suc p)) (port_of u (suc q)) → (l : Lane)
        → slice_get w'.lanes (n.lane (port_of v (suc p))) ≡ Some l
        → slice_get w.lanes (n.lane (port_of v (suc p))) ≡ Some l
    stood_lane v p u q joins l there =
        subst (λ i. slice_get w.lanes i ≡ Some l) (sym (loss.same.lane (port_of v (suc p))))
        (loss.lanes (port_of v (suc p)) (port_of u (suc q)) l joins
        (subst (λ i. slice_get w'.lanes i ≡ Some l) (loss.same.lane (port_of v (suc p))) there))

    pub root_still : (v : ℕ) → Tree v → IsOld n w' v best (base + depth v)
    root_still v in_v s at =
        let chose = chosen says n0 n Tree Out top best next base depth t net0 w loss.rests.calm loss.rests.invariant
        loss.rests.late loss.same v in_v s (stood v (t.lives v in_v) s at) in
        (chose.root, chose.steps)

    down_led : (v p u q : ℕ) → Tree v → Joins n.graph (port_of v (suc p)) (port_of u (suc q))
        → LeadsDown g Tree Out base depth v u → IsLed says n best (base + depth v) v p u q w'
    down_led v p u q in_v joins down = (
      root_still v in_v,
      (λ pv pu l stand.
          stays0 says n0 n Tree Out top best next base depth t net0 w loss.rests.calm loss.rests.invariant
          loss.rests.late loss.same v p u q in_v joins down pv pu l (record {
            v = stand.v;
            u = stand.u;
            teller = stood v (t.lives v in_v) stand.v stand.teller;
            teller_port = stand.teller_port;
            hearer = stood u (Adjacent-clock n.graph v u t.well (suc p, suc q, joins)) stand.u stand.hearer;
            hearer_port = stand.hearer_port;
            lane = stood_lane v p u q joins l stand.lane;
          })),
    )

    -- what is on its way over a link is wholly clean
    pub flown : (v p u q : ℕ) → Joins n.graph (port_of v (suc p)) (port_of u (suc q)) → (l : Lane)
        → slice_get w'.lanes (n.lane (port_of v (suc p))) ≡ Some l → (f : AnnounceFrame) (a : Announce)
        → In f l.frames → says f.octets a → Whole g v a
    flown v p u q joins l lane f a among said =
        let has = m'.kept.calm.lanes (port_of v (suc p)) (port_of u (suc q)) joins in
        let one = same_there w'.lanes (n.lane (port_of v (suc p))) has.lane l has.there lane in
        let from : l.from ≡ port_of v (suc p) = ap (λ (y : Lane). y.from) (sym one) ∙ has.from in
        let to : l.to ≡ port_of u (suc q) = ap (λ (y : Lane). y.to) (sym one) ∙ has.to in
        let before = t.left.links (port_of v (suc p)) (port_of u (suc q)) joins in
        let came = loss.rests.whole.lanes (n.lane (port_of v (suc p))) l f a (stood_lane v p u q joins l lane) among
        said (subst (λ k. Joins g k l.to) (sym from) (subst (Joins g (port_of v (suc p))) (sym to) before)) in
        subst (λ (k : PortIdentity). Whole g k.clock a) from came.whole

    module _ (came : (v p u q : ℕ) → Tree v → Tree u → Joins n.graph (port_of v (suc p)) (port_of u (suc q))
        → depth v ≡ suc (depth u) → (l : Lane) → slice_get w'.lanes (n.lane (port_of v (suc p))) ≡ Some l
        → (f : AnnounceFrame) (a : Announce) → In f l.frames → says f.octets a → Whole t.ways v a ⊎ In u a.path)
        (inward : (v p u q : ℕ) → Out u v → Joins n.graph (port_of v (suc p)) (port_of u (suc q))
        → IsFreeAt says t.ways n v p u q w') where
      up_free : (v p u q : ℕ) → Tree v → Tree u → Joins n.graph (port_of v (suc p)) (port_of u (suc q))
          → depth v ≡ suc (depth u) → IsFreeAt says t.ways n v p u q w'
      up_free v p u q in_v in_u joins higher s pu l at there lane = record {
        hears = λ r holds.
            absurd (held_before says n0 n Tree Out top best next base depth t net0 w loss.rests.calm
            loss.rests.invariant loss.rests.late loss.same v p u q in_v in_u joins higher s pu r
            (stood u (t.lives u in_u) s at) there holds);
        flight = λ f a among said. came v p u q in_v in_u joins higher l lane f a among said;
      }

      pub moving_begins : (start : ℕ) → w'.time ≤ start
          → IsFalling says g n Tree Out top best next base depth t start w'
      moving_begins start now = record {
        sooner = λ in_tree old. now;
        down = λ v p u q in_v joins down. inl (down_led v p u q in_v joins down);
        up = λ v p u q in_u joins beyond. elim beyond [
          | inl (in_v, higher) ↦ up_free v p u q in_v in_u joins higher
          | inr out ↦ inward v p u q out joins
        ];
      }

    -- nobody of the tree has settled yet
    pub moving_settles : (start : ℕ) (before : ℕ → ℕ) → ((f : ℕ) → n.most ≤ before f)
        → TreeSettles says g n Tree Out top best next base depth t start before w'
    moving_settles start before delay f v p u q close in_v in_u leads =
        not_ready says g n Tree Out top best next base depth t start before f v p u q close in_v in_u leads (delay f)
        w' (root_still v in_v)

  -- ---- one that is cut off

  module _ (top : ℕ) (best next : System) (base : ℕ) (depth : ℕ → ℕ) (t : CutsOff g n top best next base depth)
    where
      abbrev moved : MovesTree g n (IsCutOff n next) LeadsNowhere top best next base depth
      moved = moves_off g n top best next base depth t

      pub failing_begins : (start : ℕ) → w'.time ≤ start
          → IsFalling says g n (IsCutOff n next) LeadsNowhere top best next base depth moved start w'
      failing_begins =
          moving_begins (IsCutOff n next) LeadsNowhere top best next base depth moved
          (λ v p u q in_v in_u joins higher l lane f a among said.
          off_whole g n top best next base depth t v u a in_v in_u
          (suc q, suc p, Joins-sym n.graph (port_of v (suc p)) (port_of u (suc q)) joins) higher
          (flown (IsCutOff n next) LeadsNowhere top best next base depth moved v p u q joins l lane f a among said))
          (λ v p u q none. absurd none)

      pub failing_settles : (start : ℕ) (before : ℕ → ℕ) → ((f : ℕ) → n.most ≤ before f)
          → TreeSettles says g n (IsCutOff n next) LeadsNowhere top best next base depth moved start before w'
      failing_settles = moving_settles (IsCutOff n next) LeadsNowhere top best next base depth moved

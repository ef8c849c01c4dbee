-- A tree that falls back: what each of its systems holds, by the links that lead to it; so none has its old choice for
-- longer than a way.
use Rattle.std.proofs.Common.{◌≡◌, ◌⊎◌, ◌≤◌, ◌+◌, ℕ, zero, suc, true, Some, slice_get, sym, ap, subst, ◌∙◌, inl, inr, arith}
use Rattle.gptp_graph.specs.Distance.{IsDistance}
use Rattle.gptp_graph.specs.Snapshot.{Adjacent, IsLinked, Joins, PortIdentity, Snapshot, System, port_of}
use Rattle.gptp_graph.proofs.LinkDecisions.{IsLinked-dec}
use Rattle.gptp_graph.proofs.LinkLemmas.{Joins-sym}
use Rattle.gptp_bmca_machine.specs.Clean.{Whole}
use Rattle.gptp_bmca_machine.specs.Frame.{Lane, Spelling}
use Rattle.gptp_bmca_machine.specs.Network.{Network}
use Rattle.gptp_bmca_machine.specs.Station.{MachineState, Reception, Station}
use Rattle.gptp_bmca_machine.proofs.MovedTreeLemmas.{IsBeyond, MovesTree, child_leads}
use Rattle.gptp_bmca_machine.proofs.LevelLemmas.{places_of}
use Rattle.gptp_bmca_machine.proofs.LinkEndsLemmas.{source_at}
use Rattle.gptp_bmca_machine.proofs.PlaceLemmas.{received_injective}
use Rattle.gptp_bmca_machine.proofs.StillLemmas.{port_there, station_of, still}
use Rattle.gptp_bmca_machine.proofs.ToldLemmas.{told_due}
use Rattle.gptp_bmca_machine.proofs.UnlinkedLemmas.{IsMoved}
use Rattle.gptp_bmca_machine.proofs.FallLemmas.{FollowsOld, HasTold, HeldInTree, HeldOverLink, HoldsInTree, IsFalling, IsToldByNearer, DownStage, HoldsLeft, IsAftermath, IsNewTold, IsOld, falls_by, follows_old, is_moved, is_x, not_free_old, told_nearer, was_best}

module _ (says : Spelling) (g : Snapshot) (n : Network) (Tree : ℕ → Type 0) (Out : ℕ → ℕ → Type 0) (top : ℕ)
    (best next : System) (base : ℕ) (depth : ℕ → ℕ) (t : MovesTree g n Tree Out top best next base depth) (start : ℕ)
  where
    module _ (w : MachineState) (m : IsAftermath says g n w) where
      -- the lane of a link
      lane_there : (v p u q : ℕ) → Joins n.graph (port_of v (suc p)) (port_of u (suc q))
          → (l : Lane) × (slice_get w.lanes (n.lane (port_of v (suc p))) ≡ Some l)
      lane_there v p u q joins =
          let has = m.kept.calm.lanes (port_of v (suc p)) (port_of u (suc q)) joins in (has.lane, has.there)

      -- what a system of the tree holds, by the links that lead to it
      pub holds_by : (x : ℕ) → Tree x
          → ((v p i : ℕ) → Tree v → Joins n.graph (port_of v (suc p)) (port_of x (suc i)) → depth x ≡ suc (depth v)
          → DownStage says t.ways n best (base + depth v) (falls_by n start (suc (depth v))) v p x i w)
          → ((v p i : ℕ) → Joins n.graph (port_of v (suc p)) (port_of x (suc i)) → IsBeyond Tree Out depth x v
          → HoldsLeft says t.ways n v p x i w) → HoldsInTree says g n Tree Out top best next base depth t start x w
      holds_by x in_x down up s i r at (q, there, holds) = by_link (IsLinked-dec n.graph (port_of s.clock (suc i)))
        where
          is : (s.live ≡ true) × (s.clock ≡ x)
          is = is_x says g n Tree Out top best next base depth t start w m x in_x s at

          by_link : Dec ((to : PortIdentity) × Joins n.graph (port_of s.clock (suc i)) to) → HeldInTree says g n Tree
              Out top best next base depth t start x i r
          by_link (no none) =
              let h = m.dark (n.place x) s i r at is.0 (subst (IsMoved g n) (sym is.1) (is_moved says g n Tree Out top
              best next base depth t start x in_x))
              (q, there, holds) none in
              let (root, steps) = h.old best (base + depth x) (was_best says g n Tree Out top best next base depth t
              start w m x in_x s at)
              (subst (λ c. IsDistance g c (base + depth x)) (sym is.1) (t.was x in_x)) in
              inr (record {
                is_top = elim (t.lost x h.from in_x (subst (λ c. Adjacent g c h.from) is.1 h.beside)) [
                  | inr top_is ↦ top_is
                  | inl stays ↦ absurd (h.gone (subst (λ c. Adjacent n.graph c h.from) (sym is.1) stays))
                ];
                bare = subst (λ c. IsLinked n.graph (port_of c (suc i)) → ⊥) is.1 none;
                root = root;
                steps = steps;
              })
          by_link (yes (to, joined)) =
              let here = subst (λ c. Joins n.graph (port_of c (suc i)) to) is.1 joined in
              inl (over to here (places_of n.graph x (suc i) to.clock to.port t.well here))
            where
              over : (to : PortIdentity) → Joins n.graph (port_of x (suc i)) to
                  → ((a : ℕ) × (p : ℕ) × (suc i ≡ suc a) × (to.port ≡ suc p)) → HeldOverLink says g n Tree Out top best
                  next base depth t start x i r
              over to here (a, p, first, second) = record {
                v = to.clock;
                p = p;
                joins = joins;
                source = source_at g n t.well t.left n.most 0 best to.clock p x i joins (omega arith) w m.kept
                    m.fits.stations s q r at there holds;
                said = elim (t.beside x to.clock in_x (suc i, to.port, here)) [
                  | inr leads ↦ inl (from_beyond (inr leads))
                  | inl in_v ↦ elim (t.steps x to.clock in_x in_v (suc i, to.port, here)) [
                    | inl child ↦ inl (from_beyond (inl (in_v, child)))
                    | inr deeper ↦ by_stage in_v deeper (down to.clock p i in_v joins deeper)
                  ]
                ];
              }
                where
                  joins : Joins n.graph (port_of to.clock (suc p)) (port_of x (suc i))
                  joins =
                      Joins-sym n.graph (port_of x (suc i)) (port_of to.clock (suc p))
                      (subst (λ k. Joins n.graph (port_of x (suc i)) (port_of to.clock k)) second here)

                  lane : (l : Lane) × (slice_get w.lanes (n.lane (port_of to.clock (suc p))) ≡ Some l)
                  lane = lane_there to.clock p x i joins

                  from_beyond : IsBeyond Tree Out depth x to.clock → Whole t.ways to.clock r.said
                  from_beyond beyond = up to.clock p i joins beyond s q lane.0 at there lane.1 r holds

                  by_stage : Tree to.clock → depth x ≡ suc (depth to.clock)
                      → DownStage says t.ways n best (base + depth to.clock) (falls_by n start (suc (depth to.clock)))
                      to.clock
                      p
                      x i w
                      → Whole t.ways to.clock r.said
                      ⊎ (Tree to.clock × (depth x ≡ suc (depth to.clock)) × HasTold says g n Tree Out top best next base
                      depth t start r.said (base + depth to.clock))
                  by_stage in_v deeper (inl (old, stays)) =
                      let (sv, at_v, live, clock) = station_of g n t.well t.left w m.kept m.fits.stations to.clock
                      (t.lives to.clock in_v) in
                      let (pv, there_v) = port_there g n t.well t.left w m.kept m.fits.stations to.clock p
                      (port_of x (suc i)) sv at_v joins in
                      let stay = stays pv q lane.0 (record {
                        v = sv;
                        u = s;
                        teller = at_v;
                        teller_port = there_v;
                        hearer = at;
                        hearer_port = there;
                        lane = lane.1;
                      }) in
                      let one = received_injective r stay.what (sym holds ∙ stay.holds) in
                      inr (
                        in_v,
                        deeper,
                        (
                          ap (λ (z : Reception). z.said.root) one ∙ stay.final.root,
                          ap (λ (z : Reception). z.said.steps) one ∙ stay.final.steps,
                        ),
                      )
                  by_stage in_v deeper (inr (inl (not, told))) =
                      let old = told s q lane.0 at there lane.1 in
                      let one = received_injective r old.r (sym holds ∙ old.holds) in
                      inr (
                        in_v,
                        deeper,
                        (
                          ap (λ (z : Reception). z.said.root) one ∙ old.final.root,
                          ap (λ (z : Reception). z.said.steps) one ∙ old.final.steps,
                        ),
                      )
                  by_stage in_v deeper (inr (inr (not, free))) = inl ((free s q lane.0 at there lane.1).hears r holds)

      module _ (falling : IsFalling says g n Tree Out top best next base depth t start w) where
        pub holds_in_tree : (x : ℕ) → Tree x → HoldsInTree says g n Tree Out top best next base depth t start x w
        holds_in_tree x in_x =
            holds_by x in_x (λ v p i in_v joins deeper. falling.down v p x i in_v joins (child_leads g n Tree Out top
            best
            next base depth t v x in_x deeper))
            (λ v p i joins beyond s pu l at there at_l. (falling.up v p x i in_x joins beyond s pu l at there
            at_l).hears)

        -- who has its old choice has it for a way at most
        pub old_in_time : (d x : ℕ) → depth x ≡ d → Tree x → IsOld n w x best (base + depth x)
            → w.time ≤ falls_by n start d
        old_in_time zero x deep in_x root = here (station_of g n t.well t.left w m.kept m.fits.stations x (t.lives x
            in_x))
          where
            here : ((s : Station) × (slice_get w.stations (n.place x) ≡ Some s) × (s.live ≡ true) × (s.clock ≡ x))
                → w.time ≤ falls_by n start 0
            here (s, at, live, clock) =
                elim (follows_old says g n Tree Out top best next base depth t start w m x in_x s at (holds_in_tree x
                in_x) (root s at)).told [
                  | inl above ↦ let deeper = above.deeper in absurd (omega (arith, deeper, deep))
                  | inr lost ↦
                      let by = falling.sooner (subst Tree lost.is_top in_x)
                      (subst (λ c. IsOld n w c best (base + depth c)) lost.is_top root) in
                      omega (arith, by)
                ]
        old_in_time (suc d) x deep in_x root =
            go (λ v up in_v root_v. old_in_time d v up in_v root_v)
            (station_of g n t.well t.left w m.kept m.fits.stations x (t.lives x in_x))
          where
            go : ((v : ℕ) → depth v ≡ d → Tree v → IsOld n w v best (base + depth v) → w.time ≤ falls_by n start d)
                → ((s : Station) × (slice_get w.stations (n.place x) ≡ Some s) × (s.live ≡ true) × (s.clock ≡ x))
                → w.time ≤ falls_by n start (suc d)
            go sooner (s, at, live, clock) = over (told_nearer says g n Tree Out top best next base depth t start x
                old.i d old.r deep old.told)
              where
                old : FollowsOld says g n Tree Out top best next base depth t start w m x in_x s at (holds_in_tree x
                    in_x)
                old = follows_old says g n Tree Out top best next base depth t start w m x in_x s at (holds_in_tree x
                    in_x) (root s at)

                over : IsToldByNearer says g n Tree Out top best next base depth t start x old.i old.r → w.time ≤
                    falls_by n start (suc d)
                over a =
                    by (falling.down a.v a.p x old.i a.in_v a.joins
                    (child_leads g n Tree Out top best next base depth t a.v x in_x a.deeper))
                  where
                    up : depth a.v ≡ d
                    up = let deeper = a.deeper in omega (arith, deeper, deep)

                    lane : (l : Lane) × (slice_get w.lanes (n.lane (port_of a.v (suc a.p))) ≡ Some l)
                    lane = lane_there a.v a.p x old.i a.joins

                    by : DownStage says t.ways n best (base + depth a.v) (falls_by n start (suc (depth a.v))) a.v a.p
                        x old.i w
                        → w.time ≤ falls_by n start (suc d)
                    by (inl (root_v, stays)) =
                        let before : w.time ≤ falls_by n start d = sooner a.v up a.in_v root_v in
                        omega (arith, before)
                    by (inr (inl (not, told))) =
                        let left = told s old.holds.0 lane.0 at old.holds.1 lane.1 in
                        let (h, among, said, due) = told_due says (still n (base + depth a.v) best a.v a.p x old.i)
                        (IsNewTold t.ways (port_of a.v (suc a.p)) x) (falls_by n start (suc (depth a.v))) lane.0.frames
                        left.told in
                        let now = m.kept.calm.left (n.lane (port_of a.v (suc a.p))) lane.0 h lane.1 among in
                        let late : h.due ≤ falls_by n start (suc d) =
                        subst (λ k. h.due ≤ falls_by n start (suc k)) up due in
                        omega (arith, now, late)
                    by (inr (inr (not, free))) =
                        let whole = (free s old.holds.0 lane.0 at old.holds.1 lane.1).hears old.r old.holds.2 in
                        absurd (not_free_old says g n Tree Out top best next base depth t start a.v x a.p old.i
                        old.r.said in_x a.joins whole a.deeper a.told)

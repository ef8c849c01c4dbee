-- A tree in which the root of before is still told, until its tops let it go: it is told for a way longer at most, and
-- then all that the systems of the tree hold is of what is left.
use Rattle.std.proofs.Common.{◌≡◌, ◌≢◌, ◌⊎◌, ◌<◌, ◌≤◌, ℕ, zero, suc, Some, slice_get, sym, subst, inl, inr, arith}
use native.Mathlib.Decide.{dec_le}
use Rattle.gptp_graph.specs.Snapshot.{System, port_of, Joins, IsLinked}
use Rattle.gptp_graph.proofs.LinkLemmas.{Joins-sym}
use Rattle.gptp_bmca_machine.specs.Acts.{MachineSteps}
use Rattle.gptp_bmca_machine.specs.Clean.{CameFits}
use Rattle.gptp_bmca_machine.specs.Frame.{Lane, Spelling}
use Rattle.gptp_bmca_machine.specs.LossLaws.{IsAfterLoss}
use Rattle.gptp_bmca_machine.specs.Network.{Network}
use Rattle.gptp_bmca_machine.specs.Station.{HoldsAt, MachineState, Port, Reception, Station}
use Rattle.gptp_bmca_machine.specs.TwoTops.{Side, First, Second, IsTreeOfTops}
use Rattle.gptp_bmca_machine.proofs.FallLemmas.{IsFreeAt, IsNewTold, falls_by}
use Rattle.gptp_bmca_machine.proofs.NearestLemmas.{came_fits}
use Rattle.gptp_bmca_machine.proofs.StandsLemmas.{port_stands, stands_there}
use Rattle.gptp_bmca_machine.proofs.StaleLemmas.{BareHoldStale, FollowsStale, HeldOver, HoldsMixed, follows_other, follows_stale, held_over, is_x, stale_down, whole_worse}
use Rattle.gptp_bmca_machine.proofs.StaleLeaveLemmas.{stage_kept}
use Rattle.gptp_bmca_machine.proofs.StaleStepLemmas.{AllMixed, IsOrdered, IsStage, IsTelling, mixed_kept, withdraws_due}
use Rattle.gptp_bmca_machine.proofs.TwoTopsLemmas.{IsDeeper, Tree, beside}

module _ (says : Spelling) (n : Network) (next : System) (top : Side → ℕ) (depth : Side → ℕ → ℕ)
    (t : IsTreeOfTops n next top depth) (old base : ℕ) (worse : old < next.identity) (start : ℕ) where
  -- whatever a top leads to over this link is at most so deep before it
  abbrev pub IsLimit : ℕ → ℕ → ℕ → Type 0
  IsLimit v u d = (side : Side) → IsDeeper depth side v u → depth side v ≤ d

  -- once that time is over nothing is held at ports without a link
  abbrev pub BareHoldNone : MachineState → Type 0
  BareHoldNone w = start < w.time → (x : ℕ) (s : Station) (i : ℕ) (r : Reception) → Tree n next top depth t x
      → slice_get w.stations (n.place x) ≡ Some s → HoldsAt s i r
      → (IsLinked n.graph (port_of x (suc i)) → ⊥) → ⊥

  -- each link that leads down from a top is at a stage
  abbrev pub AllStages : MachineState → Type 0
  AllStages w = (v p u q d : ℕ) (side : Side) → Tree n next top depth t v
      → Joins n.graph (port_of v (suc p)) (port_of u (suc q)) → IsDeeper depth side v u → IsLimit v u d
      → IsStage says n next top depth t old base worse v p u q (falls_by n start (suc d)) w

  -- What is known of each state since: what is held at ports without a link is stale, and gone once that time is over;
  -- what links carry is of what is left, or stale; and each is at a stage.
  pub record IsStaleState (w : MachineState) : Type 0 where
    pub kept : IsAfterLoss n w
    pub dark : BareHoldStale says n next top depth t old base worse w
    pub gone : BareHoldNone w
    pub mixed : AllMixed says n next top depth t old base worse w
    pub stages : AllStages w

  module _ (w : MachineState) (m : IsStaleState w) where
    over : (x v p i : ℕ) → Tree n next top depth t x → Joins n.graph (port_of v (suc p)) (port_of x (suc i))
        → HoldsMixed says n next top depth t old base worse v p x i w
    over x v p i in_x joins s pu l at there lane r holds =
        let in_v = beside n next top depth t x v in_x
        (suc i, suc p, Joins-sym n.graph (port_of v (suc p)) (port_of x (suc i)) joins) in
        let is = m.mixed v p x i in_v joins s pu l at there lane in
        (is.source r holds, is.hears r holds)

    -- what a system follows that is stale
    abbrev Follows : (v : ℕ) → Tree n next top depth t v → (s : Station)
        → slice_get w.stations (n.place v) ≡ Some s → Type 0
    Follows v in_v s at =
        FollowsStale says n next top depth t old base worse w m.kept m.dark v in_v
        (λ a b i. over v a b i in_v) s at

    -- Who tells what is stale holds it: at a top, until that time; or from one above, which tells it, or told by then
    -- what isn't.
    record IsToldBefore (d v : ℕ) : Type 0 where
      e : ℕ
      is : d ≡ suc e
      told : (w.time ≤ falls_by n start d) ⊎ ((z b i : ℕ) × Tree n next top depth t z
          × Joins n.graph (port_of z (suc b)) (port_of v (suc i)) × IsLimit z v e
          × IsTelling says n next top depth t old base worse z b w)

    less_one : (d : ℕ) → 1 ≤ d → (e : ℕ) × (d ≡ suc e)
    less_one zero none = absurd (omega (arith, none))
    less_one (suc e) some = (e, (λ i. suc e))

    told_before : (d v p u q : ℕ) → Tree n next top depth t v
        → Joins n.graph (port_of v (suc p)) (port_of u (suc q)) → IsLimit v u d
        → IsTelling says n next top depth t old base worse v p w → (w.time ≤ start) ⊎ IsToldBefore d v
    told_before d v p u q in_v joins limit tells = by (stands_there n t.well w m.kept v
        in_v.reached.1.begins)
      where
        by : ((s : Station) × (slice_get w.stations (n.place v) ≡ Some s)) → (w.time ≤ start) ⊎ IsToldBefore d v
        by (s, at) =
            by_port (port_stands n t.well w m.kept v p (port_of u (suc q)) s at joins)
          where
            by_port : ((q : Port) × (slice_get s.ports p ≡ Some q)) → (w.time ≤ start) ⊎ IsToldBefore d v
            by_port (pv, there) = elim stale.from [
              | inr (is_top, bare) ↦ elim (dec_le w.time start) [
                | yes early ↦ inl early
                | no late ↦ absurd (m.gone (omega (arith, late)) v s stale.i stale.r in_v at stale.holds bare)
              ]
              | inl (h, down, is_old) ↦ inr (above h down is_old)
            ]
              where
                root : s.root ≡ old
                root = (tells s pv at there).0

                stale : Follows v in_v s at
                stale = follows_stale says n next top depth t old base worse w m.kept m.dark v in_v
                    (λ a b i. over v a b i in_v) s at root

                apart : stale.i ≢ p
                apart = follows_other says n next top depth t old base worse w m.kept m.dark v in_v
                    (λ a b i. over v a b i in_v) s at p u q joins pv there s.root s.steps (tells s pv at there).1 stale

                below : IsDeeper depth stale.side v u
                below = stale_down says n next top depth t old base worse w m.kept m.dark v in_v
                    (λ a b i. over v a b i in_v) s at p u q joins pv there s.root s.steps (tells s pv at there).1 stale

                above : (h : HeldOver says n next top depth t old base worse v stale.i stale.r)
                    → IsDeeper depth stale.side h.v v → stale.r.said.root ≡ old → IsToldBefore d v
                above h down is_old = record { e = one.0; is = one.1; told = told }
                  where
                    one : (e : ℕ) × (d ≡ suc e)
                    one = less_one d (let few = limit stale.side below in omega (arith, few, down))

                    limit_above : IsLimit h.v v one.0
                    limit_above side deeper = elim (t.steps side v u in_v (suc p, suc q, joins)) [
                      | inl down' ↦
                          let few = limit side down' in let is = one.1 in omega (arith, few, is, deeper)
                      | inr up ↦
                          let here = Joins-sym n.graph (port_of h.v (suc h.p)) (port_of v (suc stale.i)) h.joins in
                          let port = t.single side v (suc stale.i) (suc p) (port_of h.v (suc h.p)) (port_of u (suc q))
                          in_v here joins deeper up in
                          absurd (apart (omega (arith, port)))
                    ]

                    lane : (l : Lane) × (slice_get w.lanes (n.lane (port_of h.v (suc h.p))) ≡ Some l)
                    lane =
                        let has = m.kept.calm.lanes (port_of h.v (suc h.p)) (port_of v (suc stale.i)) h.joins in
                        (has.lane, has.there)

                    told : (w.time ≤ falls_by n start d) ⊎ ((z b i : ℕ) × Tree n next top depth t z
                        × Joins n.graph (port_of z (suc b)) (port_of v (suc i)) × IsLimit z v one.0
                        × IsTelling says n next top depth t old base worse z b w)
                    told = elim (m.stages h.v h.p v stale.i one.0 stale.side h.in_v h.joins down limit_above) [
                      | inl free ↦
                          let whole = (free s stale.holds.0 lane.0 at stale.holds.1 lane.1).hears stale.r stale.holds.2
                          in
                          let more = whole_worse says n next top depth t old base worse h.v stale.r.said h.in_v whole in
                          absurd (omega (arith, more, is_old))
                      | inr (inl tells_above) ↦ inr (h.v, h.p, stale.i, h.in_v, h.joins, limit_above, tells_above)
                      | inr (inr comes) ↦
                          let (g, among, due) = withdraws_due says
                          (IsNewTold n.graph (port_of h.v (suc h.p)) v) (falls_by n start (suc one.0)) lane.0.frames
                          (comes s stale.holds.0 lane.0 at stale.holds.1 lane.1) in
                          let left = m.kept.calm.left (n.lane (port_of h.v (suc h.p))) lane.0 g lane.1 among in
                          inl (subst (λ k. w.time ≤ falls_by n start k) (sym one.1) (omega (arith, left, due)))
                    ]

    -- so it does for as many links at most as lead to it
    pub tells_in_time : (d v p u q : ℕ) → Tree n next top depth t v
        → Joins n.graph (port_of v (suc p)) (port_of u (suc q)) → IsLimit v u d
        → IsTelling says n next top depth t old base worse v p w → w.time ≤ falls_by n start d
    tells_in_time zero v p u q in_v joins limit tells = elim (told_before 0 v p u q in_v joins limit tells) [
      | inl early ↦ omega (arith, early)
      | inr before ↦ let is = before.is in absurd (omega (arith, is))
    ]
    tells_in_time (suc d) v p u q in_v joins limit tells = elim (told_before (suc d) v p u q in_v joins limit tells) [
      | inl early ↦ omega (arith, early)
      | inr before ↦ elim before.told [
        | inl by ↦ by
        | inr (z, b, i, in_z, joins_z, limit_z, tells_z) ↦
            let is = before.is in
            let same : before.e ≡ d = omega (arith, is) in
            let by = tells_in_time d z b v i in_z joins_z (subst (IsLimit z v) same limit_z) tells_z in
            omega (arith, by)
      ]
    ]

    -- ---- once that time is over

    module _ (d : ℕ) (within : n.reach ≤ suc (suc d)) (over_now : falls_by n start (suc d) < w.time) (v p u q : ℕ)
        (in_v : Tree n next top depth t v) (joins : Joins n.graph (port_of v (suc p)) (port_of u (suc q))) where
      limit_all : IsLimit v u d
      limit_all side deeper =
          let deep = t.deep side u (beside n next top depth t v u in_v (suc p, suc q, joins)) in
          omega (arith, deep, deeper, within)

      free_by : (side : Side) → IsDeeper depth side v u → IsFreeAt says n.graph n v p u q w
      free_by side deeper = elim (m.stages v p u q d side in_v joins deeper limit_all) [
        | inl free ↦ free
        | inr (inl tells) ↦
            let by = tells_in_time d v p u q in_v joins limit_all tells in absurd (omega (arith, by, over_now))
        | inr (inr comes) ↦ (λ s pu l at there lane.
            let (g, among, due) = withdraws_due says (IsNewTold n.graph (port_of v (suc p)) u)
            (falls_by n start (suc d)) l.frames (comes s pu l at there lane) in
            let left = m.kept.calm.left (n.lane (port_of v (suc p))) l g lane among in
            absurd (omega (arith, left, due, over_now)))
      ]

      -- a link that leads down from no top carries nothing stale
      not_down : ((side : Side) → IsDeeper depth side v u → ⊥) → IsFreeAt says n.graph n v p u q w
      not_down up s pu l at there lane =
          let is = m.mixed v p u q in_v joins s pu l at there lane in
          record {
            hears = λ r holds. elim (is.hears r holds) [
              | inl whole ↦ whole
              | inr stale ↦ absurd (up stale.side stale.deeper)
            ];
            flight = λ f a among said. elim (is.flight f a among said) [
              | inr names ↦ inr names
              | inl (inl whole) ↦ inl whole
              | inl (inr stale) ↦ absurd (up stale.side stale.deeper)
            ];
          }

      -- each link carries what is of what is left alone
      pub free_then : IsFreeAt says n.graph n v p u q w
      free_then = elim (t.steps First v u in_v (suc p, suc q, joins)) [
        | inl deeper ↦ free_by First deeper
        | inr up ↦ elim (t.steps Second v u in_v (suc p, suc q, joins)) [
          | inl deeper ↦ free_by Second deeper
          | inr up' ↦ not_down (by up up')
        ]
      ]
        where
          by : depth First v ≡ suc (depth First u) → depth Second v ≡ suc (depth Second u) → (side : Side)
              → IsDeeper depth side v u → ⊥
          by up up' First deeper = omega (arith, up, deeper)
          by up up' Second deeper = omega (arith, up', deeper)

    -- so all that the tree holds fits what is left
    pub received_then : (d : ℕ) → n.reach ≤ suc (suc d) → falls_by n start (suc d) < w.time → (x : ℕ)
        → Tree n next top depth t x → (s : Station) → slice_get w.stations (n.place x) ≡ Some s → (i : ℕ)
        (r : Reception) → HoldsAt s i r → CameFits n.graph s.clock (suc i) r
    received_then d within over_now x in_x s at i r holds =
        elim (held_over says n next top depth t old base worse w m.kept m.dark x in_x
        (λ a b i. over x a b i in_x) s at i
        r holds) [
          | inr bare ↦ absurd (m.gone (omega (arith, over_now)) x s i r in_x at holds bare.bare)
          | inl h ↦
              let has = m.kept.calm.lanes (port_of h.v (suc h.p)) (port_of x (suc i)) h.joins in
              let free = free_then d within over_now h.v h.p x i h.in_v h.joins in
              let (live, clock) = is_x says n next top depth t old base worse w m.kept m.dark x in_x
              (λ a b i. over x a b i in_x) s at in
              came_fits n.graph s.clock (suc i) r t.well (record {
                from = port_of h.v (suc h.p);
                joins = subst (λ c. Joins n.graph (port_of h.v (suc h.p)) (port_of c (suc i))) (sym clock) h.joins;
                source = h.source;
                sound = inr ((free s holds.0 has.lane at holds.1 has.there).hears r holds.2);
              })
        ]

  -- ---- every step keeps it

  pub stale_on : (w w' : MachineState) → (m : IsStaleState w) → IsOrdered says n next top depth t old base worse w
      → IsAfterLoss n w' → BareHoldStale says n next top depth t old base worse w' → BareHoldNone w'
      → MachineSteps says w w' → IsStaleState w'
  stale_on w w' m ordered kept' dark' gone' step = record {
    kept = kept';
    dark = dark';
    gone = gone';
    mixed = λ v p u q in_v joins.
        mixed_kept says n next top depth t old base worse w w' m.kept kept' dark' step m.mixed v p u q in_v joins;
    stages = λ v p u q d side in_v joins deeper limit.
        stage_kept says n next top depth t old base worse w w' m.kept kept' dark' step m.mixed ordered v p u q in_v
        joins side deeper (falls_by n start (suc d)) (λ tells.
        let by = tells_in_time w m d v p u q in_v joins limit tells in omega (arith, by))
        (m.stages v p u q d side in_v joins deeper limit);
  }

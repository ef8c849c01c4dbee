-- A tree that a loss moves falls back: every step keeps what is known of its links.
use Rattle.std.proofs.Common.{◌≡◌, ◌⊎◌, ◌<◌, ◌≤◌, ◌+◌, ℕ, zero, suc, true, Some, slice_get, refl, sym, ap, subst, ◌∙◌, inl, inr, arith}
use native.Mathlib.Decide.{dec_le}
use Rattle.gptp_lists.specs.Members.{In}
use Rattle.gptp_graph.specs.Best.{IsBest}
use Rattle.gptp_graph.specs.Distance.{IsDistance}
use Rattle.gptp_graph.specs.Snapshot.{Adjacent, Joins, PortIdentity, Snapshot, System, clocks, port_of}
use Rattle.gptp_graph.proofs.LinkLemmas.{Joins-sym}
use Rattle.gptp_bmca_machine.specs.Acts.{MachineSteps}
use Rattle.gptp_bmca_machine.specs.Clean.{Whole}
use Rattle.gptp_bmca_machine.specs.Frame.{Announce, Lane, Spelling}
use Rattle.gptp_bmca_machine.specs.Link.{LinkSettles, TellerIsReady}
use Rattle.gptp_bmca_machine.specs.LinkStage.{Wiring}
use Rattle.gptp_bmca_machine.specs.Network.{Network}
use Rattle.gptp_bmca_machine.specs.Reacts.{IsMasterAt, IsOwn}
use Rattle.gptp_bmca_machine.specs.Station.{MachineState, Mine, Port, Received, Station}
use Rattle.gptp_bmca_machine.specs.Touch.{Hear, IsUsable, Replaces}
use Rattle.gptp_bmca_machine.proofs.MovedTreeLemmas.{Around, IsBeyond, LeadsDown, MovesTree, best_beside, child_leads, was_best_beside}
use Rattle.gptp_bmca_machine.proofs.FallLeaveLemmas.{TreeAnswers, answers_or_stands, leaves_old, tells_new}
use Rattle.gptp_bmca_machine.proofs.FallHeldLemmas.{holds_by, holds_in_tree, old_in_time}
use Rattle.gptp_bmca_machine.proofs.UnlinkedLemmas.{UnlinkedDrop, UnlinkedHoldNone}
use Rattle.gptp_bmca_machine.proofs.FallLemmas.{DownStage, FollowsOld, HasChoice, choice_dec, HasLeft, HoldsInTree, HoldsLeft, IsAftermath, IsFalling, IsFreeAt, IsLed, IsLeft, IsNewTold, IsOld, IsToldAtTop, IsToldByNearer, falls_by, follows_old, is_moved, not_free_old, old_by_held, old_by_steps, told_nearer, own_new, says_whole, was_clear}
use Rattle.gptp_bmca_machine.proofs.FallStepLemmas.{SaysSo, free_held, free_kept, old_or_free}
use Rattle.gptp_bmca_machine.proofs.ClearLemmas.{tells_clear, weaker_clear}
use Rattle.gptp_bmca_machine.proofs.LinkEndsLemmas.{ShowEnds, ends_by, hearer_known, telling_kept, teller_on}
use Rattle.gptp_bmca_machine.proofs.LinkStageLemmas.{settled}
use Rattle.gptp_bmca_machine.proofs.LinkStepLemmas.{AtLink, lives_at}
use Rattle.gptp_bmca_machine.proofs.NearestLemmas.{root_not_better, steps_not_fewer}
use Rattle.gptp_bmca_machine.proofs.PlaceLemmas.{same_there}
use Rattle.gptp_bmca_machine.proofs.StillLemmas.{clear_at, port_there, station_of, still}
use Rattle.gptp_bmca_machine.proofs.ToldLemmas.{HoldsTold}

module _ (says : Spelling) (g : Snapshot) (n : Network) (Tree : ℕ → Type 0) (Out : ℕ → ℕ → Type 0) (top : ℕ)
    (best next : System) (base : ℕ) (depth : ℕ → ℕ) (t : MovesTree g n Tree Out top best next base depth) (start : ℕ)
  where
    -- ---- a link that leads down from a system that has its old choice

    module _ (v p u q : ℕ) (in_v : Tree v) (joins : Joins n.graph (port_of v (suc p)) (port_of u (suc q)))
        (leads : LeadsDown g Tree Out base depth v u) where
      known_u : In u (clocks n.graph)
      known_u = hearer_known g n t.well t.left n.most 0 best v p u q joins (omega arith)

      best_u : IsBest g u best
      best_u = was_best_beside g n Tree Out top best next base depth t v u in_v (suc p, suc q, joins)

      back : Joins n.graph (port_of u (suc q)) (port_of v (suc p))
      back = Joins-sym n.graph (port_of v (suc p)) (port_of u (suc q)) joins

      abbrev k : Wiring
      k = still n (base + depth v) best v p u q

      module _ (w : MachineState) (m : IsAftermath says g n w)
          (holds : HoldsInTree says g n Tree Out top best next base depth t start v w) (old : IsOld n w v best (base +
          depth v)) where
        -- it tells that choice
        pub is_ready : (s : Station) (pv : Port) → slice_get w.stations (n.place v) ≡ Some s
            → slice_get s.ports p ≡ Some pv → TellerIsReady (still n (base + depth v) best v p u q) s pv
        is_ready s pv at there = (
          old s at,
          teller_on g n t.well t.left n.most 0 best v p u q joins (omega arith) w m.kept m.fits.stations s pv at there,
        )

        pub show_old : ShowEnds g n t.well t.left n.most (base + depth v) best v p u q joins (omega arith) w
        show_old = record {
          settled = λ s pv at there ready.
              let (live, clock) = lives_at n w m.kept.calm v (t.lives v in_v) s at in
              tells_clear g t.left.graph k best refl leads.far best_u leads.there leads.farther s
              (was_clear says g n Tree Out top best next base depth t start w m v in_v s at)
              (λ place r holds. (m.fits.stations (n.place v) s place r at live holds).fits) clock (t.was_best v in_v)
              (port_of u (suc q)) (t.left.links (port_of v (suc p)) (port_of u (suc q)) joins) refl
              (t.well.apart (port_of v (suc p)) (port_of u (suc q)) joins) (t.near v in_v)
              (m.kept.calm.facts.stations (n.place v) s at live).follows pv there ready;
          early = λ s pv at there not. absurd (not (is_ready s pv at there));
          weaker = λ s pu at there r d mine.
              let (live, clock) = lives_at n w m.kept.calm u known_u s at in
              weaker_clear g t.left.graph k best refl leads.far best_u leads.there leads.farther s
              (clear_at g n t.well t.left w m.kept m.fits.stations (n.place u) s at live) clock pu there r d mine;
        }

        pub tells_old : (s : Station) (pv : Port) → slice_get w.stations (n.place v) ≡ Some s
            → slice_get s.ports p ≡ Some pv → (pv.held ≡ Mine best.identity (base + depth v)) × (w.time ≤ pv.announce)
        tells_old s pv at there =
            let ends = ends_by g n t.well t.left n.most (base + depth v) best v p u q joins (omega arith) w m.kept
            m.fits.stations show_old in
            let teller = ends.teller s pv at there in
            let mine = (show_old.settled s pv at there (is_ready s pv at there)).mine in
            (mine, (teller.timer best.identity (base + depth v) mine).0)

    -- ---- who hears what was told before

    module _ (w : MachineState) (m : IsAftermath says g n w) (v p u q : ℕ) (in_v : Tree v) (here_u : Tree u)
        (joins : Joins n.graph (port_of v (suc p)) (port_of u (suc q))) (deeper : depth u ≡ suc (depth v)) where
      has_port : (s : Station) → slice_get w.stations (n.place u) ≡ Some s
          → (pu : Port) × (slice_get s.ports q ≡ Some pu)
      has_port s at =
          port_there g n t.well t.left w m.kept m.fits.stations u q (port_of v (suc p)) s at
          (Joins-sym n.graph (port_of v (suc p)) (port_of u (suc q)) joins)

      -- it has its old choice
      pub left_old : (last : ℕ) → IsLeft says t.ways n best (base + depth v) last v p u q w
          → IsOld n w u best (base + depth u)
      left_old last (not, told) s at =
          let (pu, there) = has_port s at in
          let has = m.kept.calm.lanes (port_of v (suc p)) (port_of u (suc q)) joins in
          let old = told s pu has.lane at there has.there in
          old_by_held says g n Tree Out top best next base depth t start w m u here_u s at q v old.r (
            pu,
            there,
            old.holds,
          )
          deeper (old.final.root, old.final.steps)

      pub led_old : IsLed says n best (base + depth v) v p u q w → IsOld n w u best (base + depth u)
      led_old (root, stays) s at =
          let (pu, there) = has_port s at in
          let has = m.kept.calm.lanes (port_of v (suc p)) (port_of u (suc q)) joins in
          let (sv, at_v, live, clock) = station_of g n t.well t.left w m.kept m.fits.stations v
          (t.lives v in_v) in
          let (pv, there_v) = port_there g n t.well t.left w m.kept m.fits.stations v p (port_of u (suc q)) sv at_v
          joins in
          let stay = stays pv pu has.lane (record {
            v = sv;
            u = s;
            teller = at_v;
            teller_port = there_v;
            hearer = at;
            hearer_port = there;
            lane = has.there;
          }) in
          old_by_held says g n Tree Out top best next base depth t start w m u here_u s at q v stay.what
          (pu, there, stay.holds) deeper (stay.final.root, stay.final.steps)

      -- or the link is free
      pub hearer_old : (last : ℕ) → DownStage says t.ways n best (base + depth v) last v p u q w
          → IsOld n w u best (base + depth u) ⊎ (HasLeft n w v best (base + depth v) × IsFreeAt says t.ways n v p u q w)
      hearer_old last (inl led) = inl (led_old led)
      hearer_old last (inr (inl left)) = inl (left_old last left)
      hearer_old last (inr (inr free)) = inr free

    -- what is of what is left is worse than what was told before, seen from who told that
    not_replaces : (v u p : ℕ) (a : Announce) → Tree v → Adjacent n.graph v u → LeadsDown g Tree Out base depth v u
        → a.source.clock ≡ u → Whole t.ways u a → Replaces v (suc p) a (Mine best.identity (base + depth v)) → ⊥
    not_replaces v u p a in_v joined leads source whole replaces = elim leads.beyond [
      | inl (in_u, deeper) ↦ below (own_new says g n Tree Out top best next base depth t start u a in_u whole) deeper
      | inr out ↦ outside (λ far is. t.far_now u far (inr (v, out)) ((t.unmoved v u out).far far is)) (t.worse v in_v)
    ]
      where
        below : (best.identity < a.root) ⊎ ((a.root ≡ best.identity) × (base + depth u < a.steps))
            → depth u ≡ suc (depth v) → ⊥
        below (inl over) deeper = elim replaces [
          | inl less ↦ omega (arith, less, over)
          | inr (same, rest) ↦ omega (arith, same, over)
        ]
        below (inr (root, more)) deeper = elim replaces [
          | inl less ↦ omega (arith, less, root)
          | inr (same, inl fewer) ↦ omega (arith, fewer, more, deeper)
          | inr (same, inr (as_many, rest)) ↦ omega (arith, as_many, more, deeper)
        ]

        is_next : IsBest t.ways u next
        is_next = best_beside g n Tree Out top best next base depth t v u in_v joined

        least : next.identity ≤ a.root
        least = root_not_better t.ways t.ways_well u a whole next is_next

        outside : ((far : ℕ) → IsDistance g u far → IsDistance t.ways u far) → (best.identity < next.identity)
            ⊎ ((best ≡ next) × ((far : ℕ) → IsDistance t.ways v far → base + depth v < far)) → ⊥
        outside as_far (inl less) = by_root replaces
          where
            by_root : Replaces v (suc p) a (Mine best.identity (base + depth v)) → ⊥
            by_root (inl lower) = omega (arith, lower, less, least)
            by_root (inr (same, rest)) = omega (arith, same, less, least)
        outside as_far (inr (one, more)) = by replaces
          where
            identity : best.identity ≡ next.identity
            identity = ap (λ (b : System). b.identity) one

            many : a.root ≡ best.identity → leads.far ≤ a.steps
            many root =
                steps_not_fewer t.ways t.ways_well u a whole next is_next u leads.far (inl refl) is_next
                (as_far leads.far leads.there) (root ∙ identity)

            by : Replaces v (suc p) a (Mine best.identity (base + depth v)) → ⊥
            by (inl lower) = omega (arith, lower, identity, least)
            by (inr (same, inl fewer)) =
                let few = many same in
                elim leads.farther [
                  | inl far ↦ omega (arith, fewer, few, far)
                  | inr (as_far, clock) ↦ omega (arith, fewer, few, as_far)
                ]
            by (inr (same, inr (as_many, rest))) =
                let few = many same in
                elim leads.farther [
                  | inl far ↦ omega (arith, as_many, few, far)
                  | inr (as_far, clock) ↦ elim rest [
                    | inl lower ↦ omega (arith, lower, source, clock)
                    | inr (also, ports) ↦ omega (arith, also, source, clock)
                  ]
                ]

    module _ (w w' : MachineState) (m : IsAftermath says g n w) (m' : IsAftermath says g n w')
        (step : MachineSteps says w w') (drops : UnlinkedDrop g n w w')
        (falling : IsFalling says g n Tree Out top best next base depth t start w) where
      holds_w : (x : ℕ) → Tree x → HoldsInTree says g n Tree Out top best next base depth t start x w
      holds_w x in_x = holds_in_tree says g n Tree Out top best next base depth t start w m falling x in_x

      -- what is held over links from those beyond is of what is left
      up_held : (v p u q : ℕ) → Tree u → Joins n.graph (port_of v (suc p)) (port_of u (suc q))
          → IsBeyond Tree Out depth u v → HoldsLeft says t.ways n v p u q w'
      up_held v p u q in_u joins beyond =
          free_held says g n Tree Out top best next base depth t w w' m m' step v p u q joins
          (falling.up v p u q in_u joins beyond)

      -- what a link that leads down comes to, and that a free one stays so
      abbrev Then : ℕ → ℕ → ℕ → ℕ → Type 0
      Then v p u q =
          DownStage says t.ways n best (base + depth v) (falls_by n start (suc (depth v))) v p u q w'
          × (HasLeft n w v best (base + depth v) × IsFreeAt says t.ways n v p u q w
          → HasLeft n w' v best (base + depth v) × IsFreeAt says t.ways n v p u q w')

      module _ (v p u q : ℕ) (in_v : Tree v) (joins : Joins n.graph (port_of v (suc p)) (port_of u (suc q)))
          (leads : LeadsDown g Tree Out base depth v u)
          (above : (v0 p0 i : ℕ) → Tree v0 → Joins n.graph (port_of v0 (suc p0)) (port_of v (suc i))
          → depth v ≡ suc (depth v0) → Then v0 p0 v i) where
        holds' : HoldsInTree says g n Tree Out top best next base depth t start v w'
        holds' =
            holds_by says g n Tree Out top best next base depth t start w' m' v in_v
            (λ v0 p0 i in0 joined below. (above v0 p0 i in0 joined below).0)
            (λ v0 p0 i joined beyond. up_held v0 p0 v i in_v joined beyond)

        -- who has left its old choice doesn't come back to it
        left_stays : HasLeft n w v best (base + depth v) → HasLeft n w' v best (base + depth v)
        left_stays not s' at' old' = elim old.told [ inl above ↦ by_nearer above | inr lost ↦ by_lost lost ]
          where
            old : FollowsOld says g n Tree Out top best next base depth t start w' m' v in_v s' at' holds'
            old = follows_old says g n Tree Out top best next base depth t start w' m' v in_v s' at' holds' old'

            has : (s : Station) × (slice_get w.stations (n.place v) ≡ Some s) × (s.live ≡ true) × (s.clock ≡ v)
            has = station_of g n t.well t.left w m.kept m.fits.stations v (t.lives v in_v)

            -- what is held over a lost link was held
            by_lost : IsToldAtTop says g n Tree Out top best next base depth t start v old.i → ⊥
            by_lost lost =
                let (s, at, live, clock) = has in
                let is = lives_at n w' m'.kept.calm v (t.lives v in_v) s' at' in
                let (r, holds) = drops v s s' old.i old.r (is_moved says g n Tree Out top best next base depth t start v
                in_v)
                at at' is.0 is.1 lost.bare old.holds in
                elim (holds_w v in_v s old.i r at holds) [
                  | inr still ↦ not s at
                      (old_by_steps says g n Tree Out top best next base depth t start w m v in_v s at old.i r
                      holds still.root still.steps)
                  | inl h ↦ absurd (lost.bare (
                    port_of h.v (suc h.p),
                    Joins-sym n.graph (port_of h.v (suc h.p)) (port_of v (suc old.i)) h.joins,
                  ))
                ]

            by_nearer : IsToldByNearer says g n Tree Out top best next base depth t start v old.i old.r → ⊥
            by_nearer a = by (hearer_old w m a.v a.p v old.i a.in_v in_v a.joins a.deeper
                (falls_by n start (suc (depth a.v)))
                (falling.down a.v a.p v old.i a.in_v a.joins
                (child_leads g n Tree Out top best next base depth t a.v v in_v a.deeper)))
              where
                by : IsOld n w v best (base + depth v)
                    ⊎ (HasLeft n w a.v best (base + depth a.v) × IsFreeAt says t.ways n a.v a.p v old.i w) → ⊥
                by (inl was_old) = let (s, at, live, clock) = has in not s at (was_old s at)
                by (inr free) =
                    let (not_then, free_then) = (above a.v a.p old.i a.in_v a.joins a.deeper).1 free in
                    let lane = m'.kept.calm.lanes (port_of a.v (suc a.p)) (port_of v (suc old.i)) a.joins in
                    let whole = (free_then s' old.holds.0 lane.lane at' old.holds.1 lane.there).hears old.r old.holds.2
                    in
                    not_free_old says g n Tree Out top best next base depth t start a.v v a.p old.i old.r.said in_v
                    a.joins whole a.deeper a.told

        -- what it says then
        new_then : HasLeft n w' v best (base + depth v)
            → SaysSo says g n Tree Out top best next base depth t w w' m m' step v p u q joins
            (IsNewTold t.ways (port_of v (suc p)) u)
        new_then not touch mid call z a sent from said =
            let (own, master) = call.reacts.tells z a sent said in
            let clock : call.s'.clock ≡ v =
            call.reacts.clock ∙ ap (λ (x : PortIdentity). x.clock) (sym from) in
            let at = subst (λ i. slice_get w'.stations i ≡ Some call.s')
            (m'.kept.calm.placed call.place call.s' call.there ∙ ap n.place clock) call.there in
            tells_new says g n Tree Out top best next base depth t start w' m' v in_v call.s' at holds' (not call.s' at)
            p
            u q
            joins leads.beyond z.port a own master (ap (λ (x : PortIdentity). x.port) (sym from))

        -- a free link stays so
        free_then : HasLeft n w v best (base + depth v) × IsFreeAt says t.ways n v p u q w
            → HasLeft n w' v best (base + depth v) × IsFreeAt says t.ways n v p u q w'
        free_then (not, free) =
            let not' = left_stays not in (
              not',
              free_kept says g n Tree Out top best next base depth t w w' m m' step v p u q joins
                  (λ touch mid call z a sent from said. inl (new_then not' touch mid call z a sent from said).whole)
                  free,
            )

        -- it goes on to tell its old choice, or has left it now
        pub led_then : IsLed says n best (base + depth v) v p u q w
            → IsLed says n best (base + depth v) v p u q w'
            ⊎ IsLeft says t.ways n best (base + depth v) (falls_by n start (suc (depth v))) v p u q w'
        led_then (root, stays) = by (station_of g n t.well t.left w' m'.kept m'.fits.stations v (t.lives v in_v))
          where
            by : ((s : Station) × (slice_get w'.stations (n.place v) ≡ Some s) × (s.live ≡ true) × (s.clock ≡ v))
                → IsLed says n best (base + depth v) v p u q w'
                ⊎ IsLeft says t.ways n best (base + depth v) (falls_by n start (suc (depth v))) v p u q w'
            by (s', at', live, clock) = elim (choice_dec s' best (base + depth v)) [
              | yes old' ↦ inl (goes_on (λ s at.
                  subst (λ (x : Station). HasChoice x best (base + depth v))
                  (same_there w'.stations (n.place v) s' s at' at) old'))
              | no not' ↦ inr (
                (λ s at old'. not'
                    (subst (λ (x : Station). HasChoice x best (base + depth v))
                    (same_there w'.stations (n.place v) s s' at at') old')),
                leaves_now not' (answers_or_stands says n (Around Tree Out) v w w' m.kept.calm m'.kept.calm (t.lives v
                    in_v)
                    step s' at'),
              )
            ]
              where
                goes_on : IsOld n w' v best (base + depth v) → IsLed says n best (base + depth v) v p u q w'
                goes_on old' = (
                  old',
                  (λ pv pu l stand.
                      settled says (still n (base + depth v) best v p u q) w'.time pv.announce pu.held l.frames
                      (tells_old v p u q in_v joins leads w' m' holds' old' stand.v pv stand.teller stand.teller_port).1
                      (λ f among. m'.kept.calm.left (n.lane (port_of v (suc p))) l f stand.lane among) (omega arith)
                      m'.kept.late
                      (link' (omega arith) pv pu l stand
                      (is_ready v p u q in_v joins leads w' m' holds' old' stand.v pv stand.teller stand.teller_port))),
                )
                  where
                    link' : LinkSettles says (still n (base + depth v) best v p u q) w'
                    link' =
                        telling_kept g n t.well t.left n.most (base + depth v) best v p u q joins (omega arith) says w
                        w'
                        m.kept m'.kept m.fits.stations m'.fits.stations
                        (show_old v p u q in_v joins leads w m (holds_w v in_v) root)
                        (show_old v p u q in_v joins leads w' m' holds' old') step
                        (λ since pv pu l stand ready. inr (inr (stays pv pu l stand)))

                leaves_now : (HasChoice s' best (base + depth v) → ⊥) → (slice_get w.stations (n.place v) ≡ Some s') ⊎
                    TreeAnswers says
                    n (Around Tree Out) v w w'
                    → AtLink says n v p u q (HoldsTold says (still n (base + depth v) best v p u q)
                    (IsNewTold t.ways (port_of v (suc p)) u) (falls_by n start (suc (depth v)))) w'
                leaves_now not' (inl stood) = absurd (not' (root s' stood))
                leaves_now not' (inr z) =
                    leaves_old says g n Tree Out top best next base depth t start w w' m' v in_v z holds'
                    (λ old'. not'
                    (subst (λ (x : Station). HasChoice x best (base + depth v))
                    (same_there w'.stations (n.place v) z.s' s' z.there at') old')) p u q joins leads.beyond
                    (λ pv there. tells_old v p u q in_v joins leads w m (holds_w v in_v) root z.s pv z.here there) stays
                    refuses (old_in_time says g n Tree Out top best next base depth t start w m falling (depth v) v refl
                    in_v root)
                  where
                    refuses : (a : Announce) → z.touch ≡ Hear (suc p) a → IsUsable v a
                        → Replaces v (suc p) a (Mine best.identity (base + depth v)) → ⊥
                    refuses a touched usable replaces =
                        let (j, l, f, at_j, among, said, to) = z.heard p a touched in
                        let was = (lives_at n w m.kept.calm v (t.lives v in_v) z.s z.here).1 in
                        let up = back v p u q in_v joins leads in
                        let has = m.kept.calm.lanes (port_of u (suc q)) (port_of v (suc p)) up in
                        let place : n.lane (port_of u (suc q)) ≡ j =
                        m.kept.calm.apart (n.lane (port_of u (suc q))) j has.lane l has.there at_j
                        (has.to ∙ sym (to ∙ ap (λ c. port_of c (suc p)) was)) in
                        let (pv, there) = port_there g n t.well t.left w m.kept m.fits.stations v p (port_of u (suc q))
                        z.s z.here joins in
                        let free = falling.up u q v p in_v up leads.beyond z.s pv l z.here there
                        (subst (λ i. slice_get w.lanes i ≡ Some l) (sym place) at_j) in
                        elim (free.flight f a among said) [
                          | inr names ↦ usable.no_loop names
                          | inl whole ↦
                              let from = sym (ap (λ (y : Lane). y.from)
                              (same_there w.lanes j has.lane l
                              (subst (λ i. slice_get w.lanes i ≡ Some has.lane) place has.there) at_j)) ∙ has.from in
                              let source = (m.fits.lanes j l f a at_j among said
                              (subst (λ (e : PortIdentity). In e.clock (clocks n.graph)) (sym to)
                              (subst (λ c. In c (clocks n.graph)) (sym was) (t.lives v in_v)))).source in
                              not_replaces v u p a in_v (suc p, suc q, joins) leads
                              (ap (λ (e : PortIdentity). e.clock) (source ∙ from)) whole replaces
                        ]

        pub then_one : Then v p u q
        then_one = (by (falling.down v p u q in_v joins leads), free_then)
          where
            by : DownStage says t.ways n best (base + depth v) (falls_by n start (suc (depth v))) v p u q w
                → DownStage says t.ways n best (base + depth v) (falls_by n start (suc (depth v))) v p u q w'
            by (inl led) = elim (led_then led) [ inl on ↦ inl on | inr told ↦ inr (inl told) ]
            by (inr (inr free)) = inr (inr (free_then free))
            by (inr (inl (not, told))) =
                let not' = left_stays not in
                elim (old_or_free says g n Tree Out top best next base depth t w w' m m' step v p u q joins in_v leads
                (falls_by n start (suc (depth v))) (new_then not') told) [
                  | inl old ↦ inr (inl (not', old))
                  | inr free ↦ inr (inr (not', free))
                ]

      -- so all do, by their depth
      then_below : (d : ℕ) (v p u q : ℕ) → Tree v → Joins n.graph (port_of v (suc p)) (port_of u (suc q))
          → LeadsDown g Tree Out base depth v u → depth v < d → Then v p u q
      then_below zero v p u q in_v joins leads less = absurd (omega (arith, less))
      then_below (suc d) v p u q in_v joins leads less =
          then_one v p u q in_v joins leads (λ v0 p0 i in0 joined below.
          then_below d v0 p0 v i in0 joined (child_leads g n Tree Out top best next base depth t v0 v in_v below)
          (omega (arith, less, below)))

      -- ---- links from those beyond

      holds_then : (v : ℕ) → Tree v → HoldsInTree says g n Tree Out top best next base depth t start v w'
      holds_then v in_v =
          holds_by says g n Tree Out top best next base depth t start w' m' v in_v
          (λ v0 p0 i in0 joined below.
          (then_below (suc (depth v0)) v0 p0 v i in0 joined
          (child_leads g n Tree Out top best next base depth t v0 v in_v below) (omega arith)).0)
          (λ v0 p0 i joined beyond. up_held v0 p0 v i in_v joined beyond)

      -- what one below tells is of what is left
      module _ (v p u q : ℕ) (in_v : Tree v) (in_u : Tree u)
          (joins : Joins n.graph (port_of v (suc p)) (port_of u (suc q))) (higher : depth v ≡ suc (depth u)) where
        new_up : SaysSo says g n Tree Out top best next base depth t w w' m m' step v p u q joins
            (λ a. Whole t.ways v a ⊎ In u a.path)
        new_up touch mid call z a sent from said = by (call.reacts.tells z a sent said)
          where
            number : z.port ≡ suc p
            number = ap (λ (x : PortIdentity). x.port) (sym from)

            at : slice_get w'.stations (n.place v) ≡ Some call.s'
            at =
                let clock : call.s'.clock ≡ v =
                call.reacts.clock ∙ ap (λ (x : PortIdentity). x.clock) (sym from) in
                subst (λ i. slice_get w'.stations i ≡ Some call.s')
                (m'.kept.calm.placed call.place call.s' call.there ∙ ap n.place clock) call.there

            by : IsOwn call.s' z.port a × IsMasterAt call.s' z.port → Whole t.ways v a ⊎ In u a.path
            by (own, (i, pv, place, there, mine)) = elim (choice_dec call.s' best (base + depth v)) [
              | no not ↦ inl (says_whole says g n Tree Out top best next base depth t start w' m' v in_v call.s' at
                  (holds_then v in_v) not z.port a own)
              | yes choice ↦
                  let old = follows_old says g n Tree Out top best next base depth t start w' m' v in_v call.s' at
                  (holds_then v in_v) choice in
                  let a = told_nearer says g n Tree Out top best next base depth t start v old.i (depth u) old.r higher
                  old.told in
                  let port = t.single v (suc old.i) (suc p) (port_of a.v (suc a.p)) (port_of u (suc q)) in_v a.in_v
                  in_u (Joins-sym n.graph (port_of a.v (suc a.p)) (port_of v (suc old.i)) a.joins) joins a.deeper
                  higher in
                  let one : old.i ≡ i = let both = sym place ∙ number in omega (arith, port, both) in
                  let same = same_there call.s'.ports i old.holds.0 pv
                  (subst (λ j. slice_get call.s'.ports j ≡ Some old.holds.0) one old.holds.1) there in
                  absurd (let both : Mine call.s'.root call.s'.steps ≡ Received old.r =
                  sym mine ∙ ap (λ (x : Port). x.held) (sym same) ∙ old.holds.2 in cc)
            ]

      -- a system that has its old choice goes on to tell it, or has left it now
      pub led_next : (v p u q : ℕ) → Tree v → Joins n.graph (port_of v (suc p)) (port_of u (suc q))
          → LeadsDown g Tree Out base depth v u → IsLed says n best (base + depth v) v p u q w
          → IsLed says n best (base + depth v) v p u q w'
          ⊎ IsLeft says t.ways n best (base + depth v) (falls_by n start (suc (depth v))) v p u q w'
      led_next v p u q in_v joins leads led =
          led_then v p u q in_v joins leads (λ v0 p0 i in0 joined below.
          then_below (depth v) v0 p0 v i in0 joined (child_leads g n Tree Out top best next base depth t v0 v in_v
          below)
          (omega (arith, below))) led

      -- the top has left its old choice by that time
      top_then : Tree top → UnlinkedHoldNone g n start w' → IsOld n w' top best (base + depth top) → w'.time ≤ start
      top_then in_top none root = elim (dec_le w'.time start) [
        | yes by ↦ by
        | no over ↦ absurd (gone (omega (arith, over)) (station_of g n t.well t.left w' m'.kept m'.fits.stations top
            (t.lives top in_top)))
      ]
        where
          gone : start < w'.time
              → ((s : Station) × (slice_get w'.stations (n.place top) ≡ Some s) × (s.live ≡ true) × (s.clock ≡ top))
              → ⊥
          gone over (s, at, live, clock) =
              let old = follows_old says g n Tree Out top best next base depth t start w' m' top in_top s at
              (holds_then top in_top) (root s at) in
              elim old.told [
                | inl above ↦
                    let deeper = above.deeper in let first = t.first in absurd (omega (arith, deeper, first))
                | inr lost ↦
                    none over top s old.i old.r (is_moved says g n Tree Out top best next base depth t start top in_top)
                    at live clock lost.bare old.holds
              ]

      -- where what comes from outside is of what is left, or names who hears it
      pub falling_kept : UnlinkedHoldNone g n start w' → ((v p u q : ℕ) → Out u v → (joins : Joins n.graph (port_of v
          (suc
          p)) (port_of u (suc q)))
          → SaysSo says g n Tree Out top best next base depth t w w' m m' step v p u q joins
          (λ a. Whole t.ways v a ⊎ In u a.path))
          → IsFalling says g n Tree Out top best next base depth t start w'
      falling_kept none comes = record {
        sooner = λ in_top. top_then in_top none;
        down = λ v p u q in_v joins leads. (then_below (suc (depth v)) v p u q in_v joins leads (omega arith)).0;
        up = λ v p u q in_u joins beyond.
            free_kept says g n Tree Out top best next base depth t w w' m m' step v p u q joins (elim beyond [
              | inl (in_v, higher) ↦ new_up v p u q in_v in_u joins higher
              | inr out ↦ comes v p u q out joins
            ]) (falling.up v p u q in_u joins beyond);
      }

-- A tree with one or two tops in which the root of before is still told: each link over which it may be told is at its
-- stages, so that whoever tells it is heard.
use Rattle.std.proofs.Common.{◌≡◌, ◌≢◌, ◌⊎◌, ◌<◌, ◌≤◌, ◌+◌, ℕ, zero, suc, pred, Some, slice_get, sym, ap, subst, ◌∙◌, inl, inr, arith}
use Rattle.std.specs.Bool.{⊤}
use Rattle.gptp_lists.specs.Members.{In}
use Rattle.gptp_lists.proofs.SystemSpecLemmas.{In-right}
use Rattle.gptp_graph.specs.Snapshot.{Adjacent, System, port_of, Joins}
use Rattle.gptp_graph.proofs.LinkLemmas.{Joins-sym}
use Rattle.gptp_bmca_machine.specs.Acts.{LaneStep, MachineSteps}
use Rattle.gptp_bmca_machine.specs.Frame.{Lane, Spelling}
use Rattle.gptp_bmca_machine.specs.Link.{LinkSettles, TellerIsReady}
use Rattle.gptp_bmca_machine.specs.LinkStage.{LinkStage, Wiring}
use Rattle.gptp_bmca_machine.specs.Network.{Network}
use Rattle.gptp_bmca_machine.specs.Reacts.{PortStep}
use Rattle.gptp_bmca_machine.specs.Station.{MachineState, Mine, Port, Received, Reception, Station}
use Rattle.gptp_bmca_machine.specs.TwoTops.{Side, First, Second, IsTreeOfTops}
use Rattle.gptp_bmca_machine.proofs.FallLeaveLemmas.{TreeAnswers, answers_or_stands}
use Rattle.gptp_bmca_machine.proofs.FallLemmas.{HasLeft, IsFreeAt, falls_by}
use Rattle.gptp_bmca_machine.proofs.LinkEndsLemmas.{telling}
use Rattle.gptp_bmca_machine.proofs.LinkStageLemmas.{begins}
use Rattle.gptp_bmca_machine.proofs.LinkStepLemmas.{lives_at}
use Rattle.gptp_bmca_machine.proofs.LinkTellsLemmas.{Shows, news_final, tells_on}
use Rattle.gptp_bmca_machine.proofs.PlaceLemmas.{same_there}
use Rattle.gptp_bmca_machine.proofs.StaleEndLemmas.{IsLimit, IsStaleState, tells_in_time}
use Rattle.gptp_bmca_machine.proofs.StaleLemmas.{FollowsStale, follows_stale, stale_down}
use Rattle.gptp_bmca_machine.proofs.StaleOrderLemmas.{AllStrong, IsStronger, not_both, old_telling, only_down, stage_holds, stronger_one, unhindered_weak}
use Rattle.gptp_bmca_machine.proofs.StaleStepLemmas.{IsTelling}
use Rattle.gptp_bmca_machine.proofs.StaleToldLemmas.{IsHeard, IsUnhindered, StaleComes, StaleIsHeld, heard_by, over_all, shows_stale, stale_root, tells_it, unhindered}
use Rattle.gptp_bmca_machine.proofs.StandsLemmas.{lane_is, due_by, port_stands, stands_there}
use Rattle.gptp_bmca_machine.proofs.TellsLemmas.{master_announces}
use Rattle.gptp_bmca_machine.proofs.TwoTopsLemmas.{IsDeeper, Tree, beside}

-- what is less by two than a number that is above one
pub two_less : (r x : ℕ) → suc (suc x) ≤ r → x ≤ pred (pred r)
two_less zero x none = absurd (omega (arith, none))
two_less (suc zero) x none = absurd (omega (arith, none))
two_less (suc (suc r)) x some = omega (arith, some)

pub two_more : (r x : ℕ) → suc (suc x) ≤ r → suc (suc (pred (pred r))) ≤ r
two_more zero x none = absurd (omega (arith, none))
two_more (suc zero) x none = absurd (omega (arith, none))
two_more (suc (suc r)) x some = omega arith

module _ (says : Spelling) (n : Network) (next : System) (top : Side → ℕ) (depth : Side → ℕ → ℕ)
    (t : IsTreeOfTops n next top depth) (old base : ℕ) (worse : old < next.identity)
    (near : (side : Side) (v : ℕ) → Tree n next top depth t v → base + depth side v < 255)
    (start over long : ℕ) (room : over + n.most < long)
    (reached : (d : ℕ) → suc (suc d) ≤ n.reach → falls_by n start (suc d) ≤ over) where
  abbrev root_then : System
  root_then = stale_root says n next top depth t old base worse near

  -- whether a top leads back over a link
  pub back_dec : (v u : ℕ) → Tree n next top depth t v → Adjacent n.graph v u
      → ((y : Side) × IsDeeper depth y u v) ⊎ ((y : Side) → IsDeeper depth y u v → ⊥)
  back_dec v u in_v joined = elim (t.steps First v u in_v joined) [
    | inr up ↦ inl (First, up)
    | inl down ↦ elim (t.steps Second v u in_v joined) [
      | inr up ↦ inl (Second, up)
      | inl down' ↦ inr (none down down')
    ]
  ]
    where
      none : IsDeeper depth First v u → IsDeeper depth Second v u → (y : Side) → IsDeeper depth y u v → ⊥
      none down down' First up = omega (arith, down, up)
      none down down' Second up = omega (arith, down', up)

  -- the stronger end of the link has left what is stale, and all that it told has come
  abbrev pub IsDone : ℕ → ℕ → ℕ → ℕ → MachineState → Type 0
  IsDone v p u q w = (strong : IsStronger depth u v) → HasLeft n w u root_then (base + depth strong.side u)
      × IsFreeAt says n.graph n u q v p w

  -- So a link over which its weaker end may tell what is stale is at its stages, and so is each on which one top leads.
  abbrev pub AllTell : MachineState → Type 0
  AllTell w = (v p u q : ℕ) (side : Side) → Tree n next top depth t v
      → Joins n.graph (port_of v (suc p)) (port_of u (suc q)) → IsDeeper depth side v u → (IsStronger depth v u → ⊥)
      → IsDone v p u q w
      → LinkSettles says (telling n long (base + depth side v) root_then v p u q) w

  module _ (v p u q : ℕ) (side : Side) (in_v : Tree n next top depth t v)
      (joins : Joins n.graph (port_of v (suc p)) (port_of u (suc q))) (deeper : IsDeeper depth side v u)
      (weak : IsStronger depth v u → ⊥) where
    abbrev k : Wiring
    k = telling n long (base + depth side v) root_then v p u q

    delay : n.most ≤ long
    delay = omega (arith, room)

    back : Joins n.graph (port_of u (suc q)) (port_of v (suc p))
    back = Joins-sym n.graph (port_of v (suc p)) (port_of u (suc q)) joins

    in_u : Tree n next top depth t u
    in_u = beside n next top depth t v u in_v (suc p, suc q, joins)

    apart : v ≢ u
    apart = t.well.apart (port_of v (suc p)) (port_of u (suc q)) joins

    abbrev Clear : (w : MachineState) → IsStaleState says n next top depth t old base worse start w → Type 0
    Clear w m = IsUnhindered says n next top depth t old base worse near v p u q in_v joins side deeper long delay w
        m.kept m.dark m.mixed

    -- it isn't hindered
    clear : (w : MachineState) (m : IsStaleState says n next top depth t old base worse start w) → IsDone v p u q w
        → Clear w m
    clear w m done = elim (back_dec v u in_v (suc p, suc q, joins)) [
      | inr none ↦ unhindered says n next top depth t old base worse near v p u q in_v joins side deeper long delay w
          m.kept m.dark m.mixed none
      | inl (y, up) ↦ elim (stronger_one depth v u side y apart deeper up) [
        | inl strong ↦ absurd (weak strong)
        | inr strong ↦
            let (left, free) = done strong in
            unhindered_weak says n next top depth t old base worse near start w m.kept m.dark m.mixed v p u q in_v joins
            long delay side deeper strong left free
      ]
    ]

    -- ---- a state

    module _ (w : MachineState) (m : IsStaleState says n next top depth t old base worse start w)
        (done : IsDone v p u q w) where
      -- who tells it does so in time
      in_time : (s : Station) (pv : Port) → slice_get w.stations (n.place v) ≡ Some s
          → slice_get s.ports p ≡ Some pv → TellerIsReady k s pv → w.time ≤ over
      in_time s pv at there ready =
          let deep = t.deep side u in_u in
          let by_then = tells_in_time says n next top depth t old base worse start w m
          (pred (pred n.reach)) v p u q in_v
          joins limit tells in
          let most = reached (pred (pred n.reach)) (two_more n.reach (depth side v) (omega (arith, deep, deeper))) in
          omega (arith, by_then, most)
        where
          tells : IsTelling says n next top depth t old base worse v p w
          tells s2 q2 at2 there2 =
              let same = same_there w.stations (n.place v) s s2 at at2 in
              let root = subst (λ (z : Station). z.root ≡ old) same ready.0.0 in
              let steps = subst (λ (z : Station). z.steps ≡ base + depth side v) same ready.0.1 in
              let mine = (tells_it says n next top depth t old base worse near v p u q in_v
              joins side deeper long delay w
              m.kept m.dark m.mixed (clear w m done) s2 q2 at2 there2 root steps).mine in
              (root, mine ∙ (λ i. Mine (sym root i) (sym steps i)))

          limit : IsLimit says n next top depth t old base worse start v u (pred (pred n.reach))
          limit x down = let deep = t.deep x u in_u in two_less n.reach (depth x v) (omega (arith, deep, down))

      shows : w.time ≤ over → Shows says n t.well long (base + depth side v) root_then v p u q joins delay w
      shows soon =
          shows_stale says n next top depth t old base worse near v p u q in_v joins side deeper long delay w m.kept
          m.dark m.mixed (clear w m done) (λ s pv at there not. omega (arith, soon, room))

      -- later nobody does
      later : (w.time ≤ over → LinkSettles says k w) → LinkSettles says k w
      later link since pv pu l stand ready =
          link (in_time stand.v pv stand.teller stand.teller_port ready) since pv pu l stand ready

    -- ---- a step

    module _ (w w' : MachineState) (m : IsStaleState says n next top depth t old base worse start w)
        (m' : IsStaleState says n next top depth t old base worse start w') (step : MachineSteps says w w')
        (strongs : AllStrong says n next top depth t old base worse near start w)
        (done' : IsDone v p u q w') (grows : w.time ≤ w'.time) where
      -- its port held what the stronger end told: it begins to tell now
      module _ (su : Station) (pu0 : Port) (r : Reception) (at0 : slice_get w.stations (n.place v) ≡ Some su)
          (there0 : slice_get su.ports p ≡ Some pu0) (held0 : pu0.held ≡ Received r) (soon : w'.time ≤ over) where
        begins_now : LinkSettles says k w'
        begins_now since pv pu l stand ready = by (answers_or_stands says n (λ c. ⊤) v w w' m.kept.calm m'.kept.calm
            in_v.reached.1.begins step stand.v stand.teller)
          where
            mine : pv.held ≡ Mine old (base + depth side v)
            mine = (tells_it says n next top depth t old base worse near v p u q in_v joins side deeper long delay w'
                m'.kept m'.dark m'.mixed (clear w' m' done') stand.v pv stand.teller stand.teller_port ready.0.0
                ready.0.1).mine

            by : (slice_get w.stations (n.place v) ≡ Some stand.v) ⊎ TreeAnswers says n (λ c. ⊤) v w w'
                → LinkStage says k pv.announce pu.held l.frames
            by (inl stood) =
                let same = same_there w.stations (n.place v) su stand.v at0 stood in
                let port = same_there stand.v.ports p pu0 pv
                (subst (λ (z : Station). slice_get z.ports p ≡ Some pu0) same there0) stand.teller_port in
                absurd (let both : Mine old (base + depth side v) ≡ Received r =
                sym mine ∙ ap (λ (z : Port). z.held) (sym port) ∙ held0 in cc)
            by (inr z) = answered z
              where
                answered : TreeAnswers says n (λ c. ⊤) v w w' → LinkStage says k pv.announce pu.held l.frames
                answered z =
                    by_lane (z.lanes (port_of v (suc p)) (port_of u (suc q)) l joins (λ same. apart (sym same))
                    stand.lane) (z.reacts.ports p pv there')
                  where
                    one : stand.v ≡ z.s'
                    one = same_there w'.stations (n.place v) stand.v z.s' stand.teller z.there

                    there' : slice_get z.s'.ports p ≡ Some pv
                    there' = subst (λ (x : Station). slice_get x.ports p ≡ Some pv) one stand.teller_port

                    was_v : z.s.clock ≡ v
                    was_v = (lives_at n w m.kept.calm v in_v.reached.1.begins z.s z.here).1

                    by_lane : ((l0 : Lane) × (slice_get w.lanes (n.lane (port_of v (suc p))) ≡ Some l0)
                        × LaneStep z.s.clock z.sends l0 l) → ((pv0 : Port) × (slice_get z.s.ports p ≡ Some pv0)
                        × PortStep says z.s.clock (suc p) w.time z.touch z.s'.root z.s'.steps pv0 pv z.sends)
                        → LinkStage says k pv.announce pu.held l.frames
                    by_lane (l0, at_l, laid) (pv0, has_pv, answer) =
                        let (from, to, loss, up) = lane_is n t.well w' m'.kept v p u q joins l stand.lane in
                        let now = master_announces says z.s.clock (suc p) w.time z.touch z.s'.root z.s'.steps pv0 pv
                        z.sends r old (base + depth side v) answer was mine in
                        let (y, sent, number, (a, said)) = now.sent in
                        let (f, among, octets) = laid.arrives (sym laid.loss ∙ loss) (sym laid.is_up ∙ up) y sent
                        (sym laid.from ∙ from ∙ (λ j. port_of (sym was_v j) (sym number j))) in
                        let due = due_by n t.well w' m'.kept v p u q joins l f stand.lane
                        (subst (In f) (sym laid.behind) (In-right f l0.frames laid.news among)) in
                        subst (LinkStage says k pv.announce pu.held) (sym laid.behind)
                        (begins says k pv.announce pu.held l0.frames laid.news f
                        (news_final says n t.well long (base + depth side v) root_then v p u q
                        joins delay w' m'.kept z.s'
                        z.there pv there' (subst (λ (x : Station). TellerIsReady k x pv) one ready)
                        (tells_it says n next top depth t old base worse near v p u q in_v joins
                        side deeper long delay w'
                        m'.kept m'.dark m'.mixed (clear w' m' done') z.s' pv z.there there'
                        (subst (λ (x : Station). x.root ≡ old) one ready.0.0)
                        (subst (λ (x : Station). x.steps ≡ base + depth side v) one ready.0.1)) z.sends z.reacts.tells
                        z.s.clock l0 l (sym laid.from ∙ from) laid) among (a, subst (λ o. says o a) (sym octets) said)
                        (omega (arith, due, soon, room)))
                      where
                        was : pv0.held ≡ Received r
                        was =
                            let same = same_there w.stations (n.place v) su z.s at0 z.here in
                            let port = same_there z.s.ports p pu0 pv0
                            (subst (λ (x : Station). slice_get x.ports p ≡ Some pu0) same there0) has_pv in
                            ap (λ (x : Port). x.held) (sym port) ∙ held0

      goes_on : IsDone v p u q w → w'.time ≤ over → LinkSettles says k w → LinkSettles says k w'
      goes_on done soon =
          tells_on says n t.well long (base + depth side v) root_then v p u q joins delay w w'
          (shows w m done (omega (arith, soon, grows))) (shows w' m' done' soon) step

      link_on : (IsDone v p u q w → LinkSettles says k w) → w'.time ≤ over → LinkSettles says k w'
      link_on link soon = elim (back_dec v u in_v (suc p, suc q, joins)) [
        | inr none ↦
            let done : IsDone v p u q w = λ strong. absurd (none strong.side strong.deeper) in
            goes_on done soon (link done)
        | inl (y, up) ↦ elim (stronger_one depth v u side y apart deeper up) [
          | inl strong ↦ absurd (weak strong)
          | inr strong ↦ by_stage strong (stands_there n t.well w m.kept v in_v.reached.1.begins)
        ]
      ]
        where
          by_stage : (strong : IsStronger depth u v)
              → ((s : Station) × (slice_get w.stations (n.place v) ≡ Some s)) → LinkSettles says k w'
          by_stage strong (s, at) =
              by_port (port_stands n t.well w m.kept v p (port_of u (suc q)) s at joins)
            where
              by_port : ((pv : Port) × (slice_get s.ports p ≡ Some pv)) → LinkSettles says k w'
              by_port (pv, there) = elim (stage_holds says n next top depth t old base worse near start w m.kept m.dark
                  m.mixed u q v p in_u back strong (strongs u q v p in_u back strong) s pv at there) [
                    | inl h ↦ begins_now s pv h.r at there h.holds soon
                    | inr (left, free) ↦
                        let done : IsDone v p u q w = λ other. (
                          subst (λ x. HasLeft n w u root_then (base + depth x u))
                              (sym (only_down depth u v strong other.side other.deeper)) left,
                          free,
                        ) in
                        goes_on done soon (link done)
                  ]

      pub tell_on : (IsDone v p u q w → LinkSettles says k w) → LinkSettles says k w'
      tell_on link = later w' m' done' (link_on link)

  -- every step keeps it
  pub all_tell_on : (w w' : MachineState) → IsStaleState says n next top depth t old base worse start w
      → IsStaleState says n next top depth t old base worse start w' → MachineSteps says w w'
      → AllStrong says n next top depth t old base worse near start w → w.time ≤ w'.time → AllTell w → AllTell w'
  all_tell_on w w' m m' step strongs grows all v p u q side in_v joins deeper weak done' =
      tell_on v p u q side in_v joins deeper weak w w' m m' step strongs done' grows
      (λ done. all v p u q side in_v joins deeper weak done)

  -- ---- so whoever tells what is stale is heard

  pub heard_so : (w : MachineState) → IsStaleState says n next top depth t old base worse start w
      → AllStrong says n next top depth t old base worse near start w → AllTell w → (v p u q : ℕ)
      → Tree n next top depth t v → Joins n.graph (port_of v (suc p)) (port_of u (suc q))
      → IsHeard says n next top depth t old base worse near v p u q w
  heard_so w m strongs all v p u q in_v joins tells su pu l at_u there_u lane = by (stands_there n t.well w m.kept v
      in_v.reached.1.begins)
    where
      back : Joins n.graph (port_of u (suc q)) (port_of v (suc p))
      back = Joins-sym n.graph (port_of v (suc p)) (port_of u (suc q)) joins

      in_u : Tree n next top depth t u
      in_u = beside n next top depth t v u in_v (suc p, suc q, joins)

      by : ((s : Station) × (slice_get w.stations (n.place v) ≡ Some s))
          → StaleComes says n next top depth t old base worse near v u l.frames
          ⊎ StaleIsHeld says n next top depth t old base worse near pu.held
      by (s, at) = by_port (port_stands n t.well w m.kept v p (port_of u (suc q)) s at joins)
        where
          by_port : ((pv : Port) × (slice_get s.ports p ≡ Some pv))
              → StaleComes says n next top depth t old base worse near v u l.frames
              ⊎ StaleIsHeld says n next top depth t old base worse near pu.held
          by_port (pv, there) = elim (back_dec v u in_v (suc p, suc q, joins)) [
            | inr none ↦ tell (λ strong. none strong.other strong.back)
                (λ strong. absurd (none strong.side strong.deeper))
            | inl (y, up) ↦ elim (stronger_one depth v u stale.side y
                (t.well.apart (port_of v (suc p)) (port_of u (suc q)) joins) down up) [
                  | inl strong ↦ by_strong strong
                  | inr strong ↦ by_weak strong
                ]
          ]
            where
              root : s.root ≡ old
              root = (tells s pv at there).0

              mine : pv.held ≡ Mine s.root s.steps
              mine = (tells s pv at there).1

              stale : FollowsStale says n next top depth t old base worse w m.kept m.dark v in_v
                  (λ a b i. over_all says n next top depth t old base worse near w m.mixed v a b i in_v) s at
              stale = follows_stale says n next top depth t old base worse w m.kept m.dark v in_v
                  (λ a b i. over_all says n next top depth t old base worse near w m.mixed v a b i in_v) s at root

              down : IsDeeper depth stale.side v u
              down = stale_down says n next top depth t old base worse w m.kept m.dark v in_v
                  (λ a b i. over_all says n next top depth t old base worse near w m.mixed v a b
                  i in_v) s at p u q joins pv
                  there s.root s.steps mine stale

              tell : (IsStronger depth v u → ⊥) → IsDone v p u q w
                  → StaleComes says n next top depth t old base worse near v u l.frames
                  ⊎ StaleIsHeld says n next top depth t old base worse near pu.held
              tell weak done =
                  heard_by says n next top depth t old base worse near v p u q in_v joins stale.side down long
                  (omega (arith, room)) w m.kept m.dark m.mixed
                  (all v p u q stale.side in_v joins down weak done) s pv at there root stale.steps su pu l at_u there_u
                  lane

              by_strong : IsStronger depth v u → StaleComes says n next top depth t old base worse near v u l.frames
                  ⊎ StaleIsHeld says n next top depth t old base worse near pu.held
              by_strong strong = elim (stage_holds says n next top depth t old base worse near start w m.kept m.dark
                  m.mixed v p u q in_v joins strong (strongs v p u q in_v joins strong) su pu at_u there_u) [
                    | inl h ↦ inr (h.r, h.holds, h.root)
                    | inr (left, free) ↦
                        absurd (left s at (old_telling says n next top depth t old base worse near start w m.kept m.dark
                        m.mixed v p u q in_v joins strong s at pv there s.root s.steps root mine))
                  ]

              by_weak : IsStronger depth u v → StaleComes says n next top depth t old base worse near v u l.frames
                  ⊎ StaleIsHeld says n next top depth t old base worse near pu.held
              by_weak strong = elim (stage_holds says n next top depth t old base worse near start w m.kept m.dark
                  m.mixed u q v p in_u back strong (strongs u q v p in_u back strong) s pv at there) [
                    | inl h ↦ absurd (let both : Mine s.root s.steps ≡ Received h.r = sym mine ∙ h.holds in cc)
                    | inr (left, free) ↦ tell (λ other. not_both depth v u other strong) (λ other. (
                      subst (λ x. HasLeft n w u root_then (base + depth x u))
                          (sym (only_down depth u v strong other.side other.deeper)) left,
                      free,
                    ))
                  ]

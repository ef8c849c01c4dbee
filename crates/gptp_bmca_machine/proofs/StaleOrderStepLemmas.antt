-- A tree with two tops: every step keeps the stages of links between them, seen from their stronger ends. Who has left
-- what is stale there doesn't come back to it.
use Rattle.std.proofs.Common.{◌≡◌, ◌⊎◌, ◌<◌, ◌≤◌, ◌+◌, ℕ, zero, suc, true, Some, slice_get, sym, ap, subst, ◌∙◌, inl, inr, arith}
use Rattle.std.specs.Bool.{⊤}
use Rattle.gptp_graph.specs.Snapshot.{System, port_of, Joins, IsLinked}
use Rattle.gptp_graph.proofs.LinkLemmas.{Joins-sym}
use Rattle.gptp_bmca_machine.specs.Acts.{LaneStep, MachineSteps}
use Rattle.gptp_bmca_machine.specs.Calm.{IsCalmPort}
use Rattle.gptp_bmca_machine.specs.Frame.{Lane, Spelling}
use Rattle.gptp_bmca_machine.specs.Link.{HearsSettled, LinkSettles, TellerIsReady}
use Rattle.gptp_bmca_machine.specs.LinkStage.{FinalAnnounceStays, Wiring}
use Rattle.gptp_bmca_machine.specs.LossLaws.{IsAfterLoss}
use Rattle.gptp_bmca_machine.specs.Network.{Network}
use Rattle.gptp_bmca_machine.specs.Reacts.{PortStep}
use Rattle.gptp_bmca_machine.specs.RestLaws.{LinkStays}
use Rattle.gptp_bmca_machine.specs.Station.{HoldsAt, MachineState, Mine, Port, Received, Reception, Station}
use Rattle.gptp_bmca_machine.specs.TwoTops.{Side, IsTreeOfTops}
use Rattle.gptp_bmca_machine.proofs.FallLeaveLemmas.{TreeAnswers, answers_or_stands}
use Rattle.gptp_bmca_machine.proofs.FallLemmas.{HasChoice, HasLeft, IsFreeAt, IsLed, IsLeft, IsNewTold, IsOld, choice_dec, falls_by}
use Rattle.gptp_bmca_machine.proofs.LinkStageLemmas.{settled}
use Rattle.gptp_bmca_machine.proofs.LinkStepLemmas.{AtLink, StandsAtEnd, lives_at}
use Rattle.gptp_bmca_machine.proofs.LinkTellsLemmas.{Shows, tells_on}
use Rattle.gptp_bmca_machine.proofs.PlaceLemmas.{same_there}
use Rattle.gptp_bmca_machine.proofs.StaleEndLemmas.{IsLimit, IsStaleState, tells_in_time}
use Rattle.gptp_bmca_machine.proofs.StaleLeaveLemmas.{free_on, laid_now, new_said}
use Rattle.gptp_bmca_machine.proofs.StaleLemmas.{BareDrop, BareHoldStale, FollowsStale, HeldOver, follows_stale, whole_worse}
use Rattle.gptp_bmca_machine.proofs.StaleOrderLemmas.{AllStrong, HoldsOldTold, IsStronger, StrongStage, old_by, old_telling, only_down, ordered_so, other_farther, side_of, stage_holds, unhindered_strong}
use Rattle.gptp_bmca_machine.proofs.StaleStepLemmas.{AllMixed, IsOrdered, IsTelling}
use Rattle.gptp_bmca_machine.proofs.StaleToldLemmas.{over_all, shows_stale, stale_root, tells_it, weaker_there}
use Rattle.gptp_bmca_machine.proofs.StandsLemmas.{port_on, port_stands, stands_there}
use Rattle.gptp_bmca_machine.proofs.StillLemmas.{still}
use Rattle.gptp_bmca_machine.proofs.ToldLemmas.{HoldsTold, old_begins}
use Rattle.gptp_bmca_machine.proofs.ToldStepLemmas.{told_on}
use Rattle.gptp_bmca_machine.proofs.TwoTopsLemmas.{IsDeeper, Tree, beside, one_above}

module _ (says : Spelling) (n : Network) (next : System) (top : Side → ℕ) (depth : Side → ℕ → ℕ)
    (t : IsTreeOfTops n next top depth) (old base : ℕ) (worse : old < next.identity)
    (near : (side : Side) (v : ℕ) → Tree n next top depth t v → base + depth side v < 255) (start : ℕ) where
  abbrev root_then : System
  root_then = stale_root says n next top depth t old base worse near

  module _ (v p u q : ℕ) (in_v : Tree n next top depth t v)
      (joins : Joins n.graph (port_of v (suc p)) (port_of u (suc q))) (strong : IsStronger depth v u) where
    abbrev far : ℕ
    far = base + depth strong.side v

    abbrev k : Wiring
    k = still n far root_then v p u q

    back : Joins n.graph (port_of u (suc q)) (port_of v (suc p))
    back = Joins-sym n.graph (port_of v (suc p)) (port_of u (suc q)) joins

    in_u : Tree n next top depth t u
    in_u = beside n next top depth t v u in_v (suc p, suc q, joins)

    limit : IsLimit says n next top depth t old base worse start v u (depth strong.side v)
    limit side down =
        let same = ap (λ (x : Side). depth x v) (only_down depth v u strong side down) in omega (arith, same)

    -- ---- a state

    module _ (w : MachineState) (kept : IsAfterLoss n w)
        (dark : BareHoldStale says n next top depth t old base worse w)
        (mixed : AllMixed says n next top depth t old base worse w) where
      -- what the port at the end shows
      hears_old : (pu : Port) → StandsAtEnd says n v p u q w pu → HearsSettled k pu
      hears_old pu end = record {
        weaker = weaker_there says n next top depth t old base worse near v p u q in_v joins strong.side strong.deeper
            n.most (omega arith) w kept dark mixed
            (unhindered_strong says n next top depth t old base worse near start w kept dark mixed v p u q in_v joins
            n.most (omega arith) strong) end.s pu end.at end.there;
        source = source;
        long = λ r holds log. is_port.long r (port_of v (suc p)) holds joins (source r holds) log;
      }
        where
          live : (end.s.live ≡ true) × (end.s.clock ≡ u)
          live = lives_at n w kept.calm u in_u.reached.1.begins end.s end.at

          is_port : IsCalmPort n w.time (port_of u (suc q)) pu
          is_port =
              subst (λ c. IsCalmPort n w.time (port_of c (suc q)) pu) live.1
              ((kept.calm.stations (n.place u) end.s end.at live.0).ports q pu end.there)

          source : (r : Reception) → pu.held ≡ Received r → r.said.source ≡ port_of v (suc p)
          source r holds =
              let has = kept.calm.lanes (port_of v (suc p)) (port_of u (suc q)) joins in
              (mixed v p u q in_v joins end.s pu has.lane end.at end.there has.there).source r holds

      module _ (is_old : IsOld n w v root_then far) where
        ready : (s : Station) (pv : Port) → slice_get w.stations (n.place v) ≡ Some s → slice_get s.ports p ≡ Some pv
            → TellerIsReady k s pv
        ready s pv at there = (is_old s at, port_on n t.well w kept v p (port_of u (suc q)) s pv at there joins)

        shows_old : Shows says n t.well n.most far root_then v p u q joins (omega arith) w
        shows_old = shows_stale says n next top depth t old base worse near v p u q in_v joins strong.side strong.deeper
            n.most (omega arith) w kept dark mixed
            (unhindered_strong says n next top depth t old base worse near start w kept dark mixed v p u q in_v joins
            n.most (omega arith) strong) (λ s pv at there not. absurd (not (ready s pv at there)))

        mine_old : (s : Station) (pv : Port) → slice_get w.stations (n.place v) ≡ Some s
            → slice_get s.ports p ≡ Some pv → pv.held ≡ Mine old far
        mine_old s pv at there =
            (tells_it says n next top depth t old base worse near v p u q in_v joins strong.side strong.deeper n.most
            (omega arith) w kept dark mixed
            (unhindered_strong says n next top depth t old base worse near start w kept dark mixed v p u q in_v joins
            n.most (omega arith) strong) s pv at there (is_old s at).0 (is_old s at).1).mine

        tells_old : IsTelling says n next top depth t old base worse v p w
        tells_old s pv at there =
            let (root, steps) = is_old s at in (
              root,
              mine_old s pv at there ∙ (λ i. Mine (sym root i) (sym steps i)),
            )

        timer_old : (s : Station) (pv : Port) → slice_get w.stations (n.place v) ≡ Some s
            → slice_get s.ports p ≡ Some pv → w.time ≤ pv.announce
        timer_old s pv at there =
            let (live, clock) = lives_at n w kept.calm v in_v.reached.1.begins s at in
            (((kept.calm.stations (n.place v) s at live).ports p pv there).timer old far (mine_old s pv at there)).0

      -- who has left what is stale doesn't tell it over the link
      not_telling : HasLeft n w v root_then far → IsTelling says n next top depth t old base worse v p w → ⊥
      not_telling left tells = by (stands_there n t.well w kept v in_v.reached.1.begins)
        where
          by : ((s : Station) × (slice_get w.stations (n.place v) ≡ Some s)) → ⊥
          by (s, at) =
              let (pv, there) = port_stands n t.well w kept v p (port_of u (suc q)) s at joins in
              let (root, mine) = tells s pv at there in
              left s at (old_telling says n next top depth t old base worse near start w kept dark mixed v p u q in_v
              joins strong s at pv there s.root s.steps root mine)

  -- ---- a step

  module _ (w w' : MachineState) (m : IsStaleState says n next top depth t old base worse start w)
      (kept' : IsAfterLoss n w') (dark' : BareHoldStale says n next top depth t old base worse w')
      (mixed' : AllMixed says n next top depth t old base worse w') (step : MachineSteps says w w')
      (drops : BareDrop says n next top depth t old base worse w w')
      (strongs : AllStrong says n next top depth t old base worse near start w) where
    ordered : IsOrdered says n next top depth t old base worse w
    ordered = ordered_so says n next top depth t old base worse near start w m.kept m.dark m.mixed strongs

    -- what a link comes to, and that at the last stage it stays there
    abbrev Then : (v p u q : ℕ) → IsStronger depth v u → Type 0
    Then v p u q strong =
        StrongStage says n next top depth t old base worse near start v p u q strong w'
        × (HasLeft n w v root_then (base + depth strong.side v) × IsFreeAt says n.graph n v p u q w
        → HasLeft n w' v root_then (base + depth strong.side v) × IsFreeAt says n.graph n v p u q w')

    module _ (v p u q : ℕ) (in_v : Tree n next top depth t v)
        (joins : Joins n.graph (port_of v (suc p)) (port_of u (suc q))) (strong : IsStronger depth v u)
        (above : (z b i : ℕ) → Tree n next top depth t z → Joins n.graph (port_of z (suc b)) (port_of v (suc i))
        → (s : IsStronger depth z v) → depth s.side z < depth strong.side v → Then z b v i s) where
      abbrev d : ℕ
      d = base + depth strong.side v

      abbrev last : ℕ
      last = falls_by n start (suc (depth strong.side v))

      -- who stands there before
      stood : (s : Station) × (slice_get w.stations (n.place v) ≡ Some s)
      stood = stands_there n t.well w m.kept v in_v.reached.1.begins

      -- who has left what is stale doesn't come back to it
      left_stays : HasLeft n w v root_then d → HasLeft n w' v root_then d
      left_stays left s' at' (root, steps) = by stale.from
        where
          stale : FollowsStale says n next top depth t old base worse w' kept' dark' v in_v
              (λ a b i. over_all says n next top depth t old base worse near w' mixed' v a b i in_v) s' at'
          stale = follows_stale says n next top depth t old base worse w' kept' dark' v in_v
              (λ a b i. over_all says n next top depth t old base worse near w' mixed' v a b i in_v) s' at' root

          -- it follows the top on its side
          same_far : depth stale.side v ≡ depth strong.side v
          same_far = let far = stale.steps in omega (arith, far, steps)

          is_side : stale.side ≡ strong.side
          is_side = elim (side_of depth v u strong stale.side) [
            | inl same ↦ same
            | inr is ↦
                let at_v = ap (λ (x : Side). depth x v) is in
                let farther = other_farther depth v u strong in
                absurd (omega (arith, at_v, farther, same_far))
          ]

          -- what gives it its old choice it didn't hold
          none : (i : ℕ) (r : Reception) → HoldsAt stood.0 i r → r.said.root ≡ old → suc r.said.steps ≡ d → ⊥
          none i r holds is_root is_steps =
              left stood.0 stood.1
              (old_by says n next top depth t old base worse near start w m.kept m.dark m.mixed v u in_v strong stood.0
              stood.1 i r holds is_root is_steps)

          by : ((h : HeldOver says n next top depth t old base worse v stale.i stale.r)
              × IsDeeper depth stale.side h.v v × (stale.r.said.root ≡ old))
              ⊎ ((v ≡ top stale.side) × (IsLinked n.graph (port_of v (suc stale.i)) → ⊥)) → ⊥
          by (inr (is_top, bare)) =
              let (r, holds) = drops v stood.0 s' stale.i stale.r in_v stood.1 at' bare stale.holds in
              let was = m.dark v stood.0 stale.i r in_v stood.1 holds bare in
              let zero_deep = ap (depth stale.side) is_top ∙ t.first stale.side in
              let few = was.steps in
              none stale.i r holds was.root (omega (arith, few, zero_deep, same_far))
          by (inl (h, down, is_old)) = by_stage (stage_holds says n next top depth t old base worse near start w m.kept
              m.dark m.mixed h.v h.p v stale.i h.in_v h.joins first (strongs h.v h.p v stale.i h.in_v h.joins first)
              stood.0 port.0 stood.1 port.1)
            where
              to_v : Joins n.graph (port_of v (suc stale.i)) (port_of h.v (suc h.p))
              to_v = Joins-sym n.graph (port_of h.v (suc h.p)) (port_of v (suc stale.i)) h.joins

              port : (pu : Port) × (slice_get stood.0.ports stale.i ≡ Some pu)
              port = port_stands n t.well w m.kept v stale.i (port_of h.v (suc h.p)) stood.0 stood.1 to_v

              down_side : IsDeeper depth strong.side h.v v
              down_side = subst (λ x. IsDeeper depth x h.v v) is_side down

              -- the link from above is one between the tops too
              up_other : IsDeeper depth strong.other v h.v
              up_other = elim (t.steps strong.other v h.v in_v (suc stale.i, suc h.p, to_v)) [
                | inl deeper ↦ deeper
                | inr nearer ↦
                    let one : h.v ≡ u =
                    one_above n next top depth t strong.other v h.v u in_v (suc stale.i, suc h.p, to_v)
                    (suc p, suc q, joins) nearer strong.back in
                    let at_u = ap (depth strong.side) one in
                    let deep = strong.deeper in
                    absurd (omega (arith, at_u, deep, down_side))
              ]

              first : IsStronger depth h.v v
              first = record {
                side = strong.side;
                other = strong.other;
                deeper = down_side;
                back = up_other;
                first = inl (let farther = other_farther depth v u strong in omega (arith, farther, down_side));
              }

              by_stage : HoldsOldTold says n next top depth t old base worse near start w m.kept m.dark m.mixed h.v h.p
                  v stale.i h.in_v h.joins first port.0
                  ⊎ (HasLeft n w h.v root_then (base + depth first.side h.v) × IsFreeAt says
                  n.graph n h.v h.p v stale.i w) → ⊥
              by_stage (inl held) =
                  let far = held.steps in
                  none stale.i held.r (port.0, port.1, held.holds) held.root (omega (arith, far, down_side))
              by_stage (inr done) =
                  let (left_z, free) = (above h.v h.p stale.i h.in_v h.joins first
                  (omega (arith, down_side))).1 done in
                  let has = kept'.calm.lanes (port_of h.v (suc h.p)) (port_of v (suc stale.i)) h.joins in
                  let whole = (free s' stale.holds.0 has.lane at' stale.holds.1 has.there).hears stale.r stale.holds.2
                  in
                  let more = whole_worse says n next top depth t old base worse h.v stale.r.said h.in_v whole in
                  omega (arith, more, is_old)

      -- what it tells then is of what is left
      module _ (left' : HasLeft n w' v root_then d) where
        not' : IsTelling says n next top depth t old base worse v p w' → ⊥
        not' = not_telling v p u q in_v joins strong w' kept' dark' mixed' left'

        done_then : IsFreeAt says n.graph n v p u q w → IsFreeAt says n.graph n v p u q w'
        done_then =
            free_on says n next top depth t old base worse w w' m.kept kept' dark' step m.mixed ordered v p u q in_v
            joins strong.side strong.deeper last not'

        told_then : AtLink says n v p u q (HoldsTold says (still n d root_then v p u q)
            (IsNewTold n.graph (port_of v (suc p)) u) last) w
            → AtLink says n v p u q (HoldsTold says (still n d root_then v p u q)
            (IsNewTold n.graph (port_of v (suc p)) u) last) w' ⊎ IsFreeAt says n.graph n v p u q w'
        told_then =
            told_on says n t.well n.graph d root_then v p u q joins last w w' m.kept kept' step
            (hears_old v p u q in_v joins strong w m.kept m.dark m.mixed)
            (hears_old v p u q in_v joins strong w' kept' dark' mixed')
            (new_said says n next top depth t old base worse w w' m.kept kept' dark' step m.mixed ordered v p u q in_v
            joins strong.side strong.deeper last not')

        -- it leaves what is stale in this step
        leaves_now : IsOld n w v root_then d → LinkStays says (still n d root_then v p u q) w
            → TreeAnswers says n (λ c. ⊤) v w w'
            → AtLink says n v p u q (HoldsTold says (still n d root_then v p u q)
            (IsNewTold n.graph (port_of v (suc p)) u) last) w'
        leaves_now is_old stays z su pu l' at there lane' =
            by_lane (z.lanes (port_of v (suc p)) (port_of u (suc q)) l' joins (λ same.
            t.well.apart (port_of v (suc p)) (port_of u (suc q)) joins (sym same)) lane')
            (port_stands n t.well w' kept' v p (port_of u (suc q)) z.s' z.there joins)
          where
            tells : IsTelling says n next top depth t old base worse v p w
            tells = tells_old v p u q in_v joins strong w m.kept m.dark m.mixed is_old

            in_time : w.time ≤ falls_by n start (depth strong.side v)
            in_time = tells_in_time says n next top depth t old base worse start w m (depth strong.side v) v p u q in_v
                joins (limit v p u q in_v joins strong) tells

            room : w.time + n.most ≤ last
            room = omega (arith, in_time)

            was_v : z.s.clock ≡ v
            was_v = (lives_at n w m.kept.calm v in_v.reached.1.begins z.s z.here).1

            at_w : slice_get w.stations (n.place u) ≡ Some su
            at_w = z.others u su (in_u v p u q in_v joins strong).reached.1.begins tt
                (λ same. t.well.apart (port_of v (suc p)) (port_of u (suc q)) joins (sym same)) at

            by_lane : ((l : Lane) × (slice_get w.lanes (n.lane (port_of v (suc p))) ≡ Some l)
                × LaneStep z.s.clock z.sends l l') → ((pv' : Port) × (slice_get z.s'.ports p ≡ Some pv'))
                → HoldsTold says (still n d root_then v p u q) (IsNewTold n.graph (port_of v (suc p)) u) last pu.held
                l'.frames
            by_lane (l, at_l, laid) (pv', there') = by_port (z.reacts.ports p pv' there')
              where
                by_port : ((pv : Port) × (slice_get z.s.ports p ≡ Some pv)
                    × PortStep says z.s.clock (suc p) w.time z.touch z.s'.root z.s'.steps pv pv' z.sends)
                    → HoldsTold says (still n d root_then v p u q) (IsNewTold n.graph
                    (port_of v (suc p)) u) last pu.held
                    l'.frames
                by_port (pv, has_pv, answer) =
                    let (f, among, said, soon, all) = laid_now says n next top depth t old base worse w w' m.kept kept'
                    dark' step m.mixed ordered v p u q in_v joins strong.side strong.deeper last not' tells room z pv
                    pv' has_pv there'
                    (subst (λ c. PortStep says c (suc p) w.time z.touch z.s'.root z.s'.steps pv pv' z.sends) was_v
                    answer) l l' lane' laid in
                    let long = (hears_old v p u q in_v joins strong w m.kept m.dark m.mixed pu
                    (record { s = su; at = at_w; there = there })).long stay.what stay.holds stay.final.log in
                    let due : f.due ≤ last = omega (arith, soon, room) in
                    subst (HoldsTold says (still n d root_then v p u q) (IsNewTold n.graph (port_of v (suc p)) u) last
                    pu.held) (sym laid.behind)
                    (old_begins says (still n d root_then v p u q) (IsNewTold n.graph (port_of v (suc p)) u) last w.time
                    pv.announce pu.held l.frames laid.news f stay long
                    (timer_old v p u q in_v joins strong w m.kept m.dark m.mixed is_old z.s pv z.here has_pv) all among
                    said soon due)
                  where
                    stay : FinalAnnounceStays says (still n d root_then v p u q) pv.announce pu.held l.frames
                    stay = stays pv pu l (record {
                      v = z.s;
                      u = su;
                      teller = z.here;
                      teller_port = has_pv;
                      hearer = at_w;
                      hearer_port = there;
                      lane = at_l;
                    })

      -- it goes on to tell its old choice, or has left it now
      led_then : IsLed says n root_then d v p u q w
          → IsLed says n root_then d v p u q w' ⊎ IsLeft says n.graph n root_then d last v p u q w'
      led_then (is_old, stays) = by (stands_there n t.well w' kept' v in_v.reached.1.begins)
        where
          by : ((s : Station) × (slice_get w'.stations (n.place v) ≡ Some s))
              → IsLed says n root_then d v p u q w' ⊎ IsLeft says n.graph n root_then d last v p u q w'
          by (s', at') = elim (choice_dec s' root_then d) [
            | yes old' ↦ inl (goes_on (λ s at. subst (λ (x : Station). HasChoice x root_then d)
                (same_there w'.stations (n.place v) s' s at' at) old'))
            | no not_old ↦ inr (left_now not_old)
          ]
            where
              goes_on : IsOld n w' v root_then d → IsLed says n root_then d v p u q w'
              goes_on is_old' = (
                is_old',
                (λ pv pu l stand.
                    settled says (still n d root_then v p u q) w'.time pv.announce pu.held l.frames
                    (timer_old v p u q in_v joins strong w' kept' dark' mixed' is_old' stand.v pv stand.teller
                    stand.teller_port) (λ f among.
                    kept'.calm.left (n.lane (port_of v (suc p))) l f stand.lane among) (omega arith) kept'.late
                    (link' (omega arith) pv pu l stand
                    (ready v p u q in_v joins strong w' kept' dark' mixed' is_old' stand.v pv stand.teller
                    stand.teller_port))),
              )
                where
                  link' : LinkSettles says (still n d root_then v p u q) w'
                  link' =
                      tells_on says n t.well n.most d root_then v p u q joins (omega arith) w w'
                      (shows_old v p u q in_v joins strong w m.kept m.dark m.mixed is_old)
                      (shows_old v p u q in_v joins strong w' kept' dark' mixed' is_old') step
                      (λ since pv pu l stand is_ready. inr (inr (stays pv pu l stand)))

              left_now : (HasChoice s' root_then d → ⊥) → IsLeft says n.graph n root_then d last v p u q w'
              left_now not_old =
                  let begins = in_v.reached.1.begins in (
                    left',
                    elim (answers_or_stands says n (λ c. ⊤) v w w' m.kept.calm kept'.calm begins step s' at') [
                      | inl still_there ↦ absurd (not_old (is_old s' still_there))
                      | inr z ↦ leaves_now left' is_old stays z
                    ],
                  )
                where
                  left' : HasLeft n w' v root_then d
                  left' s at choice = not_old (subst (λ (x : Station). HasChoice x root_then d)
                      (same_there w'.stations (n.place v) s s' at at') choice)

      then_one : Then v p u q strong
      then_one = (
        by (strongs v p u q in_v joins strong),
        (λ (left, free). let left' = left_stays left in (left', done_then left' free)),
      )
        where
          by : StrongStage says n next top depth t old base worse near start v p u q strong w
              → StrongStage says n next top depth t old base worse near start v p u q strong w'
          by (inl led) = elim (led_then led) [ inl on ↦ inl on | inr left ↦ inr (inl left) ]
          by (inr (inl (left, told))) =
              let left' = left_stays left in
              elim (told_then left' told) [
                | inl on ↦ inr (inl (left', on))
                | inr free ↦ inr (inr (left', free))
              ]
          by (inr (inr (left, free))) =
              let left' = left_stays left in inr (inr (left', done_then left' free))

    -- so all do, by their depth
    then_below : (e v p u q : ℕ) → Tree n next top depth t v → Joins n.graph (port_of v (suc p)) (port_of u (suc q))
        → (strong : IsStronger depth v u) → depth strong.side v < e → Then v p u q strong
    then_below zero v p u q in_v joins strong less = absurd (omega (arith, less))
    then_below (suc e) v p u q in_v joins strong less =
        then_one v p u q in_v joins strong (λ z b i in_z joins_z s nearer.
        then_below e z b v i in_z joins_z s (omega (arith, less, nearer)))

    pub strong_on : AllStrong says n next top depth t old base worse near start w'
    strong_on v p u q in_v joins strong =
        (then_below (suc (depth strong.side v)) v p u q in_v joins strong (omega arith)).0

    -- and what has come has come for good
    pub strong_done : (v p u q : ℕ) → Tree n next top depth t v
        → Joins n.graph (port_of v (suc p)) (port_of u (suc q)) → (strong : IsStronger depth v u)
        → HasLeft n w v root_then (base + depth strong.side v) × IsFreeAt says n.graph n v p u q w
        → HasLeft n w' v root_then (base + depth strong.side v) × IsFreeAt says n.graph n v p u q w'
    strong_done v p u q in_v joins strong =
        (then_below (suc (depth strong.side v)) v p u q in_v joins strong (omega arith)).1

-- The end of the way out turns away from the tree: as soon as it hears that the system at the other end has left its
-- old choice it tells that its own.
use Rattle.std.proofs.Common.{◌≡◌, ◌≢◌, ◌⊎◌, ◌<◌, ◌≤◌, ◌+◌, ℕ, suc, true, List, [], ◌∷◌, Some, None, slice_get, refl, sym, ap, subst, ◌∙◌, inl, inr, arith}
use Rattle.gptp_lists.specs.Members.{In}
use Rattle.gptp_lists.proofs.SystemSpecLemmas.{In-parts, In-right}
use Rattle.gptp_graph.specs.Best.{IsBest}
use Rattle.gptp_graph.specs.Snapshot.{Adjacent, Joins, PortIdentity, Snapshot, System, clocks, port_of}
use Rattle.gptp_graph.proofs.BestLemmas.{IsBest-neighbour}
use Rattle.gptp_graph.proofs.DistanceLemmas.{IsDistance-neighbour, IsDistance-unique}
use Rattle.gptp_graph.proofs.ExistenceLemmas.{distance_exists}
use Rattle.gptp_graph.proofs.LinkLemmas.{Joins-sym}
use Rattle.gptp_bmca_machine.specs.Acts.{LaneStep, MachineSteps}
use Rattle.gptp_bmca_machine.specs.AtRest.{ChoosesItself, ChoosesPort, StationIsAtRest}
use Rattle.gptp_bmca_machine.specs.Calm.{HasLane}
use Rattle.gptp_bmca_machine.specs.Clean.{CameSound, Whole}
use Rattle.gptp_bmca_machine.specs.Facts.{FollowsItself, FollowsPort}
use Rattle.gptp_bmca_machine.specs.Frame.{Announce, AnnounceFrame, Lane, Send, Spelling}
use Rattle.gptp_bmca_machine.specs.Link.{LinkSettles, TellerIsReady, TellerIsSettled}
use Rattle.gptp_bmca_machine.specs.LinkStage.{FrameSaysAnnounce, LinkStage, Wiring}
use Rattle.gptp_bmca_machine.specs.Network.{Network}
use Rattle.gptp_bmca_machine.specs.Reacts.{PortStep}
use Rattle.gptp_bmca_machine.specs.RestLaws.{LinkStays}
use Rattle.gptp_bmca_machine.specs.Station.{Aged, Disabled, Held, HoldsAt, MachineState, Mine, Port, Received, Reception, Station}
use Rattle.gptp_bmca_machine.specs.TurnTree.{TurnsTree}
use Rattle.gptp_bmca_machine.proofs.ClearLemmas.{trace_short, weaker_clear}
use Rattle.gptp_bmca_machine.proofs.FallLeaveLemmas.{TreeAnswers, answers_or_stands}
use Rattle.gptp_bmca_machine.proofs.FallHeldLemmas.{holds_in_tree, old_in_time}
use Rattle.gptp_bmca_machine.proofs.FallLemmas.{HasLeft, IsFreeAt, IsLed, IsLeft, IsNewTold, clear_left, falls_by, own_new}
use Rattle.gptp_bmca_machine.proofs.LinkEndsLemmas.{ShowEnds, on_time, teller_on, telling, telling_kept}
use Rattle.gptp_bmca_machine.proofs.LinkStageLemmas.{begins}
use Rattle.gptp_bmca_machine.proofs.LinkStepLemmas.{AtLink, lives_at}
use Rattle.gptp_bmca_machine.proofs.MovedTreeLemmas.{LeadsDown, MovesTree}
use Rattle.gptp_bmca_machine.proofs.NearestLemmas.{on_way, steps_more, steps_not_fewer}
use Rattle.gptp_bmca_machine.proofs.PlaceLemmas.{same_holds, same_place, same_there}
use Rattle.gptp_bmca_machine.proofs.RestLemmas.{Chooses}
use Rattle.gptp_bmca_machine.proofs.StillLemmas.{port_there, station_of, still}
use Rattle.gptp_bmca_machine.proofs.TellsLemmas.{master_announces, news_final}
use Rattle.gptp_bmca_machine.proofs.ToldLemmas.{HoldsTold, told_due}
use Rattle.gptp_bmca_machine.proofs.TurnLemmas.{OutIsAt, TurnsBack, out_chooses, out_is, out_is_at}
use Rattle.gptp_bmca_machine.proofs.TurnTreeLemmas.{IsOf, LeadsOut, best_told, beyond_out, far_told, out_lives, out_was_best, turns_moves}

module _ (says : Spelling) (g : Snapshot) (n : Network) (tree : List ℕ) (top other last out : ℕ) (best : System)
    (base : ℕ) (depth : ℕ → ℕ) (t : TurnsTree g n tree top other last out best base depth) (start : ℕ) (p k : ℕ)
    (joins : Joins n.graph (port_of last (suc p)) (port_of out (suc k)))
    (leads : LeadsDown g (IsOf tree) (LeadsOut last out) base depth last out) where
  abbrev m : MovesTree g n (IsOf tree) (LeadsOut last out) top best best base depth
  m = turns_moves g n tree top other last out best base depth t

  abbrev o : OutIsAt says g n tree top other last out best base depth t
  o = out_is_at says g n tree top other last out best base depth t

  pub back : Joins n.graph (port_of out (suc k)) (port_of last (suc p))
  back = Joins-sym n.graph (port_of last (suc p)) (port_of out (suc k)) joins

  -- before it was as far as the system at the other end, or farther by one
  pub as_far : (base + depth last ≤ o.d) × (o.d ≤ suc (base + depth last))
  as_far =
      let same : leads.far ≡ o.d = IsDistance-unique g out leads.far o.d t.left.graph leads.there o.there in
      let joined : Adjacent g last out =
      (suc p, suc k, t.left.links (port_of last (suc p)) (port_of out (suc k)) joins) in
      let by = IsDistance-neighbour g last out (base + depth last) o.d t.left.graph joined (t.was last t.in_last)
      o.there
      in (
        elim leads.farther [ inl less ↦ omega (arith, less, same) | inr (equal, clock) ↦ omega (arith, equal, same) ],
        by,
      )

  -- what the system at the other end says of what is left is worse than the own choice
  pub worse_out : (a : Announce) → Whole t.ways last a
      → (best.identity < a.root) ⊎ ((a.root ≡ best.identity) × (suc o.d ≤ a.steps))
  worse_out a whole = elim (own_new says g n (IsOf tree) (LeadsOut last out) top best best base depth m start last a
      t.in_last whole) [
        | inl over ↦ inl over
        | inr (root, more) ↦ inr (
          root,
          (
              let (far, here) = distance_exists n.graph last t.well (t.lives last t.in_last) in
              let by = beyond_out g n tree top other last out best base depth t far last o.d t.in_last here o.now in
              let is_best = best_told g n tree top other last out best base depth t last t.in_last in
              let few = steps_not_fewer t.ways t.told.well last a whole best is_best last far (inl refl) is_best
              (far_told g n tree top other last out best base depth t last far t.in_last here) root in
              omega (arith, by, few)),
        )
      ]

  -- what was told before is held until what is told since comes
  abbrev Told : MachineState → Type 0
  Told w =
      AtLink says n last p out k
      (HoldsTold says (still n (base + depth last) best last p out k) (IsNewTold t.ways (port_of last (suc p)) out)
      (falls_by n start (suc (depth last)))) w

  -- the state of a link that has turned: what comes over it from the tree is of what is left
  abbrev pub HasTurned : MachineState → Type 0
  HasTurned w = HasLeft n w last best (base + depth last) × IsFreeAt says t.ways n last p out k w

  -- before that what was told before is still told, or on its way
  not_later : (w : MachineState) → TurnsBack says g n tree top other last out best base depth t start w
      → IsLed says n best (base + depth last) last p out k w
      ⊎ IsLeft says t.ways n best (base + depth last) (falls_by n start (suc (depth last))) last p out k w
      → w.time ≤ falls_by n start (suc (depth last))
  not_later w is (inl (old, stays)) =
      let by = old_in_time says g n (IsOf tree) (LeadsOut last out) top best best base depth m start w is.back.after
      is.back.falling (depth last) last refl t.in_last old in
      omega (arith, by)
  not_later w is (inr (not, told)) =
      let (s, at, live, clock) = station_of g n t.well t.left w is.back.after.kept is.back.after.fits.stations out
      (out_lives g n tree top other last out best base depth t) in
      let (pv, there) = port_there g n t.well t.left w is.back.after.kept is.back.after.fits.stations out k
      (port_of last (suc p)) s at back in
      let has = is.back.after.kept.calm.lanes (port_of last (suc p)) (port_of out (suc k)) joins in
      let old = told s pv has.lane at there has.there in
      let (h, among, said, due) = told_due says (still n (base + depth last) best last p out k)
      (IsNewTold t.ways (port_of last (suc p)) out) (falls_by n start (suc (depth last))) has.lane.frames old.told in
      let now = is.back.after.kept.calm.left (n.lane (port_of last (suc p))) has.lane h has.there among in
      omega (arith, now, due)

  pub turned : (w : MachineState) → TurnsBack says g n tree top other last out best base depth t start w
      → falls_by n start (suc (depth last)) < w.time → HasTurned w
  turned w is late = elim (is.back.falling.down last p out k t.in_last joins leads) [
    | inr (inr has_turned) ↦ has_turned
    | inl led ↦ absurd (let by = not_later w is (inl led) in omega (arith, by, late))
    | inr (inl left) ↦ absurd (let by = not_later w is (inr left) in omega (arith, by, late))
  ]

  -- claims are made of the link to the tree as soon as it has turned
  module _ (before : ℕ) (delay : n.most ≤ before) where
    abbrev k_out : Wiring
    k_out = telling n before o.d best out k last p

    abbrev pub OutSettles : MachineState → Type 0
    OutSettles w = HasTurned w → LinkSettles says (telling n before o.d best out k last p) w

    module _ (w : MachineState) (is : TurnsBack says g n tree top other last out best base depth t start w)
        (turned : HasTurned w) where
      module _ (s : Station) (at : slice_get w.stations (n.place out) ≡ Some s) (pv : Port)
          (there : slice_get s.ports k ≡ Some pv) where
        chosen : Chooses s best o.d
        chosen = out_chooses says g n tree top other last out best base depth t w is.back.after is.back.still s at

        lives : (s.live ≡ true) × (s.clock ≡ out)
        lives = out_is says g n tree top other last out best base depth t w is.back.after is.back.still s at

        rest : StationIsAtRest s
        rest = (is.back.after.kept.calm.stations (n.place out) s at lives.0).at_rest

        -- its port is master
        pub mine : pv.held ≡ Mine best.identity o.d
        mine = by pv.held refl
          where
            lane : (l : Lane) × (slice_get w.lanes (n.lane (port_of last (suc p))) ≡ Some l)
            lane =
                let has = is.back.after.kept.calm.lanes (port_of last (suc p)) (port_of out (suc k)) joins in
                (has.lane, has.there)

            not_received : (r : Reception) → pv.held ≡ Received r → ⊥
            not_received r holds = elim (rest.passive k r (pv, there, holds)) [
              | inr not_lower ↦ not_lower (elim worse [
                | inl over ↦ inl (omega (arith, over, root_is))
                | inr (root, more) ↦ inr (omega (arith, root, root_is), inl (omega (arith, more, steps_are)))
              ])
              | inl slave ↦ chose slave rest.chosen
            ]
              where
                root_is : s.root ≡ best.identity
                root_is = chosen.root

                steps_are : s.steps ≡ o.d
                steps_are = chosen.steps

                worse : (best.identity < r.said.root) ⊎ ((r.said.root ≡ best.identity) × (suc o.d ≤ r.said.steps))
                worse = worse_out r.said ((turned.1 s pv lane.0 at there lane.1).hears r holds)

                chose : s.slave ≡ Some (suc k) → ChoosesItself s rest.vector ⊎ ChoosesPort s rest.vector → ⊥
                chose slave (inl (own, none)) = absurd (let both : Some (suc k) ≡ None = sym slave ∙ none in cc)
                chose slave (inr (i, x, holds_x, path, slave_x)) =
                    let place : i ≡ k = same_place i k (sym slave_x ∙ slave) in
                    let one : x ≡ r = same_holds s k x r (subst (λ j. HoldsAt s j x) place holds_x) (pv, there, holds)
                    in
                    let vector = rest.is in
                    let root : x.said.root ≡ s.root = cc in
                    let steps : suc x.said.steps ≡ s.steps = cc in
                    let root_r = ap (λ (y : Reception). y.said.root) one in
                    let steps_r = ap (λ (y : Reception). y.said.steps) one in
                    elim worse [
                      | inl over ↦ omega (arith, over, root, root_r, root_is)
                      | inr (same, more) ↦ omega (arith, more, steps, steps_r, steps_are)
                    ]

            by : (held : Held) → pv.held ≡ held → pv.held ≡ Mine best.identity o.d
            by Disabled e =
                absurd (teller_on g n t.well t.left before o.d best out k last p back delay w is.back.after.kept
                is.back.after.fits.stations s pv at there e)
            by Aged e = absurd (rest.fresh k pv there e)
            by (Received r) e = absurd (not_received r e)
            by (Mine a b) e =
                let (root, steps) = rest.mine k pv a b there e in
                e ∙ (λ i. Mine ((root ∙ chosen.root) i) ((steps ∙ chosen.steps) i))

        -- what it follows came from another
        module _ (port : FollowsPort s) where
          not_here : port.place ≢ k
          not_here same =
              let one = same_there s.ports k port.holds.0 pv
              (subst (λ i. slice_get s.ports i ≡ Some port.holds.0) same port.holds.1) there in
              absurd (let both : Mine best.identity o.d ≡ Received port.r =
              sym mine ∙ ap (λ (z : Port). z.held) (sym one) ∙ port.holds.2 in cc)

          came : CameSound g s.clock (suc port.place) port.r
          came = is.sound.stations (n.place out) s port.place port.r at lives.0 port.holds

          over : Joins g came.from (port_of out (suc port.place))
          over = subst (λ c. Joins g came.from (port_of c (suc port.place))) lives.1 came.joins

          other_end : came.from.clock ≢ last
          other_end same =
              let to_last : Joins n.graph (port_of last came.from.port) (port_of out (suc port.place)) =
              t.way_stood came.from.port (suc port.place)
              (subst (λ c. Joins g (port_of c came.from.port) (port_of out (suc port.place))) same over) in
              let number = t.one_way came.from.port (suc p) (suc port.place) (suc k) to_last joins in
              let one = t.well.one_link (port_of last (suc p)) (port_of out (suc port.place)) (port_of out (suc k))
              (subst (λ j. Joins n.graph (port_of last j) (port_of out (suc port.place))) number to_last) joins in
              let place = ap (λ (e : PortIdentity). e.port) one in
              not_here (omega (arith, place))

          root_is : port.r.said.root ≡ best.identity
          root_is = sym port.root ∙ chosen.root

          from_best : IsBest g came.from.clock best
          from_best =
              IsBest-neighbour g out came.from.clock best t.left.graph
              (suc port.place, came.from.port, Joins-sym g came.from (port_of out (suc port.place)) over)
              (out_was_best g n tree top other last out best base depth t)

          whole : Whole g came.from.clock port.r.said
          whole = elim came.sound [
            | inr is_whole ↦ is_whole
            | inl worse ↦ let above = worse best from_best in absurd (omega (arith, above, root_is))
          ]

          -- it doesn't name the system of the tree
          not_named : In last port.r.said.path → ⊥
          not_named names = elim (on_way g t.left.graph came.from.clock port.r.said whole best from_best last names) [
            | inl same ↦ other_end (sym same)
            | inr among ↦
                let less = steps_more g t.left.graph came.from.clock port.r.said whole best from_best last
                (base + depth last) among (t.was_best last t.in_last) (t.was last t.in_last) root_is in
                let far = as_far.1 in
                let own = port.steps in
                let steps_are = chosen.steps in
                omega (arith, less, far, own, steps_are)
          ]

        follows : FollowsItself s ⊎ FollowsPort s
        follows = (is.back.after.kept.calm.facts.stations (n.place out) s at lives.0).follows

        apart : last ≢ s.clock
        apart same = t.outside (subst (λ c. In c tree) (same ∙ lives.1) t.in_last)

        foreign : FollowsItself s ⊎ FollowsPort s → In last s.trace → ⊥
        foreign (inl itself) names = elim (subst (In last) itself.trace names) [
          | inl same ↦ apart same
          | inr none ↦ none
        ]
        foreign (inr port) names =
            elim (In-parts last port.r.said.path (s.clock ∷ []) (subst (In last) port.trace names)) [
              | inl among ↦ not_named port among
              | inr (inl same) ↦ apart same
              | inr (inr none) ↦ none
            ]

        settled : TellerIsSettled (telling n before o.d best out k last p) s pv
        settled = record {
          mine = mine;
          near = o.near;
          foreign = foreign follows;
          short =
              let long = trace_short g s
              (λ place r holds. (is.back.after.fits.stations (n.place out) s place r at lives.0 holds).fits) best
              (subst (λ c. IsBest g c best) (sym lives.1)
              (out_was_best g n tree top other last out best base depth t)) o.d chosen follows in
              let near = o.near in
              omega (arith, long, near);
        }

        ready : TellerIsReady (telling n before o.d best out k last p) s pv
        ready = (
          (chosen.root, chosen.steps),
          teller_on g n t.well t.left before o.d best out k last p back delay w is.back.after.kept
              is.back.after.fits.stations s pv at there,
        )

      pub show_out : ShowEnds g n t.well t.left before o.d best out k last p back delay w
      show_out = record {
        settled = λ s pv at there is_ready. settled s at pv there;
        early = λ s pv at there not. absurd (not (ready s at pv there));
        weaker = λ s pu at there r far mine.
            let (live, clock) = lives_at n w is.back.after.kept.calm last (t.lives last t.in_last) s at in
            let (e, here) = distance_exists n.graph last t.well (t.lives last t.in_last) in
            let by = beyond_out g n tree top other last out best base depth t e last o.d t.in_last here o.now in
            weaker_clear n.graph t.well k_out best refl e (t.is_best last t.in_last) here (inl (omega (arith, by))) s
            (clear_left says g n (IsOf tree) (LeadsOut last out) top best best base depth m start w is.back.after last
            t.in_last s at
            (holds_in_tree says g n (IsOf tree) (LeadsOut last out) top best best base depth m start w is.back.after
            is.back.falling last t.in_last) (turned.0 s at)) clock pu there r far mine;
      }

    -- ---- a step

    module _ (room : falls_by n start (suc (depth last)) + n.most < before) (w w' : MachineState)
        (is : TurnsBack says g n tree top other last out best base depth t start w)
        (is' : TurnsBack says g n tree top other last out best base depth t start w') (step : MachineSteps says w w')
      where
        -- what the end of the way out held is replaced, and it tells its choice
        module _ (received : (s : Station) (pv : Port) → slice_get w.stations (n.place out) ≡ Some s
            → slice_get s.ports k ≡ Some pv → (r : Reception) × (pv.held ≡ Received r))
            (in_time : w.time ≤ falls_by n start (suc (depth last))) (turned' : HasTurned w') where
          turn_now : LinkSettles says (telling n before o.d best out k last p) w'
          turn_now since pv pu l stand ready' =
              by (answers_or_stands says n (IsOf tree) out w w' is.back.after.kept.calm is'.back.after.kept.calm known
              step
              stand.v stand.teller)
            where
              known : In out (clocks n.graph)
              known = out_lives g n tree top other last out best base depth t

              mine' : pv.held ≡ Mine best.identity o.d
              mine' = mine w' is' turned' stand.v stand.teller pv stand.teller_port

              by : (slice_get w.stations (n.place out) ≡ Some stand.v) ⊎ TreeAnswers says n (IsOf tree) out w w'
                  → LinkStage says k_out pv.announce pu.held l.frames
              by (inl stood) =
                  let (r, holds) = received stand.v pv stood stand.teller_port in
                  absurd (let both : Received r ≡ Mine best.identity o.d = sym holds ∙ mine' in cc)
              by (inr z) =
                  answered (z.lanes (port_of out (suc k)) (port_of last (suc p)) l back apart_last stand.lane)
                  (z.reacts.ports k pv there')
                where
                  one : stand.v ≡ z.s'
                  one = same_there w'.stations (n.place out) stand.v z.s' stand.teller z.there

                  there' : slice_get z.s'.ports k ≡ Some pv
                  there' = subst (λ (y : Station). slice_get y.ports k ≡ Some pv) one stand.teller_port

                  apart_last : last ≢ out
                  apart_last same = t.outside (subst (λ c. In c tree) same t.in_last)

                  was_out : z.s.clock ≡ out
                  was_out = (out_is says g n tree top other last out best base depth t w is.back.after is.back.still z.s
                      z.here).1

                  answered : ((old : Lane) × (slice_get w.lanes (n.lane (port_of out (suc k))) ≡ Some old)
                      × LaneStep z.s.clock z.sends old l)
                      → ((old : Port) × (slice_get z.s.ports k ≡ Some old)
                      × PortStep says z.s.clock (suc k) w.time z.touch z.s'.root z.s'.steps old pv z.sends)
                      → LinkStage says k_out pv.announce pu.held l.frames
                  answered (lane, at_lane, lane_step) (old, stood, answer) =
                      subst (LinkStage says k_out pv.announce pu.held) (sym lane_step.behind)
                      (begins says k_out pv.announce pu.held lane.frames lane_step.news sent.0
                      (news_final says g n t.well t.left before o.d best out k last p back delay w' is'.back.after.kept
                      is'.back.after.fits.stations z.s' z.there pv there'
                      (subst (λ (y : Station). TellerIsReady k_out y pv) one ready')
                      (settled w' is' turned' z.s' z.there pv there') z.sends z.reacts.tells z.s.clock lane l from
                      lane_step) sent.1 sent.2 (omega (arith, soon)))
                    where
                      has : HasLane n w' (port_of out (suc k)) (port_of last (suc p))
                      has = is'.back.after.kept.calm.lanes (port_of out (suc k)) (port_of last (suc p)) back

                      lane_is : has.lane ≡ l
                      lane_is = same_there w'.lanes (n.lane (port_of out (suc k))) has.lane l has.there stand.lane

                      from : lane.from ≡ port_of out (suc k)
                      from = sym lane_step.from ∙ ap (λ (y : Lane). y.from) (sym lane_is) ∙ has.from

                      -- it announces now
                      sent : (f : AnnounceFrame) × In f lane_step.news × FrameSaysAnnounce says f × (f.due ≤ w'.time +
                          n.most)
                      sent = go (received z.s old z.here stood)
                        where
                          go : ((r : Reception) × (old.held ≡ Received r))
                              → (f : AnnounceFrame) × In f lane_step.news
                              × FrameSaysAnnounce says f × (f.due ≤ w'.time + n.most)
                          go (r, holds) = over (master_announces says z.s.clock (suc k) w.time z.touch z.s'.root
                              z.s'.steps
                              old pv z.sends r best.identity o.d answer holds mine').sent
                            where
                              over : ((y : Send) × In y z.sends × (y.port ≡ suc k) × ((a : Announce) × says y.octets a))
                                  → (f : AnnounceFrame) × In f lane_step.news
                                  × FrameSaysAnnounce says f × (f.due ≤ w'.time + n.most)
                              over (y, among, number, (a, said)) =
                                  let (f, new, octets) = lane_step.arrives
                                  (sym lane_step.loss ∙ ap (λ (y : Lane). y.loss) (sym lane_is) ∙ has.loss)
                                  (sym lane_step.is_up ∙ ap (λ (y : Lane). y.is_up) (sym lane_is) ∙ has.is_up) y among
                                  (from ∙ (λ j. port_of (sym was_out j) (sym number j))) in
                                  let by = (on_time g n t.well t.left before o.d best out k last p back delay w'
                                  is'.back.after.kept is'.back.after.fits.stations l f stand.lane
                                  (subst (In f) (sym lane_step.behind) (In-right f lane.frames lane_step.news new))).due
                                  (omega arith) in
                                  (f, new, (a, subst (λ o. says o a) (sym octets) said), by)

                      soon : sent.0.due < before
                      soon =
                          let by = sent.3 in
                          let now = z.time in
                          omega (arith, by, now, in_time, room)

        pub out_kept : OutSettles w → OutSettles w'
        out_kept link turned' = elim (is.back.falling.down last p out k t.in_last joins leads) [
          | inr (inr turned) ↦
              telling_kept g n t.well t.left before o.d best out k last p back delay says w w' is.back.after.kept
              is'.back.after.kept is.back.after.fits.stations is'.back.after.fits.stations (show_out w is turned)
              (show_out w' is' turned') step (link turned)
          | inl (old, stays) ↦
              turn_now (held_led stays) (not_later w is (inl (old, stays))) turned'
          | inr (inl (not, told)) ↦ turn_now (held_left told) (not_later w is (inr (not, told))) turned'
        ]
          where
            lane : (l : Lane) × (slice_get w.lanes (n.lane (port_of last (suc p))) ≡ Some l)
            lane =
                let has = is.back.after.kept.calm.lanes (port_of last (suc p)) (port_of out (suc k)) joins in
                (has.lane, has.there)

            held_led : LinkStays says (still n (base + depth last) best last p out k) w → (s : Station) (pv : Port)
                → slice_get w.stations (n.place out) ≡ Some s → slice_get s.ports k ≡ Some pv
                → (r : Reception) × (pv.held ≡ Received r)
            held_led stays s pv at there =
                let (sv, at_v, live, clock) = station_of g n t.well t.left w is.back.after.kept
                is.back.after.fits.stations
                last (t.lives last t.in_last) in
                let (pl, there_l) = port_there g n t.well t.left w is.back.after.kept is.back.after.fits.stations last p
                (port_of out (suc k)) sv at_v joins in
                let stay = stays pl pv lane.0 (record {
                  v = sv;
                  u = s;
                  teller = at_v;
                  teller_port = there_l;
                  hearer = at;
                  hearer_port = there;
                  lane = lane.1;
                }) in
                (stay.what, stay.holds)

            held_left : Told w → (s : Station) (pv : Port) → slice_get w.stations (n.place out) ≡ Some s
                → slice_get s.ports k ≡ Some pv → (r : Reception) × (pv.held ≡ Received r)
            held_left told s pv at there = let old = told s pv lane.0 at there lane.1 in (old.r, old.holds)

-- A system answers: what that does to the stage of a link.
use Rattle.std.proofs.Common.{◌≡◌, ◌≢◌, ◌⊎◌, ◌<◌, ◌≤◌, ◌+◌, ◌++◌, ℕ, suc, List, ◌∷◌, Some, length, slice_get, refl, sym, ap, subst, ◌∙◌, inl, inr, arith}
use native.Mathlib.Decide.{ℕ_discrete}
use Rattle.gptp_lists.specs.Members.{In}
use Rattle.gptp_graph.specs.Snapshot.{PortIdentity, port_of}
use Rattle.gptp_lists.proofs.SystemSpecLemmas.{In-right}
use Rattle.gptp_bmca_machine.specs.Frame.{Announce, Spelling, AnnounceFrame, Lane, Send}
use Rattle.gptp_bmca_machine.specs.Station.{Reception, Held, Disabled, Aged, Mine, Received, Port, Station, MachineState}
use Rattle.gptp_bmca_machine.specs.Touch.{StationTouch, Hear, Grow, HeldInTouch}
use Rattle.gptp_bmca_machine.specs.Reacts.{KeepsHeld, BecomesMaster, IsOwn, IsMasterAt, PortStep}
use Rattle.gptp_bmca_machine.specs.Acts.{LaneStep, StationAnswers}
use Rattle.gptp_bmca_machine.specs.LinkStage.{Wiring, from_port, IsFinal, AllFinal, FrameSaysAnnounce, FinalAnnounceStays, LinkStage}
use Rattle.gptp_bmca_machine.specs.Link.{HasSettled, TellerIsReady, TellerIsSettled, IsTeller, HearsSettled, IsLaneOf, Ends, StaysOn, Stand, LinkSettles}
use Rattle.gptp_bmca_machine.proofs.PlaceLemmas.{same_mine, same_there}
use Rattle.gptp_bmca_machine.proofs.LinkStageLemmas.{enters, begins, tells, keeps, hears, young}
use Rattle.gptp_bmca_machine.proofs.HearingLemmas.{mid_stays, mid_mine, final_taken, mid_on, final_kept}

module _ (says : Spelling) (k : Wiring) (touch : StationTouch) (w w' : MachineState)
    (call : StationAnswers says touch w w') (ends : Ends k w)
    (ends' : Ends k w') (since : k.from ≤ w.time) (lasts : StaysOn k w w') where
  -- whatever stands at the teller's place has settled
  abbrev Settled : MachineState → Type 0
  Settled x = (v : Station) → slice_get x.stations k.teller_place ≡ Some v → HasSettled k v

  -- whether a system has settled
  settled_dec : (v : Station) → Dec (HasSettled k v)
  settled_dec v = elim (ℕ_discrete v.root k.root) [
    | no other ↦ no (λ h. other h.0)
    | yes root ↦ elim (ℕ_discrete v.steps k.steps) [
      | no other ↦ no (λ h. other h.1)
      | yes steps ↦ yes (root, steps)
    ]
  ]

  since' : k.from ≤ w'.time
  since' = subst (λ t. k.from ≤ t) (sym call.time) since

  -- it is the teller that answers, where the clocks are one
  answers_teller : call.s.clock ≡ k.teller → call.place ≡ k.teller_place
  answers_teller e = (ends.teller_stands call.place call.s call.here).1 e

  -- its clock then is the teller's, at its place
  teller_answers : k.teller_place ≡ call.place → call.s.clock ≡ k.teller
  teller_answers e = (ends.teller_stands call.place call.s call.here).0 (sym e)

  hearer_answers : k.hearer_place ≡ call.place → call.s.clock ≡ k.hearer
  hearer_answers e = (ends.hearer_stands call.place call.s call.here).0 (sym e)

  -- whether it has, and its port is on
  ready_dec : (v : Station) (q : Port) → Dec (TellerIsReady k v q)
  ready_dec v q = elim (settled_dec v) [
    | no not ↦ no (λ h. not h.0)
    | yes has ↦ by q.held refl has
  ]
    where
      by : (held : Held) → q.held ≡ held → HasSettled k v → Dec (TellerIsReady k v q)
      by Disabled e has = no (λ h. h.1 e)
      by Aged e has = yes (has, λ off. absurd (let x : Aged ≡ Disabled = sym e ∙ off in cc))
      by (Mine root steps) e has = yes (has, λ off. absurd (let x : Mine root steps ≡ Disabled = sym e ∙ off in cc))
      by (Received r) e has = yes (has, λ off. absurd (let x : Received r ≡ Disabled = sym e ∙ off in cc))

  -- what the teller's port sends is final, where it has settled
  sent_final : Settled w' → (x : Send) (a : Announce) → In x call.sends → from_port k ≡ port_of call.s.clock x.port
      → says x.octets a → IsFinal k a
  sent_final settled x a at from said = go (call.reacts.tells x a at said)
    where
      clock : call.s.clock ≡ k.teller
      clock = ap (λ (p : PortIdentity). p.clock) (sym from)

      go : IsOwn call.s' x.port a × IsMasterAt call.s' x.port → IsFinal k a
      go (own, (i, q, number, port, mine)) = record {
        root = own.root ∙ sym same.0;
        steps = own.steps ∙ sym same.1;
        source = source;
        log = own.log k.teller_port q number' port' ∙ teller.log;
        qualified = record {
          foreign = λ e. ends.apart (ap (λ (p : PortIdentity). p.clock) (sym source) ∙ e);
          near = subst (λ n. n < 255) (same.1 ∙ sym own.steps) tells.near;
          no_loop = λ h. tells.foreign (subst (In k.hearer) own.path h);
          short = subst (λ (xs : List ℕ). length xs ≤ 255) (sym own.path) tells.short;
        };
      }
        where
          source : a.source ≡ from_port k
          source = own.source ∙ (λ j. port_of (call.reacts.clock j) x.port) ∙ sym from

          here : slice_get w'.stations k.teller_place ≡ Some call.s'
          here = subst (λ n. slice_get w'.stations n ≡ Some call.s') (answers_teller clock) call.there

          number' : x.port ≡ suc k.teller_port
          number' = ap (λ (p : PortIdentity). p.port) (sym from)

          port' : slice_get call.s'.ports k.teller_port ≡ Some q
          port' = subst (λ n. slice_get call.s'.ports n ≡ Some q) (suc_injective (sym number ∙ number')) port
            where
              suc_injective : {m n : ℕ} → suc m ≡ suc n → m ≡ n
              suc_injective e = omega arith

          teller : IsTeller k w'.time call.s' q
          teller = ends'.teller call.s' q here port'

          tells : TellerIsSettled k call.s' q
          tells =
              teller.settled since' (
                settled call.s' here,
                (λ off. absurd (let x : Mine call.s'.root call.s'.steps ≡ Disabled = sym mine ∙ off in cc)),
              )

          same : (k.root ≡ call.s'.root) × (k.steps ≡ call.s'.steps)
          same = same_mine k.root k.steps call.s'.root call.s'.steps (sym tells.mine ∙ mine)

  -- so is what enters the lane
  news_final : Settled w' → (l l' : Lane) → slice_get w.lanes k.lane ≡ Some l
      → (step : LaneStep call.s.clock call.sends l l')
      → AllFinal says k step.news
  news_final settled l l' at step f a new said = go (step.sent f new)
    where
      go : ((x : Send) × In x call.sends × (l.from ≡ port_of call.s.clock x.port) × (f.octets ≡ x.octets))
          → IsFinal k a
      go (x, sent, from, octets) =
          sent_final settled x a sent (sym (ends.lane l at).from ∙ from) (subst (λ (o : List ℕ). says o a) octets said)

  -- the teller had settled, and its timer stays or what it tells enters the lane; or it settles, and that enters the
  -- lane
  abbrev TellerStep : Port → List AnnounceFrame → Type 0
  TellerStep pv' news = (v : Station) × (pv : Port) × (slice_get w.stations k.teller_place ≡ Some v)
      × (slice_get v.ports k.teller_port ≡ Some pv)
      × ((TellerIsReady k v pv × ((pv'.announce ≡ pv.announce)
      ⊎ ((f : AnnounceFrame) × In f news × FrameSaysAnnounce says f)))
      ⊎ ((TellerIsReady k v pv → ⊥) × ((f : AnnounceFrame) × In f news × FrameSaysAnnounce says f)))

  teller_step : Settled w' → (v' : Station) (pv' : Port) (l l' : Lane) → pv'.held ≢ Disabled
      → slice_get w'.stations k.teller_place ≡ Some v' → slice_get v'.ports k.teller_port ≡ Some pv'
      → slice_get w.lanes k.lane ≡ Some l → (step : LaneStep call.s.clock call.sends l l') → TellerStep pv' step.news
  teller_step settled v' pv' l l' on' at port lane_at step = elim (call.stations k.teller_place v' at) [
    | inl (same, is) ↦ answered same is
        (call.reacts.ports k.teller_port pv'
        (subst (λ (s : Station). slice_get s.ports k.teller_port ≡ Some pv') is port))
    | inr (other, stood) ↦ (v', pv', stood, port, inl ((settled v' at, on'), inl refl))
  ]
    where
      lane_is : IsLaneOf k l
      lane_is = ends.lane l lane_at

      told : k.teller_place ≡ call.place
          → ((x : Send) × In x call.sends × (x.port ≡ suc k.teller_port) × ((a : Announce) × says x.octets a))
          → (f : AnnounceFrame) × In f step.news × FrameSaysAnnounce says f
      told same (x, sent, number, (a, said)) =
          let from : l.from ≡ port_of call.s.clock x.port =
          lane_is.from ∙ (λ j. port_of (sym (teller_answers same) j) (sym number j)) in
          let (f, new, octets) = step.arrives lane_is.loss lane_is.is_up x sent from in
          (f, new, (a, subst (λ (o : List ℕ). says o a) (sym octets) said))

      answered : k.teller_place ≡ call.place → v' ≡ call.s'
          → ((pv : Port) × (slice_get call.s.ports k.teller_port ≡ Some pv)
          × PortStep says call.s.clock (suc k.teller_port) w.time touch call.s'.root call.s'.steps pv pv' call.sends)
          → TellerStep pv' step.news
      answered same is (pv, stood, answer) = (
        call.s,
        pv,
        subst (λ n. slice_get w.stations n ≡ Some call.s) (sym same) call.here,
        stood,
        elim (ready_dec call.s pv) [
          | yes had ↦ inl (
            had,
            elim becomes.timing [
              | inl (already, timer) ↦ inl timer
              | inr tells ↦ inr (told same tells.sent)
            ],
          )
          | no not ↦ inr (
            not,
            elim becomes.timing [
              | inl (already, timer) ↦ absurd (not (before already))
              | inr tells ↦ told same tells.sent
            ],
          )
        ],
      )
        where
          not_kept : (mid : Held) → mid ≡ Mine k.root k.steps → KeepsHeld mid → ⊥
          not_kept Disabled e h = absurd cc
          not_kept Aged e h = h
          not_kept (Mine root steps) e h = h
          not_kept (Received r) e h = absurd cc

          becomes : BecomesMaster says call.s.clock (suc k.teller_port) w.time call.s'.root call.s'.steps answer.mid pv
              pv' call.sends
          becomes = elim answer.after [
            | inl (kept, is_kept) ↦ absurd (not_kept answer.mid
                (sym kept ∙ ((ends'.teller v' pv' at port).settled since' (settled v' at, on')).mine) is_kept)
            | inr is ↦ is
          ]

          -- where the port held the root and the steps already, the system had them
          before : answer.mid ≡ Mine call.s'.root call.s'.steps → TellerIsReady k call.s pv
          before already =
              let held : pv.held ≡ Mine call.s'.root call.s'.steps =
              mid_mine call.s.clock (suc k.teller_port) w.time call.s'.root call.s'.steps touch pv.held answer.mid
              answer.before already in
              let own =
              (ends.teller call.s pv (subst (λ n. slice_get w.stations n ≡ Some call.s) (sym same) call.here) stood).own
              call.s'.root call.s'.steps held in
              let has : HasSettled k call.s' = subst (HasSettled k) is (settled v' at) in (
                (sym own.0 ∙ has.0, sym own.1 ∙ has.1),
                (λ off. absurd (let x : Mine call.s'.root call.s'.steps ≡ Disabled = sym held ∙ off in cc)),
              )

  -- the hearer's port holds what it held, or it is the hearer that answers
  abbrev Hearing : Station → Port → Port → Type 0
  Hearing u pu pu' = ((k.hearer_place ≢ call.place) × (pu'.held ≡ pu.held))
      ⊎ ((k.hearer_place ≡ call.place) × (u ≡ call.s)
      × PortStep says k.hearer (suc k.hearer_port) w.time touch call.s'.root call.s'.steps pu pu' call.sends)

  -- what the hearer's port held, and its step
  abbrev HearerStep : Port → Type 0
  HearerStep pu' = (u : Station) × (pu : Port) × (slice_get w.stations k.hearer_place ≡ Some u)
      × (slice_get u.ports k.hearer_port ≡ Some pu) × Hearing u pu pu'

  hearer_step : (u' : Station) (pu' : Port) → slice_get w'.stations k.hearer_place ≡ Some u'
      → slice_get u'.ports k.hearer_port ≡ Some pu' → HearerStep pu'
  hearer_step u' pu' at port = elim (call.stations k.hearer_place u' at) [
    | inl (same, is) ↦ answered same
        (call.reacts.ports k.hearer_port pu'
        (subst (λ (s : Station). slice_get s.ports k.hearer_port ≡ Some pu') is port))
    | inr (other, stood) ↦ (u', pu', stood, port, inl (other, refl))
  ]
    where
      answered : k.hearer_place ≡ call.place
          → ((pu : Port) × (slice_get call.s.ports k.hearer_port ≡ Some pu)
          × PortStep says call.s.clock (suc k.hearer_port) w.time touch call.s'.root call.s'.steps pu pu' call.sends)
          → HearerStep pu'
      answered same (pu, stood, answer) = (
        call.s,
        pu,
        subst (λ n. slice_get w.stations n ≡ Some call.s) (sym same) call.here,
        stood,
        inr (
          same,
          refl,
          subst
              (λ c. PortStep says c (suc k.hearer_port) w.time touch call.s'.root call.s'.steps pu pu' call.sends)
              (hearer_answers same) answer,
        ),
      )

  -- the teller's timer isn't over
  timer_left : (v : Station) (pv : Port) → slice_get w.stations k.teller_place ≡ Some v
      → slice_get v.ports k.teller_port ≡ Some pv → TellerIsReady k v pv → w.time ≤ pv.announce
  timer_left v pv at port has =
      let teller = ends.teller v pv at port in
      (teller.timer k.root k.steps (teller.settled since has).mine).0

  -- and is due within an interval
  timer_soon : (v : Station) (pv : Port) → slice_get w.stations k.teller_place ≡ Some v
      → slice_get v.ports k.teller_port ≡ Some pv → TellerIsReady k v pv → pv.announce ≤ w.time + k.interval
  timer_soon v pv at port has =
      let teller = ends.teller v pv at port in
      (teller.timer k.root k.steps (teller.settled since has).mine).1

  -- the hearer's own step leaves a final Announce that it holds, where it hears none
  held_on : (pv pu pu' : Port) (l : Lane) (stand : Stand k w pv pu l) → TellerIsReady k stand.v pv → HearsSettled k pu'
      → (pu.held ≢ Disabled → pu'.held ≢ Disabled)
      → PortStep says k.hearer (suc k.hearer_port) w.time touch call.s'.root call.s'.steps pu pu' call.sends
      → ((a : Announce) → touch ≡ Hear (suc k.hearer_port) a → ⊥)
      → ((r : Reception) → touch ≡ Grow (suc k.hearer_port) → pu.held ≡ Received r → r.at + r.span ≤ w.time)
      → (stays : FinalAnnounceStays says k pv.announce pu.held l.frames) → pu'.held ≡ Received stays.what
  held_on pv pu pu' l stand has settles' on step deaf ages stays =
      final_kept k says w.time touch call.s'.root call.s'.steps pu pu' call.sends step settles' stays.what stays.final
      (mid_stays k.hearer (suc k.hearer_port) w.time touch pu.held step.mid stays.what deaf not_aged
      (mid_on k says w.time touch call.s'.root call.s'.steps pu pu' call.sends step settles' (on was_on)) step.before
      stays.holds)
    where
      was_on : pu.held ≢ Disabled
      was_on off = absurd (let x : Received stays.what ≡ Disabled = sym stays.holds ∙ off in cc)

      not_aged : touch ≡ Grow (suc k.hearer_port) → ⊥
      not_aged e =
          let old : stays.what.at + stays.what.span ≤ w.time = ages stays.what e stays.holds in
          let fresh : w.time < stays.what.at + stays.what.span =
          young says k w.time pv.announce pu.held l.frames stays
          (timer_left stand.v pv stand.teller stand.teller_port has)
          (λ f h. (ends.frames l f stand.lane h).left)
          ((ends.hearer stand.u pu stand.hearer stand.hearer_port since).long stays.what stays.holds stays.final.log) in
          absurd (omega arith)

  -- what enters the lane is due within the largest delay
  due_soon : (l l' : Lane) → slice_get w'.lanes k.lane ≡ Some l' → (step : LaneStep call.s.clock call.sends l l')
      → (f : AnnounceFrame) → In f step.news → f.due ≤ w.time + k.most
  due_soon l l' at step f new =
      subst (λ t. f.due ≤ t + k.most) call.time
      ((ends'.frames l' f at (subst (In f) (sym step.behind) (In-right f l.frames step.news new))).due since')

  -- what the teller's timer and the lane come to
  sent_on : Settled w' → (v : Station) (pv pv' : Port) (held : Held) (l l' : Lane)
      → slice_get w.stations k.teller_place ≡ Some v → slice_get v.ports k.teller_port ≡ Some pv → TellerIsReady k v pv
      → slice_get w.lanes k.lane ≡ Some l → slice_get w'.lanes k.lane ≡ Some l'
      → (step : LaneStep call.s.clock call.sends l l')
      → (pv'.announce ≡ pv.announce) ⊎ ((f : AnnounceFrame) × In f step.news × FrameSaysAnnounce says f)
      → ((r : Reception) → held ≡ Received r → r.said.log ≡ k.log → k.interval + k.most < r.span)
      → LinkStage says k pv.announce held l.frames → LinkStage says k pv'.announce held l'.frames
  sent_on settled v pv pv' held l l' at port has lane_at lane_at' step timing long stage =
      subst (LinkStage says k pv'.announce held) (sym step.behind) (go timing)
    where
      final : AllFinal says k step.news
      final = news_final settled l l' lane_at step

      go : (pv'.announce ≡ pv.announce) ⊎ ((f : AnnounceFrame) × In f step.news × FrameSaysAnnounce says f)
          → LinkStage says k pv'.announce held (l.frames ++ step.news)
      go (inl same) =
          subst (λ t. LinkStage says k t held (l.frames ++ step.news)) (sym same)
          (enters says k pv.announce held l.frames step.news final stage)
      go (inr (f, new, said)) =
          tells says k w.time pv.announce pv'.announce held l.frames step.news f final new said
          (due_soon l l' lane_at' step f new) (timer_left v pv at port has) ends.in_time
          (λ stays. long stays.what stays.holds stays.final.log) stage

  -- where the teller settles only now, it tells in time
  begins_now : Settled w' → (v : Station) (pv pv' : Port) (held : Held) (l l' : Lane)
      → slice_get w.stations k.teller_place ≡ Some v → slice_get v.ports k.teller_port ≡ Some pv
      → (TellerIsReady k v pv → ⊥) → slice_get w.lanes k.lane ≡ Some l → slice_get w'.lanes k.lane ≡ Some l'
      → (step : LaneStep call.s.clock call.sends l l')
      → (f : AnnounceFrame) × In f step.news × FrameSaysAnnounce says f
      → LinkStage says k pv'.announce held l'.frames
  begins_now settled v pv pv' held l l' at port not lane_at lane_at' step (f, new, said) =
      let soon : f.due ≤ w.time + k.most = due_soon l l' lane_at' step f new in
      let early : w.time + k.most < k.before = (ends.teller v pv at port).early not in
      subst (LinkStage says k pv'.announce held) (sym step.behind)
      (begins says k pv'.announce held l.frames step.news f (news_final settled l l' lane_at step) new said
      (omega arith))

  -- an answer keeps the link at a stage, where what it does to the hearer's port alone does
  answered : ((pv pu pu' : Port) (l : Lane) (stood : Stand k w pv pu l) → TellerIsReady k stood.v pv
      → HearsSettled k pu'
      → (pu.held ≢ Disabled → pu'.held ≢ Disabled) → Hearing stood.u pu pu'
      → LinkStage says k pv.announce pu'.held l.frames)
      → LinkSettles says k w'
  answered hearing late pv' pu' l' stand has' =
      by_parts (call.lanes k.lane l' stand.lane) (hearer_step stand.u pu' stand.hearer stand.hearer_port)
    where
      settled : Settled w'
      settled v at = subst (HasSettled k) (same_there w'.stations k.teller_place stand.v v stand.teller at) has'.0

      settles' : HearsSettled k pu'
      settles' = ends'.hearer stand.u pu' stand.hearer stand.hearer_port since'

      by_parts : ((l : Lane) × (slice_get w.lanes k.lane ≡ Some l) × LaneStep call.s.clock call.sends l l')
          → HearerStep pu' → LinkStage says k pv'.announce pu'.held l'.frames
      by_parts (l, lane_at, step) (u, pu, u_at, pu_at, hears) =
          by_teller (teller_step settled stand.v pv' l l' has'.1 stand.teller stand.teller_port lane_at step)
        where
          by_teller : TellerStep pv' step.news → LinkStage says k pv'.announce pu'.held l'.frames
          by_teller (v, pv, v_at, pv_at, inr (not, told)) =
              begins_now settled v pv pv' pu'.held l l' v_at pv_at not lane_at stand.lane step told
          by_teller (v, pv, v_at, pv_at, inl (has, timing)) =
              sent_on settled v pv pv' pu'.held l l' v_at pv_at has lane_at stand.lane step timing settles'.long
              (hearing pv pu pu' l stood has settles'
              (lasts stood.u stand.u pu pu' since stood.hearer stood.hearer_port stand.hearer stand.hearer_port) hears)
            where
              stood : Stand k w pv pu l
              stood = record {
                v = v;
                u = u;
                teller = v_at;
                teller_port = pv_at;
                hearer = u_at;
                hearer_port = pu_at;
                lane = lane_at;
              }

  -- so does an answer to anything but an Announce over this link
  pub called : LinkSettles says k w
      → ((a : Announce) → k.hearer_place ≡ call.place → touch ≡ Hear (suc k.hearer_port) a → ⊥)
      → ((q : Port) (r : Reception) → k.hearer_place ≡ call.place → touch ≡ Grow (suc k.hearer_port)
      → slice_get call.s.ports k.hearer_port ≡ Some q → q.held ≡ Received r → r.at + r.span ≤ w.time)
      → LinkSettles says k w'
  called link deaf ages = answered (λ pv pu pu' l stood has settles' on hearing. elim hearing [
    | inl (other, same) ↦ subst (λ h. LinkStage says k pv.announce h l.frames) (sym same) (link since pv pu l stood has)
    | inr (here, is, answer) ↦ keeps says k pv.announce pu.held pu'.held l.frames
        (held_on pv pu pu' l stood has settles' on answer (λ a. deaf a here)
        (λ r grown. ages pu r here grown
        (subst (λ (s : Station). slice_get s.ports k.hearer_port ≡ Some pu) is stood.hearer_port)))
        (link since pv pu l stood has)
  ])

  -- and the hearer's to the oldest frame of the lane, which has been taken off it
  pub heard : (f : AnnounceFrame) (a : Announce) → touch ≡ Hear (suc k.hearer_port) a → says f.octets a
      → k.hearer_place ≡ call.place
      → ((pv pu : Port) (l : Lane) (stood : Stand k w pv pu l) → TellerIsReady k stood.v pv
      → LinkStage says k pv.announce pu.held (f ∷ l.frames))
      → LinkSettles says k w'
  heard f a touched said place link =
      answered (λ pv pu pu' l stood has settles' on hearing. elim hearing [
        | inl (other, same) ↦ absurd (other place)
        | inr (here, is, answer) ↦ hears says k w.time pv.announce pu.held pu'.held f l.frames a said
            (timer_soon stood.v pv stood.teller stood.teller_port has) (taken pv pu pu' l stood settles' answer)
            (link pv pu l stood has)
      ])
    where
      taken : (pv pu pu' : Port) (l : Lane) (stood : Stand k w pv pu l) → HearsSettled k pu'
          → PortStep says k.hearer (suc k.hearer_port) w.time touch call.s'.root call.s'.steps pu pu' call.sends
          → IsFinal k a → (span : ℕ) × (pu'.held ≡ Received (record { said = a; at = w.time; span = span }))
      taken pv pu pu' l stood settles' answer final =
          let (span, mid) =
          final_taken k w.time a pu answer.mid final (ends.hearer stood.u pu stood.hearer stood.hearer_port since)
          (subst (λ t. HeldInTouch k.hearer (suc k.hearer_port) t w.time pu.held answer.mid) touched answer.before) in
          let r : Reception = record { said = a; at = w.time; span = span } in (
            span,
            final_kept k says w.time touch call.s'.root call.s'.steps pu pu' call.sends answer settles'
                r final mid,
          )

-- Once a network has settled, each link that leads farther goes through the stages by which it comes to tell what is
-- right: every step keeps that.
use Rattle.std.proofs.Common.{◌≡◌, ◌≢◌, ◌⊎◌, ◌<◌, ◌≤◌, ◌+◌, ◌++◌, ℕ, zero, suc, true, List, ◌∷◌, Some, slice_get, refl, sym, ap, subst, ◌∙◌, inl, inr, arith}
use native.Mathlib.Decide.{dec_le, dec_lt, ℕ_discrete}
use Rattle.gptp_lists.specs.Members.{In}
use Rattle.gptp_lists.proofs.SystemSpecLemmas.{In-right}
use Rattle.gptp_graph.specs.Snapshot.{IsLinked, PortIdentity, Snapshot, System, port_of}
use Rattle.gptp_bmca_machine.specs.Acts.{Arrives, Drops, LaneStep, MachineSteps, Runs, StationAnswers}
use Rattle.gptp_bmca_machine.specs.Calm.{HasLane}
use Rattle.gptp_bmca_machine.specs.Frame.{Announce, AnnounceFrame, Lane, Send, Spelling}
use Rattle.gptp_bmca_machine.specs.Levels.{LeadsFarther}
use Rattle.gptp_bmca_machine.specs.Link.{IsLaneOf, Stand}
use Rattle.gptp_bmca_machine.specs.LinkStage.{FrameSaysAnnounce, Wiring}
use Rattle.gptp_bmca_machine.specs.Network.{IsSettlingNetwork, Network, since, wiring}
use Rattle.gptp_bmca_machine.specs.Reacts.{IsOwn, KeepsHeld, PortStep}
use Rattle.gptp_bmca_machine.specs.SoundEverywhere.{IsSoundSent}
use Rattle.gptp_bmca_machine.specs.SoundLaws.{AllAreNear}
use Rattle.gptp_bmca_machine.specs.Station.{Aged, Disabled, Held, MachineState, Mine, Port, Received, Reception, Station}
use Rattle.gptp_bmca_machine.specs.Touch.{Hear, HeldInTouch, StationTouch}
use Rattle.gptp_bmca_machine.proofs.HearingLemmas.{final_taken}
use Rattle.gptp_bmca_machine.proofs.PlaceLemmas.{received_injective, same_there}
use Rattle.gptp_settling_time.proofs.AtRestLemmas.{LinkFacts}
use Rattle.gptp_settling_time.proofs.RightStageLemmas.{AllRight, HoldsRight, RightStage, right_enters, right_goes, right_holds, right_tells}
use Rattle.gptp_settling_time.proofs.TouchedLemmas.{mid_heard}
use Rattle.gptp_settling_time.proofs.TellsRightLemmas.{IsRightOf, IsSettledState, LevelTellsRight, LinkTellsRight, link_facts, right_fits, right_waits, tells_right, tells_right_from, tells_right_until}

module _ (says : Spelling) (n : Network) (net : IsSettlingNetwork n) (near : AllAreNear n.graph) where
  abbrev g : Snapshot
  g = n.graph

  module _ (base : ℕ) where
    abbrev right_from : ℕ → ℕ
    right_from = tells_right_from n base

    abbrev right_until : ℕ → ℕ
    right_until = tells_right_until n base

    abbrev LinkIsRight : ℕ → System → ℕ → ℕ → ℕ → ℕ → MachineState → Type 0
    LinkIsRight = LinkTellsRight says n base

    abbrev LevelIsRight : MachineState → ℕ → Type 0
    LevelIsRight = LevelTellsRight says n base

    module _ (w w' : MachineState) (x : IsSettledState says n w) (x' : IsSettledState says n w') (d : ℕ)
        (level : LevelIsRight w d) (below : (e : ℕ) → e < d → LevelIsRight w' e) (best : System) (v p u q : ℕ)
        (close : d < 255) (leads : LeadsFarther g d best v p u q) where
      abbrev k : Wiring
      k = wiring n d best v p u q

      abbrev Right : Announce → Type 0
      Right = IsRightOf n v p

      abbrev Stages : ℕ → Held → List AnnounceFrame → Type 0
      Stages = RightStage says Right (right_until d) (right_from (suc d))

      -- Another system answers, and the hearer's port stays. Or the hearer answers, and its port takes that step.
      abbrev Hearing : Port → (touch : StationTouch) (mid w' : MachineState) → StationAnswers says touch mid w' → Port
          → Type 0
      Hearing pu' touch mid w' call pu = ((call.place ≢ n.place u) × (pu' ≡ pu)) ⊎ ((call.place ≡ n.place u)
          × PortStep says call.s.clock (suc q) mid.time touch call.s'.root call.s'.steps pu pu' call.sends)

      -- what it received then it had received before, or it hears it now
      hears_so : (touch : StationTouch) (mid w' : MachineState) (call : StationAnswers says touch mid w')
          (pu pu' : Port)
          → Hearing pu' touch mid w' call pu → (r : Reception) → pu'.held ≡ Received r
          → (pu.held ≡ Received r) ⊎ ((touch ≡ Hear (suc q) r.said) × (call.place ≡ n.place u))
      hears_so touch mid w' call pu pu' (inl (apart, same)) r holds =
          inl (ap (λ (z : Port). z.held) (sym same) ∙ holds)
      hears_so touch mid w' call pu pu' (inr (place, step)) r holds = elim step.after [
        | inl (kept, is_kept) ↦ elim (mid_heard call.s.clock (suc q) mid.time touch pu.held step.mid r step.before
            (sym kept ∙ holds)) [
              | inl before ↦ inl before
              | inr (hears, usable, taken) ↦ inr (hears, place)
            ]
        | inr becomes ↦
            absurd (let z : Mine call.s'.root call.s'.steps ≡ Received r = sym becomes.mine ∙ holds in cc)
      ]

      module _ (late' : right_from d ≤ w'.time) (pv' pu' : Port) (l' : Lane) (stand' : Stand k w' pv' pu' l') where
        facts' : LinkFacts says k w' pv' pu' l'
        facts' = link_facts says n net near w' x' d best v p u q close leads pv' pu' l' stand'

        -- one system answers, after this
        module _ (touch : StationTouch) (mid : MachineState) (time : mid.time ≡ w.time)
            (stood : (i : ℕ) (s : Station) → slice_get mid.stations i ≡ Some s → slice_get w.stations i ≡ Some s)
            (call : StationAnswers says touch mid w') (l0 : Lane) (lane0 : slice_get w.lanes k.lane ≡ Some l0)
            (stage : (pv pu : Port) (l : Lane) → Stand k w pv pu l0 → slice_get mid.lanes k.lane ≡ Some l
            → Hearing pu' touch mid w' call pu → Stages pv.announce pu'.held l.frames) where
          -- what enters the lane is right
          news_right : (l : Lane) (step : LaneStep call.s.clock call.sends l l') → l.from ≡ port_of v (suc p)
              → AllRight says Right step.news
          news_right l step from f a new said = go (step.sent f new)
            where
              go : ((y : Send) × In y call.sends × (l.from ≡ port_of call.s.clock y.port) × (f.octets ≡ y.octets))
                  → Right a
              go (y, sent, leaves, octets) =
                  let clock : call.s.clock ≡ v = ap (λ (z : PortIdentity). z.clock) (sym leaves ∙ from) in
                  let place : call.place ≡ n.place v =
                  (facts'.teller_stands call.place call.s' call.there).1 (call.reacts.clock ∙ clock) in
                  let own : IsOwn call.s' y.port a =
                  (call.reacts.tells y a sent (subst (λ (o : List ℕ). says o a) octets said)).0 in
                  let at_port : port_of call.s'.clock y.port ≡ port_of v (suc p) =
                  (λ j. port_of (call.reacts.clock j) y.port) ∙ sym leaves ∙ from in
                  subst (λ z. IsSoundSent g z a) at_port
                  (tells_right says n net near base w' x' d late' below v best call.s'
                  (subst (λ j. slice_get w'.stations j ≡ Some call.s') place call.there) leads.is_best leads.here close
                  y.port a own)

          -- the hearer as it was
          record HearerWas : Type 0 where
            su : Station
            pu : Port
            at : slice_get w.stations (n.place u) ≡ Some su
            port : slice_get su.ports q ≡ Some pu
            so : Hearing pu' touch mid w' call pu

          hearer_was : HearerWas
          hearer_was = elim (call.stations (n.place u) stand'.u stand'.hearer) [
            | inl (same, is) ↦ touched same (call.reacts.ports q pu'
                (subst (λ (z : Station). slice_get z.ports q ≡ Some pu') is stand'.hearer_port))
            | inr (other, before) ↦ record {
              su = stand'.u;
              pu = pu';
              at = stood (n.place u) stand'.u before;
              port = stand'.hearer_port;
              so = inl ((λ same. other (sym same)), refl);
            }
          ]
            where
              touched : n.place u ≡ call.place
                  → ((pu : Port) × (slice_get call.s.ports q ≡ Some pu)
                  × PortStep says call.s.clock (suc q) mid.time touch call.s'.root call.s'.steps pu pu' call.sends)
                  → HearerWas
              touched same (pu, port, step) =
                  record {
                    su = call.s;
                    pu = pu;
                    at = subst (λ j. slice_get w.stations j ≡ Some call.s) (sym same)
                        (stood call.place call.s call.here);
                    port = port;
                    so = inr (sym same, step);
                  }

          -- the teller as it was: its timer stays, or it tells now
          record TellerWas (l : Lane) (step : LaneStep call.s.clock call.sends l l') : Type 0 where
            sv : Station
            pv : Port
            at : slice_get w.stations (n.place v) ≡ Some sv
            port : slice_get sv.ports p ≡ Some pv
            so : (pv'.announce ≡ pv.announce)
                ⊎ ((f : AnnounceFrame) × In f step.news × FrameSaysAnnounce says f)

          not_kept : (held : Held) → held ≡ Mine best.identity d → KeepsHeld held → ⊥
          not_kept Disabled e h = absurd cc
          not_kept Aged e h = h
          not_kept (Mine root steps) e h = h
          not_kept (Received r) e h = absurd cc

          teller_was : (l : Lane) (step : LaneStep call.s.clock call.sends l l') → l.from ≡ port_of v (suc p)
              → l.loss ≡ 0 → l.is_up ≡ true → TellerWas l step
          teller_was l step from loss up = elim (call.stations (n.place v) stand'.v stand'.teller) [
            | inl (same, is) ↦ touched same (call.reacts.ports p pv'
                (subst (λ (z : Station). slice_get z.ports p ≡ Some pv') is stand'.teller_port))
            | inr (other, before) ↦ record {
              sv = stand'.v;
              pv = pv';
              at = stood (n.place v) stand'.v before;
              port = stand'.teller_port;
              so = inl refl;
            }
          ]
            where
              touched : n.place v ≡ call.place
                  → ((pv : Port) × (slice_get call.s.ports p ≡ Some pv)
                  × PortStep says call.s.clock (suc p) mid.time touch call.s'.root call.s'.steps pv pv' call.sends)
                  → TellerWas l step
              touched same (pv, port, answer) = record {
                sv = call.s;
                pv = pv;
                at = at;
                port = port;
                so = elim answer.after [
                  | inl (kept, is_kept) ↦
                      absurd (not_kept answer.mid (sym kept ∙ facts'.mine) is_kept)
                  | inr becomes ↦ elim becomes.timing [
                    | inl (already, timer) ↦ inl timer
                    | inr tells ↦ inr (told tells.sent)
                  ]
                ];
              }
                where
                  at : slice_get w.stations (n.place v) ≡ Some call.s
                  at = subst (λ j. slice_get w.stations j ≡ Some call.s) (sym same)
                      (stood call.place call.s call.here)

                  clock : call.s.clock ≡ v
                  clock = sym call.reacts.clock ∙ (facts'.teller_stands call.place call.s' call.there).0 (sym same)

                  told : ((y : Send) × In y call.sends × (y.port ≡ suc p) × ((a : Announce) × says y.octets a))
                      → (f : AnnounceFrame) × In f step.news × FrameSaysAnnounce says f
                  told (y, sent, number, (a, said)) =
                      let leaves : l.from ≡ port_of call.s.clock y.port =
                      from ∙ (λ j. port_of (sym clock j) (sym number j)) in
                      let (f, new, octets) = step.arrives loss up y sent leaves in
                      (f, new, (a, subst (λ (o : List ℕ). says o a) (sym octets) said))

          answered : Stages pv'.announce pu'.held l'.frames
          answered =
              let (l, there, step) = call.lanes k.lane l' stand'.lane in
              by l there step
            where
              by : (l : Lane) → slice_get mid.lanes k.lane ≡ Some l → LaneStep call.s.clock call.sends l l'
                  → Stages pv'.announce pu'.held l'.frames
              by l there step =
                  subst (Stages pv'.announce pu'.held) (sym step.behind) (elim teller.so [
                    | inl same ↦
                        subst (λ t. Stages t pu'.held (l.frames ++ step.news)) (sym same)
                        (right_enters says Right (right_until d) (right_from (suc d)) teller.pv.announce
                        pu'.held l.frames step.news news now)
                    | inr (f, new, said) ↦
                        right_tells says Right (right_until d) (right_from (suc d)) n.most w'.time
                        teller.pv.announce pv'.announce pu'.held l.frames step.news f news new said (due f new) timer
                        (right_fits n base d teller.pv.announce) now
                  ])
                where
                  is_lane' : IsLaneOf k l'
                  is_lane' = facts'.lane l' stand'.lane

                  from : l.from ≡ port_of v (suc p)
                  from = sym step.from ∙ is_lane'.from

                  teller : TellerWas l step
                  teller = teller_was l step from (sym step.loss ∙ is_lane'.loss) (sym step.is_up ∙ is_lane'.is_up)

                  hearer : HearerWas
                  hearer = hearer_was

                  stand : Stand k w teller.pv hearer.pu l0
                  stand = record {
                    v = teller.sv;
                    u = hearer.su;
                    teller = teller.at;
                    teller_port = teller.port;
                    hearer = hearer.at;
                    hearer_port = hearer.port;
                    lane = lane0;
                  }

                  news : AllRight says Right step.news
                  news = news_right l step from

                  now : Stages teller.pv.announce pu'.held l.frames
                  now = stage teller.pv hearer.pu l stand there hearer.so

                  time' : w'.time ≡ w.time
                  time' = call.time ∙ time

                  timer : w'.time ≤ teller.pv.announce
                  timer =
                      let facts =
                      link_facts says n net near w x d best v p u q close leads teller.pv hearer.pu l0 stand in
                      let left = facts.timer.0 in
                      let same = time' in
                      omega (arith, left, same)

                  due : (f : AnnounceFrame) → In f step.news → f.due ≤ w'.time + n.most
                  due f new =
                      (facts'.frames f (subst (In f) (sym step.behind) (In-right f l.frames step.news new))).1

        -- the lane of the link stood before
        lane_was : HasLane n w (port_of v (suc p)) (port_of u (suc q))
        lane_was = x.calm.lanes (port_of v (suc p)) (port_of u (suc q)) leads.joins

        -- something that is no delivery
        runs : Runs says w w' → Stages pv'.announce pu'.held l'.frames
        runs act =
            answered act.touch w refl (λ i s at. at) act.call lane_was.lane lane_was.there
            (λ pv pu l stand there hearing.
            let same : lane_was.lane ≡ l =
            same_there w.lanes k.lane lane_was.lane l lane_was.there there in
            let time = act.call.time in
            right_holds says Right (right_until d) (right_from (suc d)) pv.announce pu.held pu'.held
            l.frames
            (λ holds r is. elim (hears_so act.touch w w' act.call pu pu' hearing r is) [
              | inl before ↦ holds r before
              | inr (hears, place) ↦ absurd (act.deaf (suc q) r.said hears)
            ])
            (subst (λ (z : Lane). Stages pv.announce pu.held z.frames) same
            (level best v p u q close leads (omega (arith, late', time)) pv pu lane_was.lane stand)))

        module _ (act : Arrives says w w') where
          late_then : right_from d ≤ w.time
          late_then =
              let one = act.call.time in
              let two = act.pops.time in
              omega (arith, late', one, two)

          -- the hearer hears what comes to its port
          comes_here : (a : Announce) → act.touch ≡ Hear (suc q) a → act.call.place ≡ n.place u
              → act.l.to ≡ port_of u (suc q)
          comes_here a hears place =
              let clock : act.call.s'.clock ≡ u =
              (facts'.hearer_stands act.call.place act.call.s' act.call.there).0 place in
              let (number, said) = act.heard (suc q) a hears in
              λ j. port_of ((sym act.owner ∙ sym act.call.reacts.clock ∙ clock) j) (sym number j)

          -- a frame of another lane comes
          arrives_apart : k.lane ≢ act.j → Stages pv'.announce pu'.held l'.frames
          arrives_apart apart =
              answered act.touch act.mid act.pops.time act.pops.stations act.call lane_was.lane lane_was.there
              (λ pv pu l stand there hearing.
              let facts = link_facts says n net near w x d best v p u q close leads pv pu lane_was.lane stand in
              right_holds says Right (right_until d) (right_from (suc d)) pv.announce pu.held pu'.held
              l.frames
              (λ holds r is. elim (hears_so act.touch act.mid w' act.call pu pu' hearing r is) [
                | inl before ↦ holds r before
                | inr (hears, place) ↦
                    absurd (apart (sym (facts.only_lane act.j act.l act.pops.here (comes_here r.said hears place))))
              ])
              (subst (λ (z : Lane). Stages pv.announce pu.held z.frames) (was l there)
              (level best v p u q close leads late_then pv pu lane_was.lane stand)))
            where
              was : (l : Lane) → slice_get act.mid.lanes k.lane ≡ Some l → lane_was.lane ≡ l
              was l there = elim (act.pops.lanes k.lane l there) [
                | inl (same, is) ↦ absurd (apart same)
                | inr (other, before) ↦ same_there w.lanes k.lane lane_was.lane l lane_was.there before
              ]

          -- a frame of this lane comes
          module _ (same : k.lane ≡ act.j) where
            lane_at : slice_get w.lanes k.lane ≡ Some act.l
            lane_at = subst (λ j. slice_get w.lanes j ≡ Some act.l) (sym same) act.pops.here

            frames_are : (l : Lane) → slice_get act.mid.lanes k.lane ≡ Some l → l.frames ≡ act.fs
            frames_are l there = elim (act.pops.lanes k.lane l there) [
              | inl (here, is) ↦ ap (λ (z : Lane). z.frames) is
              | inr (other, before) ↦ absurd (other same)
            ]

            module _ (pv pu : Port) (stand : Stand k w pv pu act.l) (hearing : Hearing pu' act.touch act.mid w'
                act.call pu)
              where
                facts : LinkFacts says k w pv pu act.l
                facts = link_facts says n net near w x d best v p u q close leads pv pu act.l stand

                to : act.l.to ≡ port_of u (suc q)
                to = (facts.lane act.l lane_at).to

                call_here : slice_get w.stations act.call.place ≡ Some act.call.s
                call_here = act.pops.stations act.call.place act.call.s act.call.here

                clock_is : act.call.s.clock ≡ u
                clock_is = act.owner ∙ ap (λ (z : PortIdentity). z.clock) to

                place_is : act.call.place ≡ n.place u
                place_is = (facts.hearer_stands act.call.place act.call.s call_here).1 clock_is

                among : In act.f act.l.frames
                among = subst (In act.f) (sym act.pops.frames) (inl refl)

                -- what is said by the frame is taken
                takes : FrameSaysAnnounce says act.f → AllRight says Right (act.f ∷ act.fs) → HoldsRight Right pu'.held
                takes (a, said) all r is = by hearing
                  where
                    heard : (b : Announce) → act.touch ≡ Hear act.l.to.port b → Right b
                    heard b touched = all act.f b (inl refl) (act.heard act.l.to.port b touched).1

                    su_is : stand.u ≡ act.call.s
                    su_is =
                        same_there w.stations (n.place u) stand.u act.call.s stand.hearer
                        (subst (λ j. slice_get w.stations j ≡ Some act.call.s) place_is call_here)

                    number : act.l.to.port ≡ suc q
                    number = ap (λ (z : PortIdentity). z.port) to

                    on_then : pu.held ≢ Disabled
                    on_then off =
                        absurd (let z : Received facts.stays.what ≡ Disabled = sym facts.stays.holds ∙ off in cc)

                    hears_it : (b : Announce) × (act.touch ≡ Hear act.l.to.port b)
                    hears_it =
                        act.hears q pu a number
                        (subst (λ (z : Station). slice_get z.ports q ≡ Some pu) su_is stand.hearer_port) on_then said

                    by : Hearing pu' act.touch act.mid w' act.call pu → Right r.said
                    by (inl (apart, unchanged)) = absurd (apart place_is)
                    by (inr (place, answer)) = go hears_it
                      where
                        go : ((b : Announce) × (act.touch ≡ Hear act.l.to.port b)) → Right r.said
                        go (b, touched) =
                            let final = facts.stays.flight act.f b among (act.heard act.l.to.port b touched).1 in
                            let touched_here : act.touch ≡ Hear (suc q) b = touched ∙ (λ j. Hear (number j) b) in
                            let (span, mid) = final_taken k act.mid.time b pu answer.mid final facts.hears
                            (subst (λ c. HeldInTouch c (suc q) (Hear (suc q) b) act.mid.time pu.held answer.mid)
                            clock_is
                            (subst (λ z. HeldInTouch act.call.s.clock (suc q) z act.mid.time pu.held answer.mid)
                            touched_here answer.before)) in
                            elim answer.after [
                              | inl (kept, is_kept) ↦
                                  let taken : Reception = record { said = b; at = act.mid.time; span = span } in
                                  let one : taken ≡ r = received_injective taken r (sym mid ∙ sym kept ∙ is) in
                                  subst Right (ap (λ (z : Reception). z.said) one) (heard b touched)
                              | inr becomes ↦
                                  absurd (let z : Mine act.call.s'.root act.call.s'.steps ≡ Received r =
                                  sym becomes.mine ∙ is in cc)
                            ]

                keeps : HoldsRight Right pu.held → AllRight says Right (act.f ∷ act.fs) → HoldsRight Right pu'.held
                keeps holds all r is = elim (hears_so act.touch act.mid w' act.call pu pu' hearing r is) [
                  | inl before ↦ holds r before
                  | inr (hears, place) ↦ all act.f r.said (inl refl) (act.heard (suc q) r.said hears).1
                ]

                goes : (l : Lane) → slice_get act.mid.lanes k.lane ≡ Some l → Stages pv.announce pu'.held l.frames
                goes l there =
                    subst (Stages pv.announce pu'.held) (sym (frames_are l there))
                    (right_goes says Right (right_until d) (right_from (suc d)) pv.announce pu.held pu'.held
                    act.f act.fs takes keeps
                    (subst (Stages pv.announce pu.held) act.pops.frames
                    (level best v p u q close leads late_then pv pu act.l stand)))

            arrives_here : Stages pv'.announce pu'.held l'.frames
            arrives_here =
                answered act.touch act.mid act.pops.time act.pops.stations act.call act.l lane_at
                (λ pv pu l stand there hearing. goes pv pu stand hearing l there)

          arrives : Stages pv'.announce pu'.held l'.frames
          arrives = elim (ℕ_discrete k.lane act.j) [
            | no apart ↦ arrives_apart apart
            | yes same ↦ arrives_here same
          ]

        -- a frame does nothing
        module _ (act : Drops says w w') where
          late_drop : right_from d ≤ w.time
          late_drop = let time = act.pops.time in omega (arith, late', time)

          stand_was : (l : Lane) → slice_get w.lanes k.lane ≡ Some l → Stand k w pv' pu' l
          stand_was l at = record {
            v = stand'.v;
            u = stand'.u;
            teller = act.pops.stations (n.place v) stand'.v stand'.teller;
            teller_port = stand'.teller_port;
            hearer = act.pops.stations (n.place u) stand'.u stand'.hearer;
            hearer_port = stand'.hearer_port;
            lane = at;
          }

          drops : Stages pv'.announce pu'.held l'.frames
          drops = elim (act.pops.lanes k.lane l' stand'.lane) [
            | inr (apart, before) ↦ level best v p u q close leads late_drop pv' pu' l' (stand_was l' before)
            | inl (same, is) ↦ here same is
          ]
            where
              here : k.lane ≡ act.j → l' ≡ record act.l { frames = act.fs } → Stages pv'.announce pu'.held l'.frames
              here same is =
                  subst (λ (z : Lane). Stages pv'.announce pu'.held z.frames) (sym is)
                  (right_goes says Right (right_until d) (right_from (suc d)) pv'.announce pu'.held pu'.held
                  act.f act.fs (λ said all. absurd (unheard said)) (λ holds all. holds)
                  (subst (Stages pv'.announce pu'.held) act.pops.frames
                  (level best v p u q close leads late_drop pv' pu' act.l (stand_was act.l lane_at))))
                where
                  lane_at : slice_get w.lanes k.lane ≡ Some act.l
                  lane_at = subst (λ j. slice_get w.lanes j ≡ Some act.l) (sym same) act.pops.here

                  facts : LinkFacts says k w pv' pu' act.l
                  facts =
                      link_facts says n net near w x d best v p u q close leads pv' pu' act.l
                      (stand_was act.l lane_at)

                  unheard : FrameSaysAnnounce says act.f → ⊥
                  unheard (a, said) = elim act.unheard [
                    | inl silent ↦ silent a said
                    | inr dead ↦
                        let at = act.pops.stations (n.place u) stand'.u stand'.hearer in
                        let clock = (facts.hearer_stands (n.place u) stand'.u at).0 refl in
                        dead (n.place u) stand'.u at
                        (clock ∙ ap (λ (z : PortIdentity). z.clock) (sym (facts.lane act.l lane_at).to))
                        (facts.hearer_lives stand'.u at)
                  ]

      -- a moment comes
      comes : (short : (port : PortIdentity) → IsLinked g port → n.interval_of port ≤ n.interval) (time : ℕ)
          → w' ≡ record w { time = time } → LinkIsRight d best v p u q w'
      comes short time is late' pv' pu' l' stand' = elim (dec_le (right_from d) w.time) [
        | yes since ↦ level best v p u q close leads since pv' pu' l' stand
        | no before ↦
            let facts = link_facts says n net near w x d best v p u q close leads pv' pu' l' stand in
            let soon = facts.timer.1 in
            let interval = short (port_of v (suc p)) (port_of u (suc q), leads.joins) in
            inl (right_waits n base d w.time pv'.announce before (omega (arith, soon, interval)))
      ]
        where
          later : Stand k (record w { time = time }) pv' pu' l'
          later = subst (λ z. Stand k z pv' pu' l') is stand'

          stand : Stand k w pv' pu' l'
          stand = record {
            v = later.v;
            u = later.u;
            teller = later.teller;
            teller_port = later.teller_port;
            hearer = later.hearer;
            hearer_port = later.hearer_port;
            lane = later.lane;
          }

      link_kept : (short : (port : PortIdentity) → IsLinked g port → n.interval_of port ≤ n.interval)
          → MachineSteps says w w' → LinkIsRight d best v p u q w'
      link_kept short (inl wait) = comes short wait.time wait.is
      link_kept short (inr (inl act)) = λ late' pv' pu' l' stand'. arrives late' pv' pu' l' stand' act
      link_kept short (inr (inr (inl act))) = λ late' pv' pu' l' stand'. drops late' pv' pu' l' stand' act
      link_kept short (inr (inr (inr act))) = λ late' pv' pu' l' stand'. runs late' pv' pu' l' stand' act

    module _ (w w' : MachineState) (x : IsSettledState says n w) (x' : IsSettledState says n w')
        (short : (port : PortIdentity) → IsLinked g port → n.interval_of port ≤ n.interval)
        (step : MachineSteps says w w') (levels : (d : ℕ) → LevelIsRight w d) where
      right_below : (d e : ℕ) → e < d → LevelIsRight w' e
      right_below zero e h = absurd (omega (arith, h))
      right_below (suc d) e h = elim (dec_lt e d) [
        | yes less ↦ right_below d e less
        | no not ↦ (λ best v p u q close leads.
            link_kept w w' x x' e (levels e) (λ f below. right_below d f (omega (arith, h, not, below))) best v p u q
            close leads short step)
      ]

      -- every step keeps that each link is at its stage
      pub right_kept : (d : ℕ) → LevelIsRight w' d
      right_kept d = right_below (suc d) d (omega arith)

-- A tree in which the root of before is still told: each of its links goes on through its stages, since whoever leaves
-- that root tells those below it at once.
use Rattle.std.proofs.Common.{◌≡◌, ◌≢◌, ◌⊎◌, ◌<◌, ◌≤◌, ◌+◌, ◌++◌, ℕ, suc, true, List, ◌∷◌, Some, slice_get, refl, sym, ap, subst, ◌∙◌, inl, inr, arith}
use Rattle.std.specs.Bool.{⊤}
use native.Mathlib.Decide.{ℕ_discrete}
use Rattle.gptp_lists.specs.Members.{In}
use Rattle.gptp_lists.proofs.SystemSpecLemmas.{In-right}
use Rattle.gptp_graph.specs.Snapshot.{System, PortIdentity, port_of, Joins}
use Rattle.gptp_graph.proofs.LinkLemmas.{Joins-sym}
use Rattle.gptp_bmca_machine.specs.Acts.{LaneStep, MachineSteps}
use Rattle.gptp_bmca_machine.specs.Clean.{Whole}
use Rattle.gptp_bmca_machine.specs.Frame.{Announce, AnnounceFrame, Lane, Send, Spelling}
use Rattle.gptp_bmca_machine.specs.LinkStage.{FrameSaysAnnounce}
use Rattle.gptp_bmca_machine.specs.LossLaws.{IsAfterLoss}
use Rattle.gptp_bmca_machine.specs.Network.{Network}
use Rattle.gptp_bmca_machine.specs.Reacts.{PortStep}
use Rattle.gptp_bmca_machine.specs.Station.{Aged, Disabled, Held, MachineState, Mine, Port, Received, Reception, Station}
use Rattle.gptp_bmca_machine.specs.Touch.{Hear, HeldInTouch, IsUsable, Replaces}
use Rattle.gptp_bmca_machine.specs.TwoTops.{Side, IsTreeOfTops}
use Rattle.gptp_bmca_machine.proofs.FallLemmas.{IsFree, IsFreeAt, IsNewTold}
use Rattle.gptp_bmca_machine.proofs.FallLeaveLemmas.{TreeAnswers, answers_or_stands}
use Rattle.gptp_bmca_machine.proofs.FallStepLemmas.{free_answers, free_hears, holds_after}
use Rattle.gptp_bmca_machine.proofs.LinkStepLemmas.{AtLink, StandsAtEnd, link_steps, lives_at}
use Rattle.gptp_bmca_machine.proofs.PlaceLemmas.{same_there}
use Rattle.gptp_bmca_machine.proofs.ReactsLemmas.{JustHeard}
use Rattle.gptp_bmca_machine.proofs.StandsLemmas.{at_either, due_by, lane_is, port_on, port_stands, stands_there}
use Rattle.gptp_bmca_machine.proofs.StaleLemmas.{BareHoldStale, IsMixed, tells_new, whole_worse}
use Rattle.gptp_bmca_machine.proofs.StaleStepLemmas.{AllMixed, IsOrdered, IsStage, IsTelling, SaysSo, Withdraws, announces_root, is_on, number, over', said_at, said_port, stays_master, withdraws_more, withdraws_now}
use Rattle.gptp_bmca_machine.proofs.ToldLemmas.{AllSay, all_more}
use Rattle.gptp_bmca_machine.proofs.TwoTopsLemmas.{IsDeeper, Tree, beside}

module _ (says : Spelling) (n : Network) (next : System) (top : Side → ℕ) (depth : Side → ℕ → ℕ)
    (t : IsTreeOfTops n next top depth) (old base : ℕ) (worse : old < next.identity) where
  abbrev Telling : ℕ → ℕ → MachineState → Type 0
  Telling v p w = IsTelling says n next top depth t old base worse v p w

  -- whether a system tells what is stale
  pub telling_dec : (w : MachineState) (kept : IsAfterLoss n w) (v p : ℕ) (to : PortIdentity)
      → Tree n next top depth t v → Joins n.graph (port_of v (suc p)) to → Dec (Telling v p w)
  telling_dec w kept v p to in_v joins = by (stands_there n t.well w kept v
      in_v.reached.1.begins)
    where
      by : ((s : Station) × (slice_get w.stations (n.place v) ≡ Some s)) → Dec (Telling v p w)
      by (s, at) = by_port (port_stands n t.well w kept v p to s at joins)
        where
          by_port : ((q : Port) × (slice_get s.ports p ≡ Some q)) → Dec (Telling v p w)
          by_port (q, there) = elim (ℕ_discrete s.root old) [
            | no left ↦ no (λ h. left (h s q at there).0)
            | yes root ↦ by_held root q.held refl
          ]
            where
              live : (s.live ≡ true) × (s.clock ≡ v)
              live = lives_at n w kept.calm v in_v.reached.1.begins s at

              all : (s.root ≡ old) × (q.held ≡ Mine s.root s.steps) → Telling v p w
              all is s2 q2 at2 there2 =
                  let same = same_there w.stations (n.place v) s s2 at at2 in
                  let port = same_there s2.ports p q q2
                  (subst (λ (z : Station). slice_get z.ports p ≡ Some q) same there) there2 in (
                    subst (λ (z : Station). z.root ≡ old) same is.0,
                    subst (λ (z : Port). z.held ≡ Mine s2.root s2.steps) port
                        (subst (λ (z : Station). q.held ≡ Mine z.root z.steps) same is.1),
                  )

              by_held : s.root ≡ old → (held : Held) → q.held ≡ held → Dec (Telling v p w)
              by_held root Disabled is =
                  absurd (port_on n t.well w kept v p to s q at there joins is)
              by_held root Aged is =
                  absurd ((kept.calm.stations (n.place v) s at live.0).at_rest.fresh p q there is)
              by_held root (Received r) is =
                  no (λ h. let both : Mine s.root s.steps ≡ Received r = sym (h s q at there).1 ∙ is in cc)
              by_held root (Mine a b) is =
                  let (one, other) = (kept.calm.stations (n.place v) s at live.0).at_rest.mine p q a b there is in
                  yes (all (root, is ∙ (λ i. Mine (one i) (other i))))

  module _ (w w' : MachineState) (kept : IsAfterLoss n w) (kept' : IsAfterLoss n w')
      (dark' : BareHoldStale says n next top depth t old base worse w') (step : MachineSteps says w w')
      (mixed : AllMixed says n next top depth t old base worse w)
      (ordered : IsOrdered says n next top depth t old base worse w) (v p u q : ℕ) (in_v : Tree n next top depth t v)
      (joins : Joins n.graph (port_of v (suc p)) (port_of u (suc q))) (side : Side) (deeper : IsDeeper depth side v u)
      (last : ℕ) where
    abbrev New : Announce → Type 0
    New = IsNewTold n.graph (port_of v (suc p)) u

    back : Joins n.graph (port_of u (suc q)) (port_of v (suc p))
    back = Joins-sym n.graph (port_of v (suc p)) (port_of u (suc q)) joins

    in_u : Tree n next top depth t u
    in_u = beside n next top depth t v u in_v (suc p, suc q, joins)

    on_end : (pu : Port) → StandsAtEnd says n v p u q w pu → pu.held ≢ Disabled
    on_end = is_on says n next top depth t old base worse w w' kept kept' dark' step mixed v p u q in_v joins

    -- what a system that stands there after the step tells, if it doesn't tell what is stale
    module _ (not : Telling v p w' → ⊥) where
      left_root : (s : Station) (pv : Port) → slice_get w'.stations (n.place v) ≡ Some s
          → slice_get s.ports p ≡ Some pv → pv.held ≡ Mine s.root s.steps → s.root ≢ old
      left_root s pv at there mine root = not (λ s2 q2 at2 there2.
          let same = same_there w'.stations (n.place v) s s2 at at2 in
          let port = same_there s2.ports p pv q2
          (subst (λ (z : Station). slice_get z.ports p ≡ Some pv) same there) there2 in (
            subst (λ (z : Station). z.root ≡ old) same root,
            subst (λ (z : Port). z.held ≡ Mine s2.root s2.steps) port
                (subst (λ (z : Station). pv.held ≡ Mine z.root z.steps) same mine),
          ))

      pub new_said : SaysSo says n next top depth t old base worse w w' kept kept' dark' step
          mixed v p u q in_v joins New
      new_said touch mid call z a sent from said =
          let (own, master) = call.reacts.tells z a sent said in
          let at = said_at says n next top depth t old base worse w w' kept kept' dark' step mixed v p u q in_v joins
          touch mid call z from in
          let (pv, there, mine) = said_port says n next top depth t old base worse w w' kept kept' dark' step mixed v p
          u q in_v joins touch mid call z from master in
          tells_new says n next top depth t old base worse w' kept' dark' v in_v (λ a b i.
          over' says n next top depth t old base worse w w' kept kept' dark' step mixed v a b i in_v) call.s' at
          (left_root call.s' pv at there mine) z.port a own side p u q joins deeper pv there call.s'.root call.s'.steps
          mine
          (number says n next top depth t old base worse w w' kept kept' dark' step mixed v p u q in_v joins touch mid
          call z from)

      -- a link that carries nothing stale goes on so
      pub free_on : IsFreeAt says n.graph n v p u q w → IsFreeAt says n.graph n v p u q w'
      free_on free =
          link_steps says n v p u q t.well joins w w' kept.calm kept'.calm on_end kept.lapses
          (IsFree says n.graph v u) (IsFree says n.graph v u) New
          (record {
            news = new_said;
            stays = λ held fs is. is;
            enters = λ held fs news entered is. record {
              hears = is.hears;
              flight = all_more says (λ a. Whole n.graph v a ⊎ In u a.path) fs news is.flight (λ f a among said.
                  inl (entered f a among said).whole);
            };
            misses = λ held f fs silent is. record {
              hears = is.hears;
              flight = λ h a among.
                  is.flight h a (inr among);
            };
            answers = λ touch now root steps pu pu' sends fs end end' time left answer deaf aged is.
                free_answers says n.graph v u q touch now root steps pu pu' sends answer fs deaf is;
            hears = λ now root steps pu pu' sends l f fs a end end' time at frames said answer is.
                free_hears says n.graph v u q now root steps pu pu' sends f fs a said answer is;
          }) step free

      -- ---- what isn't stale is on its way

      abbrev Comes : Held → List AnnounceFrame → Type 0
      Comes held fs = IsMixed says n next top depth t old base worse v p u held fs × Withdraws says New last fs

      abbrev ComesOrCame : Held → List AnnounceFrame → Type 0
      ComesOrCame held fs = Withdraws says New last fs ⊎ IsFree says n.graph v u held fs

      comes_missed : (held : Held) (f : AnnounceFrame) (fs : List AnnounceFrame) → (FrameSaysAnnounce says f → ⊥)
          → Comes held (f ∷ fs) → Comes held fs
      comes_missed held f fs silent (is, inl (due, said, all)) = absurd (silent said)
      comes_missed held f fs silent (is, inr on) = (
        record {
          source = is.source;
          hears = is.hears;
          sent = λ h a among. is.sent h a (inr among);
          flight = λ h a among. is.flight h a (inr among);
        },
        on,
      )

      comes_more : (held : Held) (fs news : List AnnounceFrame)
          → ((f : AnnounceFrame) (a : Announce) → In f news → says f.octets a → New a) → ComesOrCame held fs
          → ComesOrCame held (fs ++ news)
      comes_more held fs news new (inl on) = inl (withdraws_more says New last fs news new on)
      comes_more held fs news new (inr is) = inr (record {
        hears = is.hears;
        flight = all_more says (λ a. Whole n.graph v a ⊎ In u a.path) fs news is.flight (λ f a among said.
            inl (new f a among said).whole);
      })

      -- it replaces whatever came over the link
      comes_heard : (now root steps : ℕ) (pu pu' : Port) (sends : List Send) (f : AnnounceFrame)
          (fs : List AnnounceFrame) (a : Announce) → says f.octets a
          → PortStep says u (suc q) now (Hear (suc q) a) root steps pu pu' sends → Comes pu.held (f ∷ fs)
          → ComesOrCame pu'.held fs
      comes_heard now root steps pu pu' sends f fs a said answer (is, inr on) = inl on
      comes_heard now root steps pu pu' sends f fs a said answer (is, inl (due, says_some, all)) = inr (record {
        hears = λ r holds. by r holds (holds_after says n.graph v u q (Hear (suc q) a) now root steps pu pu' sends
            answer r holds);
        flight = λ h b among also. inl (all h b (inr among) also).whole;
      })
        where
          fresh : New a
          fresh = all f a (inl refl) said

          before : (r : Reception) → pu'.held ≡ Received r → pu.held ≡ Received r
              → HeldInTouch u (suc q) (Hear (suc q) a) now pu.held answer.mid → Whole n.graph v r.said
          before r holds was (inr (apart, mid_is)) = absurd (apart refl)
          before r holds was (inl (same, on, inr refuses)) =
              absurd (refuses.fails fresh.usable
              (subst (Replaces u (suc q) a) (sym was) (inl (fresh.source ∙ sym (is.source r was)))))
          before r holds was (inl (same, on, inl takes)) = elim answer.after [
            | inr becomes ↦ absurd (let both : Mine root steps ≡ Received r = sym becomes.mine ∙ holds in cc)
            | inl (stays, keeps) ↦
                let both : Received (record { said = a; at = now; span = takes.span }) ≡ Received r =
                sym takes.is ∙ sym stays ∙ holds in
                let one : a ≡ r.said = cc in
                subst (Whole n.graph v) one fresh.whole
          ]

          by : (r : Reception) → pu'.held ≡ Received r
              → (pu.held ≡ Received r) ⊎ JustHeard u (suc q) now (Hear (suc q) a) r → Whole n.graph v r.said
          by r holds (inl was) = before r holds was answer.before
          by r holds (inr just) =
              let touched = just.touched in
              let same : a ≡ just.said = cc in
              subst (Whole n.graph v) (same ∙ sym just.is_said) fresh.whole

      comes_on : AtLink says n v p u q (λ held fs. Withdraws says New last fs) w
          → AtLink says n v p u q (λ held fs. Withdraws says New last fs) w' ⊎ IsFreeAt says n.graph n v p u q w'
      comes_on is =
          at_either n t.well w' kept' says v p u q joins
          (λ held fs. Withdraws says New last fs) (IsFree says n.graph v u)
          (link_steps says n v p u q t.well joins w w' kept.calm kept'.calm on_end kept.lapses Comes ComesOrCame New
          (record {
            news = new_said;
            stays = λ held fs so. inl so.1;
            enters = comes_more;
            misses = comes_missed;
            answers = λ touch now root steps pu pu' sends fs end end' time left answer deaf aged so. inl so.1;
            hears = λ now root steps pu pu' sends l f fs a end end' time at frames said answer so.
                comes_heard now root steps pu pu' sends f fs a said answer so;
          }) step (λ s pu l at there lane. (mixed v p u q in_v joins s pu l at there lane, is s pu l at there lane)))

      -- ---- it leaves the stale root now

      module _ (tells : Telling v p w) (in_time : w.time + n.most ≤ last)
          (z : TreeAnswers says n (λ c. ⊤) v w w') where
        was_v : z.s.clock ≡ v
        was_v = (lives_at n w kept.calm v in_v.reached.1.begins z.s z.here).1

        is_v : z.s'.clock ≡ v
        is_v = (lives_at n w' kept'.calm v in_v.reached.1.begins z.s' z.there).1

        -- nothing that it hears at its port is lower
        refuses : (pv : Port) → slice_get z.s.ports p ≡ Some pv → (a : Announce) → z.touch ≡ Hear (suc p) a
            → IsUsable v a → Replaces v (suc p) a (Mine z.s.root z.s.steps) → ⊥
        refuses pv stood a touched usable replaces =
            let (j, l, f, at_j, among, said, to) = z.heard p a touched in
            let has = kept.calm.lanes (port_of u (suc q)) (port_of v (suc p)) back in
            let place : n.lane (port_of u (suc q)) ≡ j =
            kept.calm.apart (n.lane (port_of u (suc q))) j has.lane l has.there at_j
            (has.to ∙ sym (to ∙ ap (λ c. port_of c (suc p)) was_v)) in
            let here = subst (λ i. slice_get w.lanes i ≡ Some l) (sym place) at_j in
            elim ((mixed u q v p in_u back z.s pv l z.here stood here).flight f a among said) [
              | inr names ↦ usable.no_loop names
              | inl (inr stale) ↦ ordered v p u q in_v joins tells z.s l f a z.here here among said stale replaces
              | inl (inl whole) ↦ elim replaces [
                | inl less ↦
                    let more = whole_worse says n next top depth t old base worse u a in_u whole in
                    let root = (tells z.s pv z.here stood).0 in
                    omega (arith, more, root, less)
                | inr (same, rest) ↦
                    let more = whole_worse says n next top depth t old base worse u a in_u whole in
                    let root = (tells z.s pv z.here stood).0 in
                    omega (arith, more, root, same)
              ]
            ]

        module _ (pv pv' : Port) (stood : slice_get z.s.ports p ≡ Some pv)
            (there' : slice_get z.s'.ports p ≡ Some pv')
            (answer : PortStep says v (suc p) w.time z.touch z.s'.root z.s'.steps pv pv' z.sends) where
          was : (z.s.root ≡ old) × (pv.held ≡ Mine z.s.root z.s.steps)
          was = tells z.s pv z.here stood

          on' : pv'.held ≢ Disabled
          on' = port_on n t.well w' kept' v p (port_of u (suc q)) z.s' pv' z.there there'
              joins

          mine' : pv'.held ≡ Mine z.s'.root z.s'.steps
          mine' =
              (stays_master says v (suc p) w.time z.touch z.s'.root z.s'.steps pv pv' z.sends answer z.s.root z.s.steps
              was.1 on' (refuses pv stood)).mine

          other : z.s'.root ≢ old
          other = left_root z.s' pv' z.there there' mine'

          tells_now : (y : Send) × In y z.sends × (y.port ≡ suc p) × ((a : Announce) × says y.octets a)
          tells_now =
              announces_root says v (suc p) w.time z.touch z.s'.root z.s'.steps pv pv' z.sends answer z.s.root
              z.s.steps was.1 on' (refuses pv stood) (λ same. other (same ∙ was.0))

          news_new : (l l' : Lane) → l'.from ≡ port_of v (suc p) → (laid : LaneStep z.s.clock z.sends l l')
              → AllSay says New laid.news
          news_new l l' from laid f a among said =
              let (y, sent, over, octets) = laid.sent f among in
              let said_y = subst (λ o. says o a) octets said in
              let (own, (i, pz, place, at_i, mine)) = z.reacts.tells y a sent said_y in
              let is : y.port ≡ suc p =
              ap (λ (e : PortIdentity). e.port) (sym over ∙ sym laid.from ∙ from) in
              tells_new says n next top depth t old base worse w' kept' dark' v in_v (λ a b i.
              over' says n next top depth t old base worse w w' kept kept' dark' step mixed v a b i in_v) z.s'
              z.there other y.port a own side p u q joins deeper pv' there' z.s'.root z.s'.steps mine' is

          -- so that is on its way
          pub laid_now : (l l' : Lane) → slice_get w'.lanes (n.lane (port_of v (suc p))) ≡ Some l'
              → (laid : LaneStep z.s.clock z.sends l l')
              → (f : AnnounceFrame) × In f laid.news × FrameSaysAnnounce says f × (f.due ≤ w.time + n.most)
              × AllSay says New laid.news
          laid_now l l' lane' laid =
              let (y, sent, number_y, (a, said)) = tells_now in
              let (from, to, loss, up) = lane_is n t.well w' kept' v p u q joins l' lane' in
              let (f, among, octets) = laid.arrives (sym laid.loss ∙ loss) (sym laid.is_up ∙ up) y sent
              (sym laid.from ∙ from ∙ (λ j. port_of (sym was_v j) (sym number_y j))) in
              let by = due_by n t.well w' kept' v p u q joins l' f lane'
              (subst (In f) (sym laid.behind) (In-right f l.frames laid.news among)) in
              let same = z.time in (
                f,
                among,
                (a, subst (λ o. says o a) (sym octets) said),
                omega (arith, by, same),
                news_new l l' from laid,
              )

          lane_then : (l l' : Lane) → slice_get w'.lanes (n.lane (port_of v (suc p))) ≡ Some l'
              → LaneStep z.s.clock z.sends l l' → Withdraws says New last l'.frames
          lane_then l l' lane' laid =
              let (f, among, said, soon, all) = laid_now l l' lane' laid in
              subst (Withdraws says New last) (sym laid.behind)
              (withdraws_now says New last l.frames laid.news f all among said (omega (arith, soon, in_time)))

        leaves_now : AtLink says n v p u q (λ held fs. Withdraws says New last fs) w'
        leaves_now su pu l' at there lane' =
            by (z.lanes (port_of v (suc p)) (port_of u (suc q)) l' joins (λ same.
            t.well.apart (port_of v (suc p)) (port_of u (suc q)) joins (sym same)) lane')
            (port_stands n t.well w' kept' v p (port_of u (suc q)) z.s' z.there joins)
          where
            by : ((l : Lane) × (slice_get w.lanes (n.lane (port_of v (suc p))) ≡ Some l)
                × LaneStep z.s.clock z.sends l l') → ((pv' : Port) × (slice_get z.s'.ports p ≡ Some pv'))
                → Withdraws says New last l'.frames
            by (l, at_l, laid) (pv', there') = by_port (z.reacts.ports p pv' there')
              where
                by_port : ((pv : Port) × (slice_get z.s.ports p ≡ Some pv)
                    × PortStep says z.s.clock (suc p) w.time z.touch z.s'.root z.s'.steps pv pv' z.sends)
                    → Withdraws says New last l'.frames
                by_port (pv, stood, answer) =
                    lane_then pv pv' stood there'
                    (subst (λ c. PortStep says c (suc p) w.time z.touch z.s'.root z.s'.steps pv pv' z.sends) was_v
                    answer) l l' lane' laid

      telling_then : Telling v p w → w.time + n.most ≤ last
          → AtLink says n v p u q (λ held fs. Withdraws says New last fs) w'
      telling_then tells in_time = by (stands_there n t.well w' kept' v
          in_v.reached.1.begins)
        where
          by : ((s : Station) × (slice_get w'.stations (n.place v) ≡ Some s))
              → AtLink says n v p u q (λ held fs. Withdraws says New last fs) w'
          by (s', at') = elim (answers_or_stands says n (λ c. ⊤) v w w' kept.calm kept'.calm in_v.reached.1.begins step
              s' at') [
                | inr z ↦ leaves_now tells in_time z
                | inl stood ↦ absurd (not (λ s2 q2 at2 there2.
                    let same = same_there w'.stations (n.place v) s' s2 at' at2 in
                    tells s2 q2 (subst (λ (x : Station). slice_get w.stations (n.place v) ≡ Some x) same stood) there2))
              ]

    -- ---- so the link goes on through its stages

    pub stage_kept : (Telling v p w → w.time + n.most ≤ last)
        → IsStage says n next top depth t old base worse v p u q last w
        → IsStage says n next top depth t old base worse v p u q last w'
    stage_kept in_time stage = elim (telling_dec w' kept' v p (port_of u (suc q)) in_v joins) [
      | yes tells' ↦ inr (inl tells')
      | no not ↦ elim stage [
        | inl free ↦ inl (free_on not free)
        | inr (inl tells) ↦ inr (inr (telling_then not tells (in_time tells)))
        | inr (inr comes) ↦ elim (comes_on not comes) [ inl on ↦ inr (inr on) | inr free ↦ inl free ]
      ]
    ]

-- A tree in which the root of before is still told: what a step makes of each of its links. Whoever leaves that root
-- tells those below it at once.
use Rattle.std.proofs.Common.{◌≡◌, ◌≢◌, ◌⊎◌, ◌<◌, ◌≤◌, ◌+◌, ◌++◌, ℕ, suc, List, [], ◌∷◌, Some, slice_get, refl, sym, ap, subst, ◌∙◌, inl, inr, arith}
use Rattle.std.specs.Bool.{⊤}
use Rattle.gptp_lists.specs.Members.{In}
use Rattle.gptp_graph.specs.Snapshot.{System, PortIdentity, port_of, Joins}
use Rattle.gptp_graph.proofs.LinkLemmas.{Joins-sym}
use Rattle.gptp_bmca_machine.specs.Acts.{MachineSteps, StationAnswers}
use Rattle.gptp_bmca_machine.specs.Frame.{Announce, AnnounceFrame, Lane, Send, Spelling}
use Rattle.gptp_bmca_machine.specs.LinkStage.{FrameSaysAnnounce}
use Rattle.gptp_bmca_machine.specs.LossLaws.{IsAfterLoss}
use Rattle.gptp_bmca_machine.specs.Network.{Network}
use Rattle.gptp_bmca_machine.specs.Reacts.{BecomesMaster, IsMasterAt, KeepsHeld, PortStep}
use Rattle.gptp_bmca_machine.specs.Station.{Aged, Disabled, Held, MachineState, Mine, Port, Received, Reception, Station}
use Rattle.gptp_bmca_machine.specs.Touch.{Hear, IsUsable, Replaces, StationTouch}
use Rattle.gptp_bmca_machine.specs.TwoTops.{Side, IsTreeOfTops}
use Rattle.gptp_bmca_machine.proofs.FallLemmas.{IsFreeAt, IsNewTold}
use Rattle.gptp_bmca_machine.proofs.FallStepLemmas.{holds_after}
use Rattle.gptp_bmca_machine.proofs.HearingLemmas.{mid_mine}
use Rattle.gptp_bmca_machine.proofs.LinkStepLemmas.{AtLink, StandsAtEnd, link_steps, lives_at}
use Rattle.gptp_bmca_machine.proofs.PlaceLemmas.{same_mine}
use Rattle.gptp_bmca_machine.proofs.ReactsLemmas.{mid_heard}
use Rattle.gptp_bmca_machine.proofs.StandsLemmas.{port_on}
use Rattle.gptp_bmca_machine.proofs.StaleLemmas.{BareHoldStale, HoldsMixed, IsMixed, IsMixedAt, IsSaid, IsStale, says_so}
use Rattle.gptp_bmca_machine.proofs.ToldLemmas.{AllSay, all_more}
use Rattle.gptp_bmca_machine.proofs.TwoTopsLemmas.{Tree, beside}

-- ---- what is on its way

-- From some frame on, which says an Announce and is due by this time, each Announce is so.
abbrev pub Withdraws : Spelling → (Announce → Type 0) → ℕ → List AnnounceFrame → Type 0
Withdraws says P last [] = ⊥
Withdraws says P last (f ∷ fs) =
    ((f.due ≤ last) × FrameSaysAnnounce says f × AllSay says P (f ∷ fs)) ⊎ Withdraws says P last fs

module _ (says : Spelling) (P : Announce → Type 0) (last : ℕ) where
  pub withdraws_more : (fs news : List AnnounceFrame) → AllSay says P news → Withdraws says P last fs
      → Withdraws says P last (fs ++ news)
  withdraws_more [] news new is = absurd is
  withdraws_more (f ∷ fs) news new (inl (due, said, all)) = inl (due, said, all_more says P (f ∷ fs) news all new)
  withdraws_more (f ∷ fs) news new (inr is) = inr (withdraws_more fs news new is)

  pub withdraws_now : (fs news : List AnnounceFrame) (f : AnnounceFrame) → AllSay says P news → In f news
      → FrameSaysAnnounce says f → f.due ≤ last → Withdraws says P last (fs ++ news)
  withdraws_now [] [] f all among said due = absurd among
  withdraws_now [] (x ∷ xs) f all (inl same) said due =
      inl (subst (λ (g : AnnounceFrame). g.due ≤ last) same due, subst (FrameSaysAnnounce says) same said, all)
  withdraws_now [] (x ∷ xs) f all (inr among) said due =
      inr (withdraws_now [] xs f (λ g a h. all g a (inr h)) among said due)
  withdraws_now (x ∷ xs) news f all among said due = inr (withdraws_now xs news f all among said due)

  pub withdraws_due : (fs : List AnnounceFrame) → Withdraws says P last fs
      → (h : AnnounceFrame) × In h fs × (h.due ≤ last)
  withdraws_due [] is = absurd is
  withdraws_due (f ∷ fs) (inl (due, said, all)) = (f, inl refl, due)
  withdraws_due (f ∷ fs) (inr is) = let (h, among, due) = withdraws_due fs is in (h, inr among, due)

-- ---- a master port that nothing better reaches

module _ (says : Spelling) (c n now : ℕ) (touch : StationTouch) (root steps : ℕ) (pv pv' : Port) (sends : List Send)
    (answer : PortStep says c n now touch root steps pv pv' sends) (r d : ℕ) (was : pv.held ≡ Mine r d)
    (on : pv'.held ≢ Disabled)
    (refuses : (a : Announce) → touch ≡ Hear n a → IsUsable c a → Replaces c n a (Mine r d) → ⊥) where
  kept_none : (mid : Held) → answer.mid ≡ mid → pv'.held ≡ answer.mid → KeepsHeld answer.mid → ⊥
  kept_none Disabled is kept keeps = on (kept ∙ is)
  kept_none Aged is kept keeps = subst KeepsHeld is keeps
  kept_none (Mine a b) is kept keeps = subst KeepsHeld is keeps
  kept_none (Received x) is kept keeps = elim (mid_heard c n now touch pv.held answer.mid x answer.before is) [
    | inl before ↦ absurd (let both : Mine r d ≡ Received x = sym was ∙ before in cc)
    | inr (a, touched, usable, replaces, said) ↦
        refuses a touched usable (subst (Replaces c n a) was replaces)
  ]

  -- it stays master
  pub stays_master : BecomesMaster says c n now root steps answer.mid pv pv' sends
  stays_master = elim answer.after [
    | inl (kept, keeps) ↦ absurd (kept_none answer.mid refl kept keeps)
    | inr becomes ↦ becomes
  ]

  -- and announces now where its root is another
  pub announces_root : root ≢ r → (z : Send) × In z sends × (z.port ≡ n) × ((a : Announce) × says z.octets a)
  announces_root other = elim stays_master.timing [
    | inr now ↦ now.sent
    | inl (already, timer) ↦
        let held = mid_mine c n now root steps touch pv.held answer.mid answer.before already in
        absurd (other (sym (same_mine r d root steps (sym was ∙ held)).0))
  ]

module _ (says : Spelling) (n : Network) (next : System) (top : Side → ℕ) (depth : Side → ℕ → ℕ)
    (t : IsTreeOfTops n next top depth) (old base : ℕ) (worse : old < next.identity) where
  -- ---- the stages of a link that leads down from a top

  -- the system has the stale root, and its port is master
  abbrev pub IsTelling : ℕ → ℕ → MachineState → Type 0
  IsTelling v p w = (s : Station) (pv : Port) → slice_get w.stations (n.place v) ≡ Some s
      → slice_get s.ports p ≡ Some pv → (s.root ≡ old) × (pv.held ≡ Mine s.root s.steps)

  -- It carries nothing that is stale; or the system tells what is; or it has told by this time what isn't, and nothing
  -- stale since.
  abbrev pub IsStage : ℕ → ℕ → ℕ → ℕ → ℕ → MachineState → Type 0
  IsStage v p u q last w =
      IsFreeAt says n.graph n v p u q w
      ⊎ (IsTelling v p w
      ⊎ AtLink says n v p u q (λ held fs. Withdraws says (IsNewTold n.graph (port_of v (suc p)) u) last fs) w)

  abbrev pub AllMixed : MachineState → Type 0
  AllMixed w = (v p u q : ℕ) → Tree n next top depth t v → Joins n.graph (port_of v (suc p)) (port_of u (suc q))
      → IsMixedAt says n next top depth t old base worse v p u q w

  -- what is stale and comes to a system that tells what is stale itself isn't lower
  abbrev pub IsOrdered : MachineState → Type 0
  IsOrdered w = (v p u q : ℕ) → Tree n next top depth t v → Joins n.graph (port_of v (suc p)) (port_of u (suc q))
      → IsTelling v p w → (s : Station) (l : Lane) (f : AnnounceFrame) (a : Announce)
      → slice_get w.stations (n.place v) ≡ Some s → slice_get w.lanes (n.lane (port_of u (suc q))) ≡ Some l
      → In f l.frames → says f.octets a → IsStale says n next top depth t old base worse u v a
      → Replaces v (suc p) a (Mine s.root s.steps) → ⊥

  -- ---- a step

  module _ (w w' : MachineState) (kept : IsAfterLoss n w) (kept' : IsAfterLoss n w')
      (dark' : BareHoldStale says n next top depth t old base worse w') (step : MachineSteps says w w')
      (mixed : AllMixed w) where
    module _ (v p u q : ℕ) (in_v : Tree n next top depth t v)
        (joins : Joins n.graph (port_of v (suc p)) (port_of u (suc q))) where
      back : Joins n.graph (port_of u (suc q)) (port_of v (suc p))
      back = Joins-sym n.graph (port_of v (suc p)) (port_of u (suc q)) joins

      pub is_on : (pu : Port) → StandsAtEnd says n v p u q w pu → pu.held ≢ Disabled
      is_on pu end = port_on n t.well w kept u q (port_of v (suc p)) end.s pu end.at end.there back

      -- what the system that tells says in this step
      abbrev pub SaysSo : (Announce → Type 0) → Type 0
      SaysSo N = (touch : StationTouch) (mid : MachineState) (call : StationAnswers says touch mid w') (z : Send)
          (a : Announce) → In z call.sends → port_of v (suc p) ≡ port_of call.s.clock z.port → says z.octets a → N a

      -- the system that says something stands after the step
      module _ (touch : StationTouch) (mid : MachineState) (call : StationAnswers says touch mid w') (z : Send)
          (from : port_of v (suc p) ≡ port_of call.s.clock z.port) where
        pub said_at : slice_get w'.stations (n.place v) ≡ Some call.s'
        said_at =
            let clock : call.s'.clock ≡ v =
            call.reacts.clock ∙ ap (λ (x : PortIdentity). x.clock) (sym from) in
            subst (λ i. slice_get w'.stations i ≡ Some call.s')
            (kept'.calm.placed call.place call.s' call.there ∙ ap n.place clock) call.there

        pub number : z.port ≡ suc p
        number = ap (λ (x : PortIdentity). x.port) (sym from)

        -- at its port, which is master
        pub said_port : IsMasterAt call.s' z.port
            → (pv : Port) × (slice_get call.s'.ports p ≡ Some pv) × (pv.held ≡ Mine call.s'.root call.s'.steps)
        said_port (i, pv, place, there, mine) =
            let same : i ≡ p = let both = sym place ∙ number in omega (arith, both) in
            (pv, subst (λ j. slice_get call.s'.ports j ≡ Some pv) same there, mine)

      abbrev Mixed : Held → List AnnounceFrame → Type 0
      Mixed held fs = IsMixed says n next top depth t old base worse v p u held fs

      -- what is heard is so
      hears_mixed : (now root steps : ℕ) (pu pu' : Port) (sends : List Send) (f : AnnounceFrame)
          (fs : List AnnounceFrame) (a : Announce) → says f.octets a
          → PortStep says u (suc q) now (Hear (suc q) a) root steps pu pu' sends → Mixed pu.held (f ∷ fs)
          → (r : Reception) → pu'.held ≡ Received r
          → (r.said.source ≡ port_of v (suc p)) × IsSaid says n next top depth t old base worse v u r.said
      hears_mixed now root steps pu pu' sends f fs a said answer is r holds = elim (holds_after says n.graph v u q
          (Hear (suc q) a) now root steps pu pu' sends answer r holds) [
            | inl before ↦ (is.source r before, is.hears r before)
            | inr just ↦
                let touched = just.touched in
                let same : a ≡ just.said = cc in
                let one : a ≡ r.said = same ∙ sym just.is_said in
                elim (is.flight f a (inl refl) said) [
                  | inr names ↦ absurd (just.qualified.no_loop (subst (λ (z : Announce). In u z.path) same names))
                  | inl so ↦ (
                    subst (λ (z : Announce). z.source ≡ port_of v (suc p)) one (is.sent f a (inl refl) said),
                    subst (IsSaid says n next top depth t old base worse v u) one so,
                  )
                ]
          ]

      pub mixed_held : HoldsMixed says n next top depth t old base worse v p u q w'
      mixed_held =
          link_steps says n v p u q t.well joins w w' kept.calm kept'.calm is_on kept.lapses Mixed
          (λ held fs. (r : Reception) → held ≡ Received r → (r.said.source ≡ port_of v (suc p))
          × IsSaid says n next top depth t old base worse v u r.said) (λ a. ⊤)
          (record {
            news = λ touch mid call z a sent from said. tt;
            stays = λ held fs is r holds. (is.source r holds, is.hears r holds);
            enters = λ held fs news new is. is;
            misses = λ held f fs silent is. record {
              source = is.source;
              hears = is.hears;
              sent = λ h a among. is.sent h a (inr among);
              flight = λ h a among. is.flight h a (inr among);
            };
            answers = λ touch now root steps pu pu' sends fs end end' time left answer deaf aged is r holds.
                elim (holds_after says n.graph v u q touch now root steps pu pu' sends answer r holds) [
                  | inl before ↦ (is.source r before, is.hears r before)
                  | inr just ↦ absurd (deaf just.said just.touched)
                ];
            hears = λ now root steps pu pu' sends l f fs a end end' time at frames said answer is.
                hears_mixed now root steps pu pu' sends f fs a said answer is;
          }) step (mixed v p u q in_v joins)

    pub over' : (x v p i : ℕ) → Tree n next top depth t x → Joins n.graph (port_of v (suc p)) (port_of x (suc i))
        → HoldsMixed says n next top depth t old base worse v p x i w'
    over' x v p i in_x joins =
        mixed_held v p x i (beside n next top depth t x v in_x
        (suc i, suc p, Joins-sym n.graph (port_of v (suc p)) (port_of x (suc i)) joins)) joins

    module _ (v p u q : ℕ) (in_v : Tree n next top depth t v)
        (joins : Joins n.graph (port_of v (suc p)) (port_of u (suc q))) where
      -- what is said is so
      mixed_said : SaysSo v p u q in_v joins (λ a. (a.source ≡ port_of v (suc p))
          × IsSaid says n next top depth t old base worse v u a)
      mixed_said touch mid call z a sent from said =
          let (own, master) = call.reacts.tells z a sent said in
          let at = said_at v p u q in_v joins touch mid call z from in
          let (pv, there, mine) = said_port v p u q in_v joins touch mid call z from master in
          let clock = (lives_at n w' kept'.calm v in_v.reached.1.begins call.s' at).1 in
          let is = number v p u q in_v joins touch mid call z from in (
            own.source ∙ (λ j. port_of (clock j) (is j)),
            says_so says n next top depth t old base worse w' kept' dark' v in_v (λ a b i. over' v a b i in_v) call.s'
                at p u q joins pv there call.s'.root call.s'.steps mine z.port a own,
          )

      pub mixed_kept : IsMixedAt says n next top depth t old base worse v p u q w'
      mixed_kept =
          link_steps says n v p u q t.well joins w w' kept.calm kept'.calm (is_on v p u q in_v joins) kept.lapses
          (Mixed v p u q in_v joins) (Mixed v p u q in_v joins) (λ a. (a.source ≡ port_of v (suc p))
          × IsSaid says n next top depth t old base worse v u a)
          (record {
            news = mixed_said;
            stays = λ held fs is. is;
            enters = λ held fs news new is. record {
              source = is.source;
              hears = is.hears;
              sent = all_more says (λ a. a.source ≡ port_of v (suc p)) fs news is.sent (λ f a among said.
                  (new f a among said).0);
              flight = all_more says (λ a. IsSaid says n next top depth t old base worse v u a ⊎ In u a.path) fs news
                  is.flight (λ f a among said. inl (new f a among said).1);
            };
            misses = λ held f fs silent is. record {
              source = is.source;
              hears = is.hears;
              sent = λ h a among. is.sent h a (inr among);
              flight = λ h a among. is.flight h a (inr among);
            };
            answers = λ touch now root steps pu pu' sends fs end end' time left answer deaf aged is. record {
              source = λ r holds. elim (holds_after says n.graph v u q touch now root steps pu pu' sends answer r
                  holds) [
                    | inl before ↦ is.source r before
                    | inr just ↦ absurd (deaf just.said just.touched)
                  ];
              hears = λ r holds. elim (holds_after says n.graph v u q touch now root steps pu pu' sends answer r
                  holds) [
                    | inl before ↦ is.hears r before
                    | inr just ↦ absurd (deaf just.said just.touched)
                  ];
              sent = is.sent;
              flight = is.flight;
            };
            hears = λ now root steps pu pu' sends l f fs a end end' time at frames said answer is. record {
              source = λ r holds. (hears_mixed v p u q in_v joins now root steps pu pu' sends f fs a said answer is r
                  holds).0;
              hears = λ r holds. (hears_mixed v p u q in_v joins now root steps pu pu' sends f fs a said answer is r
                  holds).1;
              sent = λ h a among. is.sent h a (inr among);
              flight = λ h a among. is.flight h a (inr among);
            };
          }) step (mixed v p u q in_v joins)

-- A tree in which the root of before is still told: meanwhile each link that leads farther from the best of the tree is
-- at its stage as soon as the system that tells has settled, or what is stale is on its way to that.
use Rattle.std.proofs.Common.{◌≡◌, ◌≢◌, ◌⊎◌, ◌<◌, ◌≤◌, ◌+◌, ℕ, suc, true, List, ◌∷◌, Some, slice_get, refl, sym, ap, subst, ◌∙◌, inl, inr, arith}
use Rattle.std.specs.Bool.{⊤}
use native.Mathlib.Decide.{dec_lt, ℕ_discrete}
use Rattle.gptp_lists.specs.Members.{In}
use Rattle.gptp_lists.proofs.SystemSpecLemmas.{In-left}
use Rattle.gptp_graph.specs.Order.{IsLower}
use Rattle.gptp_graph.specs.Snapshot.{System, PortIdentity, port_of, Joins}
use Rattle.gptp_graph.proofs.LinkLemmas.{Joins-sym}
use Rattle.gptp_bmca_machine.specs.Acts.{LaneStep, MachineSteps}
use Rattle.gptp_bmca_machine.specs.Calm.{HasLane}
use Rattle.gptp_bmca_machine.specs.Frame.{Announce, AnnounceFrame, Lane, Send, Spelling}
use Rattle.gptp_bmca_machine.specs.Levels.{LeadsFarther}
use Rattle.gptp_bmca_machine.specs.Link.{LinkSettles, TellerIsReady}
use Rattle.gptp_bmca_machine.specs.LinkStage.{FrameSaysAnnounce, Wiring}
use Rattle.gptp_bmca_machine.specs.LossLaws.{IsAfterLoss}
use Rattle.gptp_bmca_machine.specs.Network.{Network}
use Rattle.gptp_bmca_machine.specs.Reacts.{PortStep}
use Rattle.gptp_bmca_machine.specs.Station.{Aged, Disabled, Held, MachineState, Mine, Port, Received, Reception, Station}
use Rattle.gptp_bmca_machine.specs.Touch.{Hear, HeldInTouch, IsUsable, Replaces}
use Rattle.gptp_bmca_machine.specs.TwoTops.{Side, IsTreeOfTops}
use Rattle.gptp_bmca_machine.specs.Vectors.{master, message}
use Rattle.gptp_bmca_machine.proofs.ClearLemmas.{tells_clear, weaker_clear}
use Rattle.gptp_bmca_machine.proofs.FallLeaveLemmas.{TreeAnswers, answers_or_stands}
use Rattle.gptp_bmca_machine.proofs.LinkEndsLemmas.{telling}
use Rattle.gptp_bmca_machine.proofs.LinkStepLemmas.{AtLink, StandsAtEnd, link_steps, lives_at}
use Rattle.gptp_bmca_machine.proofs.LinkTellsLemmas.{Shows, tells_on}
use Rattle.gptp_bmca_machine.proofs.PlaceLemmas.{same_there}
use Rattle.gptp_bmca_machine.proofs.RestLemmas.{IsClear}
use Rattle.gptp_bmca_machine.proofs.StaleLemmas.{BareHoldStale, HoldsMixed, IsMixed, IsStale, new_clear, new_fits, root_floor, stale_held}
use Rattle.gptp_bmca_machine.proofs.StaleLeaveLemmas.{telling_dec}
use Rattle.gptp_bmca_machine.proofs.StaleStepLemmas.{AllMixed, IsTelling}
use Rattle.gptp_bmca_machine.proofs.StaleToldLemmas.{IsHeard, StaleComes, StaleIsHeld, over_all}
use Rattle.gptp_bmca_machine.proofs.StandsLemmas.{at_either, port_on, port_stands, stands_there}
use Rattle.gptp_bmca_machine.proofs.TwoTopsLemmas.{Tree, beside}

module _ (says : Spelling) (n : Network) (next : System) (top : Side → ℕ) (depth : Side → ℕ → ℕ)
    (t : IsTreeOfTops n next top depth) (old base : ℕ) (worse : old < next.identity)
    (near : (side : Side) (v : ℕ) → Tree n next top depth t v → base + depth side v < 255) (before : ℕ → ℕ) where
  -- what is known of a state: what all hold, and that whoever tells what is stale is heard
  pub record IsHeardState (w : MachineState) : Type 0 where
    pub kept : IsAfterLoss n w
    pub dark : BareHoldStale says n next top depth t old base worse w
    pub mixed : AllMixed says n next top depth t old base worse w
    pub heard : (v p u q : ℕ) → Tree n next top depth t v → Joins n.graph (port_of v (suc p)) (port_of u (suc q))
        → IsHeard says n next top depth t old base worse near v p u q w

  -- The link is at its stage, or what is stale is on its way to the system that tells.
  abbrev pub SettlesOrHears : ℕ → ℕ → ℕ → ℕ → ℕ → MachineState → Type 0
  SettlesOrHears f v p u q w = LinkSettles says (telling n (before f) f next v p u q) w
      ⊎ AtLink says n u q v p (λ held fs. StaleComes says n next top depth t old base worse near u v fs) w

  module _ (f v p u q : ℕ) (close : f < 255) (in_v : Tree n next top depth t v)
      (leads : LeadsFarther n.graph f next v p u q) (delay : n.most ≤ before f) where
    abbrev k : Wiring
    k = telling n (before f) f next v p u q

    in_u : Tree n next top depth t u
    in_u = beside n next top depth t v u in_v (suc p, suc q, leads.joins)

    back : Joins n.graph (port_of u (suc q)) (port_of v (suc p))
    back = Joins-sym n.graph (port_of v (suc p)) (port_of u (suc q)) leads.joins

    -- who hasn't settled has the time
    abbrev pub HasTime : MachineState → Type 0
    HasTime w = (s : Station) (pv : Port) → slice_get w.stations (n.place v) ≡ Some s → slice_get s.ports p ≡ Some pv
        → (TellerIsReady (telling n (before f) f next v p u q) s pv → ⊥) → w.time + n.most < before f

    -- who has a stale root hasn't settled
    vacuous : (w : MachineState)
        → ((s : Station) → slice_get w.stations (n.place v) ≡ Some s → s.root ≡ old) → LinkSettles says k w
    vacuous w is since pv pu l stand ready =
        let root = is stand.v stand.teller in
        let settled = ready.0.0 in
        absurd (omega (arith, root, settled, worse))

    module _ (w : MachineState) (m : IsHeardState w) where
      over : (x a b i : ℕ) → Tree n next top depth t x → Joins n.graph (port_of a (suc b)) (port_of x (suc i))
          → HoldsMixed says n next top depth t old base worse a b x i w
      over x a b i in_x joins = over_all says n next top depth t old base worse near w m.mixed x a b i in_x joins

      clear : (x : ℕ) (in_x : Tree n next top depth t x) (s : Station) (at : slice_get w.stations (n.place x) ≡ Some s)
          → s.root ≢ old → IsClear n.graph s
      clear x in_x s at left =
          new_clear says n next top depth t old base worse w m.kept m.dark x in_x (λ a b i. over x a b i in_x) s at left

      -- what both ends show, where the system that hears doesn't tell what is stale
      pub shows_new : (IsTelling says n next top depth t old base worse u q w → ⊥) → HasTime w
          → Shows says n t.well (before f) f next v p u q leads.joins delay w
      shows_new not early = record {
        kept = m.kept;
        came = λ s pu l at there lane r holds. (m.mixed v p u q in_v leads.joins s pu l at there lane).source r holds;
        settled = λ s pv at there ready.
            let (live, clock) = lives_at n w m.kept.calm v in_v.reached.1.begins s at in
            let settled = ready.0.0 in
            let left : s.root ≢ old = λ root. omega (arith, root, settled, worse) in
            tells_clear n.graph t.well k next refl leads.far in_u leads.there leads.farther s (clear v in_v s at left)
            (λ place r holds.
            (new_fits says n next top depth t old base worse w m.kept m.dark v in_v (λ a b i. over v a b i in_v) s at
            left place r holds).fits) clock leads.is_best (port_of u (suc q)) leads.joins refl
            (t.well.apart (port_of v (suc p)) (port_of u (suc q)) leads.joins) close
            (m.kept.calm.facts.stations (n.place v) s at live).follows pv there ready;
        early = early;
        weaker = λ s pu at there root steps mine.
            let (live, clock) = lives_at n w m.kept.calm u in_u.reached.1.begins s at in
            let own = (m.kept.calm.stations (n.place u) s at live).at_rest.mine q pu root steps there mine in
            weaker_clear n.graph t.well k next refl leads.far in_u leads.there leads.farther s
            (clear u in_u s at (left s pu at there (mine ∙ (λ i. Mine (own.0 i) (own.1 i))))) clock pu there root steps
            mine;
      }
        where
          left : (s : Station) (pu : Port) → slice_get w.stations (n.place u) ≡ Some s
              → slice_get s.ports q ≡ Some pu → pu.held ≡ Mine s.root s.steps → s.root ≢ old
          left s pu at there mine root = not (λ s2 q2 at2 there2.
              let same = same_there w.stations (n.place u) s s2 at at2 in
              let port = same_there s2.ports q pu q2
              (subst (λ (z : Station). slice_get z.ports q ≡ Some pu) same there) there2 in (
                subst (λ (z : Station). z.root ≡ old) same root,
                subst (λ (z : Port). z.held ≡ Mine s2.root s2.steps) port
                    (subst (λ (z : Station). pu.held ≡ Mine z.root z.steps) same mine),
              ))

    -- ---- a step

    module _ (w w' : MachineState) (m : IsHeardState w) (m' : IsHeardState w') (step : MachineSteps says w w')
        (early : HasTime w) (early' : HasTime w') where
      abbrev Comes : Held → List AnnounceFrame → Type 0
      Comes held fs = StaleComes says n next top depth t old base worse near u v fs

      -- the port holds a stale root
      abbrev HoldsOld : Held → List AnnounceFrame → Type 0
      HoldsOld held fs = StaleIsHeld says n next top depth t old base worse near held
          ⊎ ((d : ℕ) × (held ≡ Mine old d))

      abbrev IsOldThere : MachineState → Type 0
      IsOldThere x = (s : Station) → slice_get x.stations (n.place v) ≡ Some s → s.root ≡ old

      -- a system whose port does has that root
      old_there : (x : MachineState) → IsHeardState x → AtLink says n u q v p HoldsOld x → IsOldThere x
      old_there x mx is s at = by (port_stands n t.well x mx.kept v p (port_of u (suc q)) s at leads.joins)
        where
          by : ((pv : Port) × (slice_get s.ports p ≡ Some pv)) → s.root ≡ old
          by (pv, there) = elim (is s pv has.lane at there has.there) [
            | inl (r, holds, root) ↦ stale_held says n next top depth t old base worse x mx.kept mx.dark v in_v
                (λ a b i. over_all says n next top depth t old base worse near x mx.mixed v a b i in_v) s at p r
                (pv, there, holds) root
            | inr (d, mine) ↦
                let live = (lives_at n x mx.kept.calm v in_v.reached.1.begins s at).0 in
                sym ((mx.kept.calm.stations (n.place v) s at live).at_rest.mine p pv old d there mine).0
          ]
            where
              has : HasLane n x (port_of u (suc q)) (port_of v (suc p))
              has = mx.kept.calm.lanes (port_of u (suc q)) (port_of v (suc p)) back

      -- whether the system that tells has it
      old_dec : (x : MachineState) → IsHeardState x → Dec (IsOldThere x)
      old_dec x mx = by (stands_there n t.well x mx.kept v in_v.reached.1.begins)
        where
          by : ((s : Station) × (slice_get x.stations (n.place v) ≡ Some s)) → Dec (IsOldThere x)
          by (s, at) = elim (ℕ_discrete s.root old) [
            | yes root ↦ yes (λ s2 at2. subst (λ (z : Station). z.root ≡ old)
                (same_there x.stations (n.place v) s s2 at at2) root)
            | no left ↦ no (λ is. left (is s at))
          ]

      -- ---- what is stale is on its way to it

      module _ (left_v : IsOldThere w → ⊥) where
        abbrev Before : Held → List AnnounceFrame → Type 0
        Before held fs = IsMixed says n next top depth t old base worse u q v held fs × Comes held fs

        abbrev After : Held → List AnnounceFrame → Type 0
        After held fs = Comes held fs ⊎ HoldsOld held fs

        is_on : (pv : Port) → StandsAtEnd says n u q v p w pv → pv.held ≢ Disabled
        is_on pv end = port_on n t.well w m.kept v p (port_of u (suc q)) end.s pv end.at end.there leads.joins

        -- it can be used
        usable : (a : Announce) → a.source ≡ port_of u (suc q)
            → (stale : IsStale says n next top depth t old base worse u v a) → IsUsable v a
        usable a source stale =
            let far = near stale.side u in_u in
            let steps = stale.steps in
            let long = stale.long in
            record {
              foreign = λ same.
                  t.well.apart (port_of u (suc q)) (port_of v (suc p)) back
                  (sym (ap (λ (e : PortIdentity). e.clock) source) ∙ same);
              near = omega (arith, far, steps);
              no_loop = λ names.
                  let few = stale.names v in_v names in
                  let down = stale.deeper in
                  omega (arith, few, down);
              short = omega (arith, long, steps, far);
            }

        -- it replaces whatever is held
        replaces : (pv : Port) (end : StandsAtEnd says n u q v p w pv) (a : Announce)
            → a.source ≡ port_of u (suc q) → a.root ≡ old
            → ((r : Reception) → pv.held ≡ Received r → r.said.source ≡ port_of u (suc q)) → (held : Held)
            → pv.held ≡ held → Replaces v (suc p) a held
        replaces pv end a source root came Disabled is = absurd (is_on pv end is)
        replaces pv end a source root came Aged is = tt
        replaces pv end a source root came (Received r) is = inl (source ∙ sym (came r is))
        replaces pv end a source root came (Mine c d) is = inl (by (ℕ_discrete c old))
          where
            live : (end.s.live ≡ true) × (end.s.clock ≡ v)
            live = lives_at n w m.kept.calm v in_v.reached.1.begins end.s end.at

            own : c ≡ end.s.root
            own = ((m.kept.calm.stations (n.place v) end.s end.at live.0).at_rest.mine p pv c d end.there is).0

            floor : old ≤ end.s.root
            floor = root_floor says n next top depth t old base worse w m.kept m.dark v in_v
                (λ x b i. over w m v x b i in_v) end.s end.at

            by : Dec (c ≡ old) → a.root < c
            by (no apart) = elim (dec_lt old c) [
              | yes less ↦ omega (arith, less, root)
              | no not ↦ absurd (apart (omega (arith, not, own, floor)))
            ]
            by (yes same) = absurd (left_v (λ s at. subst (λ (z : Station). z.root ≡ old)
                (same_there w.stations (n.place v) end.s s end.at at) (sym own ∙ same)))

        -- so it is held then
        takes_stale : (now root steps : ℕ) (pv pv' : Port) (sends : List Send) (h : AnnounceFrame)
            (fs : List AnnounceFrame) (a : Announce) → StandsAtEnd says n u q v p w pv
            → StandsAtEnd says n u q v p w' pv' → says h.octets a
            → PortStep says v (suc p) now (Hear (suc p) a) root steps pv pv' sends → Before pv.held (h ∷ fs)
            → After pv'.held fs
        takes_stale now root steps pv pv' sends h fs a end end' said answer (is, (g, inr among, says_some, stale)) =
            inl (g, among, says_some, stale)
        takes_stale now root steps pv pv' sends h fs a end end' said answer (is, (g, inl same, says_some, stale)) =
            inr (by answer.before)
          where
            stale_a : IsStale says n next top depth t old base worse u v a
            stale_a = stale a (subst (λ (z : AnnounceFrame). says z.octets a) (sym same) said)

            source : a.source ≡ port_of u (suc q)
            source = is.sent h a (inl refl) said

            floor' : old ≤ root → root ≤ old → root ≡ old
            floor' above below = omega (arith, above, below)

            root_then : pv'.held ≡ Mine root steps → old ≤ root
            root_then mine =
                let live = (lives_at n w' m'.kept.calm v in_v.reached.1.begins end'.s end'.at).0 in
                let own = ((m'.kept.calm.stations (n.place v) end'.s end'.at live).at_rest.mine p pv' root steps
                end'.there mine).0 in
                let floor = root_floor says n next top depth t old base worse w' m'.kept m'.dark v in_v
                (λ x b i. over_all says n next top depth t old base worse near w' m'.mixed v x b i in_v) end'.s end'.at
                in
                omega (arith, own, floor)

            by : HeldInTouch v (suc p) (Hear (suc p) a) now pv.held answer.mid → HoldsOld pv'.held fs
            by (inr (apart, mid_is)) = absurd (apart refl)
            by (inl (here, on, inr refuses)) =
                absurd (refuses.fails (usable a source stale_a) (replaces pv end a source stale_a.root is.source pv.held
                refl))
            by (inl (here, on, inl takes)) = elim answer.after [
              | inl (stays, keeps) ↦
                  let r : Reception = record { said = a; at = now; span = takes.span } in
                  inl (r, stays ∙ takes.is, stale_a.root)
              | inr becomes ↦
                  let r : Reception = record { said = a; at = now; span = takes.span } in
                  let above = root_then becomes.mine in
                  let below : root ≤ old = below_by (becomes.is_lower r takes.is) in
                  inr (steps, becomes.mine ∙ (λ i. Mine (floor' above below i) steps))
            ]
              where
                below_by : IsLower (master root steps v (suc p)) (message a (suc p)) → root ≤ old
                below_by (inl less) = let is_root = stale_a.root in omega (arith, less, is_root)
                below_by (inr (same_root, rest)) = let is_root = stale_a.root in omega (arith, same_root, is_root)

        comes_on : AtLink says n u q v p Comes w
            → AtLink says n u q v p Comes w' ⊎ AtLink says n u q v p HoldsOld w'
        comes_on is =
            at_either n t.well w' m'.kept says u q v p back Comes HoldsOld
            (link_steps says n u q v p t.well back w w' m.kept.calm m'.kept.calm is_on m.kept.lapses Before After
            (λ a. ⊤)
            (record {
              news = λ touch mid call z a sent from said. tt;
              stays = λ held fs so. inl so.1;
              enters = λ held fs news new so. elim so [
                | inr old_held ↦ inr old_held
                | inl (g, among, said, stale) ↦ inl (g, In-left g fs news among, said, stale)
              ];
              misses = λ held h fs silent so. elim so.1.1 [
                | inl same ↦ absurd (silent (subst (FrameSaysAnnounce says) same so.1.2))
                | inr among ↦ (
                  record {
                    source = so.0.source;
                    hears = so.0.hears;
                    sent = λ g a inside. so.0.sent g a (inr inside);
                    flight = λ g a inside. so.0.flight g a (inr inside);
                  },
                  (so.1.0, among, so.1.2, so.1.3),
                )
              ];
              answers = λ touch now root steps pv pv' sends fs end end' time left answer deaf aged so. inl so.1;
              hears = λ now root steps pv pv' sends l h fs a end end' time at frames said answer so.
                  takes_stale now root steps pv pv' sends h fs a end end' said answer so;
            }) step (λ s pv l at there lane. (m.mixed u q v p in_u back s pv l at there lane, is s pv l at there lane)))

      -- ---- the system that hears leaves what is stale in this step

      leaves_then : IsTelling says n next top depth t old base worse u q w
          → (IsTelling says n next top depth t old base worse u q w' → ⊥) → (IsOldThere w' → ⊥)
          → AtLink says n u q v p Comes w'
      leaves_then tells not left' = by (stands_there n t.well w' m'.kept u in_u.reached.1.begins)
        where
          answered : TreeAnswers says n (λ c. ⊤) u w w' → AtLink says n u q v p Comes w'
          answered z s pv l' at there lane' =
              by_lane (z.lanes (port_of u (suc q)) (port_of v (suc p)) l' back (λ same.
              t.well.apart (port_of u (suc q)) (port_of v (suc p)) back (sym same)) lane')
            where
              stood : slice_get w.stations (n.place v) ≡ Some s
              stood = z.others v s in_v.reached.1.begins tt
                  (λ same. t.well.apart (port_of u (suc q)) (port_of v (suc p)) back (sym same)) at

              by_lane : ((l : Lane) × (slice_get w.lanes (n.lane (port_of u (suc q))) ≡ Some l)
                  × LaneStep z.s.clock z.sends l l') → Comes pv.held l'.frames
              by_lane (l, at_l, laid) = elim (m.heard u q v p in_u back tells s pv l stood there at_l) [
                | inl (g, among, said, stale) ↦
                    (g, subst (In g) (sym laid.behind) (In-left g l.frames laid.news among), said, stale)
                | inr (r, holds, root) ↦
                    let is = stale_held says n next top depth t old base worse w m.kept m.dark v in_v
                    (λ a b i. over_all says n next top depth t old base worse near w m.mixed v a b i in_v) s stood p r
                    (pv, there, holds) root in
                    absurd (left' (λ s2 at2. subst (λ (x : Station). x.root ≡ old)
                    (same_there w'.stations (n.place v) s s2 at at2) is))
              ]

          by : ((s : Station) × (slice_get w'.stations (n.place u) ≡ Some s)) → AtLink says n u q v p Comes w'
          by (s', at') = elim (answers_or_stands says n (λ c. ⊤) u w w' m.kept.calm m'.kept.calm in_u.reached.1.begins
              step s' at') [
                | inr z ↦ answered z
                | inl stood ↦ absurd (not (λ s2 q2 at2 there2.
                    let same = same_there w'.stations (n.place u) s' s2 at' at2 in
                    tells s2 q2 (subst (λ (x : Station). slice_get w.stations (n.place u) ≡ Some x) same stood) there2))
              ]

      -- ---- so the link goes on

      -- the system that hears tells what is stale then: that is on its way, or held
      tells_then : IsTelling says n next top depth t old base worse u q w' → SettlesOrHears f v p u q w'
      tells_then tells' =
          let heard = m'.heard u q v p in_u back tells' in
          elim (at_either n t.well w' m'.kept says u q v p back Comes
          (λ held fs. StaleIsHeld says n next top depth t old base worse near held) heard) [
            | inl comes ↦ inr comes
            | inr held ↦ inl (vacuous w' (old_there w' m' (λ s pv l at there lane. inl (held s pv l at there lane))))
          ]

      goes_on : (IsTelling says n next top depth t old base worse u q w → ⊥)
          → (IsTelling says n next top depth t old base worse u q w' → ⊥) → LinkSettles says k w
          → LinkSettles says k w'
      goes_on not not' link =
          tells_on says n t.well (before f) f next v p u q leads.joins delay w w' (shows_new w m not early)
          (shows_new w' m' not' early') step link

      pub settles_on : SettlesOrHears f v p u q w → SettlesOrHears f v p u q w'
      settles_on is = elim (old_dec w' m') [
        | yes old' ↦ inl (vacuous w' old')
        | no left' ↦ elim (telling_dec says n next top depth t old base worse w' m'.kept u q (port_of v (suc p)) in_u
            back) [
              | yes tells' ↦ tells_then tells'
              | no not' ↦ elim (telling_dec says n next top depth t old base worse w m.kept u q (port_of v (suc p)) in_u
                  back) [
                    | yes tells ↦ inr (leaves_then tells not' left')
                    | no not ↦ elim (old_dec w m) [
                      | yes was ↦ inl (goes_on not not' (vacuous w was))
                      | no left_v ↦ elim is [
                        | inl link ↦ inl (goes_on not not' link)
                        | inr comes ↦ elim (comes_on left_v comes) [
                          | inl on ↦ inr on
                          | inr held ↦ absurd (left' (old_there w' m' held))
                        ]
                      ]
                    ]
                  ]
            ]
      ]

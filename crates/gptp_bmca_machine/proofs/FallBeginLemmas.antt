-- A link of a network at rest goes down, or the best gets worse, which moves a tree: its top answers, and it begins to
-- fall back.
use Rattle.std.proofs.Common.{◌≡◌, ◌≢◌, ◌⊎◌, ◌<◌, ◌≤◌, ◌+◌, ℕ, suc, true, Some, slice_get, sym, ap, subst, ◌∙◌, inl, inr, arith}
use native.Mathlib.Decide.{ℕ_discrete}
use Rattle.gptp_lists.specs.Members.{In}
use Rattle.gptp_lists.proofs.SystemSpecLemmas.{In-left, In-parts}
use Rattle.gptp_bmca_machine.specs.SoundLaws.{UnlinkedAreOff}
use Rattle.gptp_graph.specs.Snapshot.{IsLinked, Joins, PortIdentity, Snapshot, System, clocks, port_of}
use Rattle.gptp_graph.proofs.LinkLemmas.{Joins-sym}
use Rattle.gptp_bmca_machine.specs.Acts.{LaneStep}
use Rattle.gptp_bmca_machine.specs.Calm.{Calm, IsCalmPort}
use Rattle.gptp_bmca_machine.specs.Clean.{Whole}
use Rattle.gptp_bmca_machine.specs.Frame.{Announce, AnnounceFrame, Lane, Spelling}
use Rattle.gptp_bmca_machine.specs.Levels.{Invariant, LeadsFarther}
use Rattle.gptp_bmca_machine.specs.Link.{LinkSettles, TellerIsReady, TellerIsSettled}
use Rattle.gptp_bmca_machine.specs.LinkStage.{AllFinal, FinalAnnounceStays, LinkStage, Wiring}
use Rattle.gptp_bmca_machine.specs.Network.{IsSettlingNetwork, Network, settled_from}
use Rattle.gptp_bmca_machine.specs.Reacts.{PortStep}
use Rattle.gptp_bmca_machine.specs.RestLaws.{LinkStays, SameWiring}
use Rattle.gptp_bmca_machine.specs.Station.{Disabled, HoldsAt, MachineState, Mine, Port, Received, Reception, Station}
use Rattle.gptp_bmca_machine.specs.Touch.{Hear, IsUsable, Replaces}
use Rattle.gptp_bmca_machine.proofs.MovedTreeLemmas.{Around, IsBeyond, LeadsDown, MovesTree, around, child_leads}
use Rattle.gptp_bmca_machine.proofs.FallLeaveLemmas.{OnlyDisables, TreeAnswers, leaves_old, tells_now}
use Rattle.gptp_bmca_machine.proofs.FallHeldLemmas.{holds_by}
use Rattle.gptp_bmca_machine.proofs.FallLemmas.{DownStage, HasChoice, HasLeft, HoldsInTree, HoldsLeft, IsAftermath, IsFalling, IsFreeAt, IsOld, falls_by, follows_old}
use Rattle.gptp_bmca_machine.proofs.FallRestLemmas.{chosen, held_before, masters, stays0, was_x}
use Rattle.gptp_bmca_machine.proofs.FallLevelLemmas.{TreeSettles, not_ready, show}
use Rattle.gptp_bmca_machine.proofs.LinkEndsLemmas.{hearer_known, teller_on, telling}
use Rattle.gptp_bmca_machine.proofs.LinkStageLemmas.{begins}
use Rattle.gptp_bmca_machine.proofs.LinkStepLemmas.{lives_at}
use Rattle.gptp_bmca_machine.proofs.PlaceLemmas.{same_there}
use Rattle.gptp_bmca_machine.proofs.ReactsLemmas.{held_from}
use Rattle.gptp_bmca_machine.proofs.StillLemmas.{port_there, still}
use Rattle.gptp_bmca_machine.proofs.TellsLemmas.{news_final}

module _ (says : Spelling) (n0 n : Network) (Tree : ℕ → Type 0) (Out : ℕ → ℕ → Type 0) (top : ℕ)
    (best next : System) (base : ℕ) (depth : ℕ → ℕ) (t : MovesTree n0.graph n Tree Out top best next base depth) (net0 :
    IsSettlingNetwork n0) (w : MachineState)
    (calm0 : Calm n0 w) (invariant0 : Invariant says n0 w) (late0 : settled_from n0 ≤ w.time)
    (came0 : (v p u q : ℕ) (l : Lane) (f : AnnounceFrame) (a : Announce) → Tree v → Tree u
    → Joins n.graph (port_of v (suc p)) (port_of u (suc q)) → depth v ≡ suc (depth u)
    → slice_get w.lanes (n.lane (port_of v (suc p))) ≡ Some l → In f l.frames → says f.octets a
    → Whole t.ways v a ⊎ In u a.path)
    (same : SameWiring n0 n) (w' : MachineState) (in_top : Tree top)
    (z : TreeAnswers says n (Around Tree Out) top w w') (only : OnlyDisables z.touch)
    (lanes_then : (p q : PortIdentity) (l' : Lane) → Joins n.graph p q → slice_get w'.lanes (n.lane p) ≡ Some l'
    → (l : Lane) × (slice_get w.lanes (n.lane p) ≡ Some l) × LaneStep z.s.clock z.sends l l')
    (m' : IsAftermath says n0.graph n w') (dark' : UnlinkedAreOff n.graph w') (inward' : (v p u q : ℕ) → Out u v
    → Joins n.graph (port_of v (suc p)) (port_of u (suc q)) → IsFreeAt says t.ways n v p u q w') where
  abbrev g : Snapshot
  g = n0.graph

  -- ---- who isn't the top stands as it did

  top_is : z.s.clock ≡ top
  top_is = (was_x says n0 n Tree Out top best next base depth t net0 w calm0 invariant0 late0 same top in_top z.s
      z.here).1

  below_top : (u : ℕ) (d : ℕ) → depth u ≡ suc d → u ≢ top
  below_top u d deeper is = let none = ap depth is ∙ t.first in omega (arith, deeper, none)

  beyond_top : (v u : ℕ) → IsBeyond Tree Out depth v u → u ≢ top
  beyond_top v u (inl (in_u, deeper)) is = below_top u (depth v) deeper is
  beyond_top v u (inr out) is = t.outside v u out (subst Tree (sym is) in_top)

  -- nothing enters a lane from another
  quiet : (v p : ℕ) → v ≢ top → (l l' : Lane) → l.from ≡ port_of v (suc p)
      → (step : LaneStep z.s.clock z.sends l l') → (f : AnnounceFrame) → In f step.news → ⊥
  quiet v p apart l l' from step f among =
      let (y, sent, over, octets) = step.sent f among in
      apart (ap (λ (k : PortIdentity). k.clock) (sym from ∙ over) ∙ top_is)

  -- where the lane of a link leads from
  from_then : (v p u q : ℕ) → Joins n.graph (port_of v (suc p)) (port_of u (suc q)) → (l l' : Lane)
      → slice_get w'.lanes (n.lane (port_of v (suc p))) ≡ Some l' → LaneStep z.s.clock z.sends l l'
      → (l.from ≡ port_of v (suc p)) × (l.to ≡ port_of u (suc q))
  from_then v p u q joins l l' lane' step =
      let has = m'.kept.calm.lanes (port_of v (suc p)) (port_of u (suc q)) joins in
      let one = same_there w'.lanes (n.lane (port_of v (suc p))) has.lane l' has.there lane' in (
        sym step.from ∙ ap (λ (y : Lane). y.from) (sym one) ∙ has.from,
        sym step.to ∙ ap (λ (y : Lane). y.to) (sym one) ∙ has.to,
      )

  -- ---- links up the tree

  module _ (v p u q : ℕ) (in_v : Tree v) (in_u : Tree u)
      (joins : Joins n.graph (port_of v (suc p)) (port_of u (suc q))) (higher : depth v ≡ suc (depth u)) where
    back : Joins n.graph (port_of u (suc q)) (port_of v (suc p))
    back = Joins-sym n.graph (port_of v (suc p)) (port_of u (suc q)) joins

    held_none : (s : Station) (pu : Port) (r : Reception) → slice_get w'.stations (n.place u) ≡ Some s
        → slice_get s.ports q ≡ Some pu → pu.held ≡ Received r → ⊥
    held_none s pu r at there holds = elim (ℕ_discrete u top) [
      | no apart ↦ held_before says n0 n Tree Out top best next base depth t net0 w calm0 invariant0 late0 same v p u q
          in_v in_u joins higher s pu r (z.others u s (t.lives u in_u) (inl in_u) apart at) there holds
      | yes is ↦
          let one : s ≡ z.s' = same_there w'.stations (n.place top) s z.s'
          (subst (λ c. slice_get w'.stations (n.place c) ≡ Some s) is at) z.there in
          elim (held_from says z.s z.s' z.touch w.time z.sends z.reacts q r
          (subst (λ (y : Station). HoldsAt y q r) one (pu, there, holds))) [
            | inl (old, stood, was) ↦
                held_before says n0 n Tree Out top best next base depth t net0 w calm0 invariant0 late0 same v p u q
                in_v in_u joins higher z.s old r (subst (λ c. slice_get w.stations (n.place c) ≡ Some z.s) (sym is)
                z.here) stood
                was
            | inr just ↦ absurd (only.deaf (suc q) just.said just.touched)
          ]
    ]

    pub up_left : HoldsLeft says t.ways n v p u q w'
    up_left s pu l at there lane r holds = absurd (held_none s pu r at there holds)

    pub up_free : IsFreeAt says t.ways n v p u q w'
    up_free s pu l' at there lane' = record {
      hears = λ r holds. absurd (held_none s pu r at there holds);
      flight = λ f a among said. flown f a among said
          (lanes_then (port_of v (suc p)) (port_of u (suc q)) l' joins lane');
    }
      where
        apart_v : v ≢ top
        apart_v = below_top v (depth u) higher

        flown : (f : AnnounceFrame) (a : Announce) → In f l'.frames → says f.octets a
            → ((l : Lane) × (slice_get w.lanes (n.lane (port_of v (suc p))) ≡ Some l)
            × LaneStep z.s.clock z.sends l l') → Whole t.ways v a ⊎ In u a.path
        flown f a among said (l, at_l, step) =
            let (from, to) = from_then v p u q joins l l' lane' step in
            elim (In-parts f l.frames step.news (subst (In f) step.behind among)) [
              | inr new ↦ absurd (quiet v p apart_v l l' from step f new)
              | inl old ↦
                  came0 v p u q l f a in_v in_u joins higher at_l old said
            ]

  -- ---- links that lead down, but from the top

  module _ (v p u q : ℕ) (in_v : Tree v)
      (joins : Joins n.graph (port_of v (suc p)) (port_of u (suc q))) (down : LeadsDown g Tree Out base depth v u)
      (apart : v ≢ top) where
    old_led : IsOld n w' v best (base + depth v)
    old_led s at =
        let chose = chosen says n0 n Tree Out top best next base depth t net0 w calm0 invariant0 late0 same v in_v s
        (z.others v s (t.lives v in_v) (inl in_v) apart at) in (chose.root, chose.steps)

    stays_led : LinkStays says (still n (base + depth v) best v p u q) w'
    stays_led pv pu l' stand =
        by (lanes_then (port_of v (suc p)) (port_of u (suc q)) l' joins stand.lane)
      where
        known_u : In u (clocks n.graph)
        known_u = hearer_known g n t.well t.left n.most 0 best v p u q joins (omega arith)

        by : ((l : Lane) × (slice_get w.lanes (n.lane (port_of v (suc p))) ≡ Some l)
            × LaneStep z.s.clock z.sends l l')
            → FinalAnnounceStays says (still n (base + depth v) best v p u q) pv.announce pu.held l'.frames
        by (l, at_l, step) =
            subst (FinalAnnounceStays says (still n (base + depth v) best v p u q) pv.announce pu.held)
            (sym step.behind) (record {
              what = stay.what;
              holds = stay.holds;
              final = stay.final;
              flight = λ f a among said. elim (In-parts f l.frames step.news among) [
                | inl old ↦ stay.flight f a old said
                | inr new ↦ absurd (quiet v p apart l l' (from_then v p u q joins l l' stand.lane step).0 step f new)
              ];
              next = elim stay.next [
                | inl timer ↦ inl timer
                | inr (f, among, said, due) ↦ inr (f, In-left f l.frames step.news among, said, due)
              ];
            })
          where
            stay : FinalAnnounceStays says (still n (base + depth v) best v p u q) pv.announce pu.held l.frames
            stay = stays0 says n0 n Tree Out top best next base depth t net0 w calm0 invariant0 late0 same v p u q in_v
                joins down pv pu l (record {
                  v = stand.v;
                  u = stand.u;
                  teller = z.others v stand.v (t.lives v in_v) (inl in_v) apart stand.teller;
                  teller_port = stand.teller_port;
                  hearer = z.others u stand.u known_u (around Tree Out depth v u down.beyond)
                      (beyond_top v u down.beyond) stand.hearer;
                  hearer_port = stand.hearer_port;
                  lane = at_l;
                })

  -- ---- the top

  holds_top : HoldsInTree says g n Tree Out top best next base depth t w.time top w'
  holds_top =
      holds_by says g n Tree Out top best next base depth t w.time w' m' top in_top
      (λ v p i in_v joins deeper. absurd (let none = t.first in omega (arith, deeper, none)))
      (λ v p i joins beyond. elim beyond [
        | inl (in_v, higher) ↦ up_left v p top i in_v in_top joins higher
        | inr out ↦ (λ s pu l at there at_l. (inward' v p top i out joins s pu l at there at_l).hears)
      ])

  not_top : HasChoice z.s' best (base + depth top) → ⊥
  not_top root =
      let old = follows_old says g n Tree Out top best next base depth t w.time w' m' top in_top z.s' z.there holds_top
      root in
      elim old.told [
        | inl above ↦ let deeper = above.deeper in let none = t.first in absurd (omega (arith, deeper, none))
        | inr lost ↦
            let lives = lives_at n w' m'.kept.calm top (t.lives top in_top) z.s' z.there in
            let off = dark' (n.place top) z.s' old.i old.holds.0 z.there lives.0 old.holds.1
            (λ linked. lost.bare (subst (λ c. IsLinked n.graph (port_of c (suc old.i))) lives.1 linked)) in
            absurd (let both : Received old.r ≡ Disabled = sym old.holds.2 ∙ off in cc)
      ]

  left_top : HasLeft n w' top best (base + depth top)
  left_top s at choice =
      not_top (subst (λ (y : Station). HasChoice y best (base + depth top))
      (same_there w'.stations (n.place top) s z.s' at z.there) choice)

  module _ (p u q : ℕ) (joins : Joins n.graph (port_of top (suc p)) (port_of u (suc q)))
      (down : LeadsDown g Tree Out base depth top u) where
    refuses_top : (a : Announce) → z.touch ≡ Hear (suc p) a → IsUsable top a
        → Replaces top (suc p) a (Mine best.identity (base + depth top)) → ⊥
    refuses_top a touched usable replaces = only.deaf (suc p) a touched

    -- its port was master
    was_mine : (pv : Port) → slice_get z.s.ports p ≡ Some pv
        → (pv.held ≡ Mine best.identity (base + depth top)) × (w.time ≤ pv.announce)
    was_mine pv stood = (mine, (is_port.timer best.identity (base + depth top) mine).0)
      where
        lives : (z.s.live ≡ true) × (z.s.clock ≡ top)
        lives = was_x says n0 n Tree Out top best next base depth t net0 w calm0 invariant0 late0 same top in_top z.s
            z.here

        is_port : IsCalmPort n0 w.time (port_of z.s.clock (suc p)) pv
        is_port = (calm0.stations (n.place top) z.s z.here lives.0).ports p pv stood

        on : pv.held ≢ Disabled
        on off = by (port_there g n t.well t.left w' m'.kept m'.fits.stations top p (port_of u (suc q)) z.s' z.there
            joins)
          where
            by : ((pv' : Port) × (slice_get z.s'.ports p ≡ Some pv')) → ⊥
            by (pv', there') = answered (z.reacts.ports p pv' there')
              where
                on' : pv'.held ≢ Disabled
                on' = teller_on g n t.well t.left n.most 0 best top p u q joins (omega arith) w' m'.kept
                    m'.fits.stations
                    z.s' pv' z.there there'

                answered : ((old : Port) × (slice_get z.s.ports p ≡ Some old)
                    × PortStep says z.s.clock (suc p) w.time z.touch z.s'.root z.s'.steps old pv' z.sends) → ⊥
                answered (old, stood', answer) =
                    lit (elim (only.spares z.s.clock (suc p) w.time old.held answer.mid answer.before) [
                      | inl is ↦ is
                      | inr is ↦ is
                          ∙ ap (λ (y : Port). y.held) (same_there z.s.ports p old pv stood' stood) ∙ off
                    ])
                  where
                    lit : answer.mid ≡ Disabled → ⊥
                    lit dark = elim answer.after [
                      | inl (kept, keeps) ↦ on' (kept ∙ dark)
                      | inr becomes ↦ becomes.on dark
                    ]

        mine : pv.held ≡ Mine best.identity (base + depth top)
        mine = masters says n0 n Tree Out top best next base depth t net0 w calm0 invariant0 late0 same top in_top z.s
            z.here p pv u (suc q) stood on joins down

    -- it has left its old choice, and told so
    top_left : DownStage says t.ways n best (base + depth top) (falls_by n w.time (suc (depth top))) top p u q w'
    top_left = inr (inl (
      left_top,
      leaves_old says g n Tree Out top best next base depth t w.time w w' m' top in_top z holds_top not_top p u q joins
          down.beyond was_mine (stays0 says n0 n Tree Out top best next base depth t net0 w calm0 invariant0 late0 same
          top p u q in_top joins down) refuses_top
          (let none = t.first in omega arith),
    ))

  -- ---- so it begins

  begins_down : (v p u q : ℕ) → Tree v → Joins n.graph (port_of v (suc p)) (port_of u (suc q))
      → LeadsDown g Tree Out base depth v u
      → DownStage says t.ways n best (base + depth v) (falls_by n w.time (suc (depth v))) v p u q w'
  begins_down v p u q in_v joins down = elim (ℕ_discrete v top) [
    | no apart ↦ inl (old_led v p u q in_v joins down apart, stays_led v p u q in_v joins down apart)
    | yes is ↦
        subst (λ c. DownStage says t.ways n best (base + depth c) (falls_by n w.time (suc (depth c))) c p u q w')
        (sym is)
        (top_left p u q (subst (λ c. Joins n.graph (port_of c (suc p)) (port_of u (suc q))) is joins)
        (subst (λ c. LeadsDown g Tree Out base depth c u) is down))
  ]

  pub falling_begins : IsFalling says g n Tree Out top best next base depth t w.time w'
  falling_begins = record {
    sooner = λ in_tree choice. absurd (not_top (choice z.s' z.there));
    down = begins_down;
    up = λ v p u q in_u joins beyond. elim beyond [
      | inl (in_v, higher) ↦ up_free v p u q in_v in_u joins higher
      | inr out ↦ inward' v p u q out joins
    ];
  }

  -- ---- the top may have settled already

  module _ (before : ℕ → ℕ) (room : (f : ℕ) → w'.time + n.most < before f) where
    delay : (f : ℕ) → n.most ≤ before f
    delay f = let more = room f in omega (arith, more)

    module _ (f p u q : ℕ) (close : f < 255) (in_u : Tree u) (leads : LeadsFarther n.graph f next top p u q)
        (deeper : depth u ≡ suc (depth top)) where
      down : LeadsDown g Tree Out base depth top u
      down = child_leads g n Tree Out top best next base depth t top u in_u deeper

      abbrev k : Wiring
      k = telling n (before f) f next top p u q

      top_tells : LinkSettles says (telling n (before f) f next top p u q) w'
      top_tells since pv' pu l' stand ready =
          by_lane (lanes_then (port_of top (suc p)) (port_of u (suc q)) l' leads.joins stand.lane)
          (z.reacts.ports p pv' there')
        where
          one : stand.v ≡ z.s'
          one = same_there w'.stations (n.place top) stand.v z.s' stand.teller z.there

          there' : slice_get z.s'.ports p ≡ Some pv'
          there' = subst (λ (y : Station). slice_get y.ports p ≡ Some pv') one stand.teller_port

          tells : TellerIsSettled k stand.v pv'
          tells =
              (show says g n Tree Out top best next base depth t w.time before f top p u q close in_top in_u leads
              (delay f)
              w' m' falling_begins (λ s pv at there not. room f) (inl deeper)).settled stand.v pv' stand.teller
              stand.teller_port ready

          by_lane : ((l : Lane) × (slice_get w.lanes (n.lane (port_of top (suc p))) ≡ Some l)
              × LaneStep z.s.clock z.sends l l')
              → ((pv : Port) × (slice_get z.s.ports p ≡ Some pv)
              × PortStep says z.s.clock (suc p) w.time z.touch z.s'.root z.s'.steps pv pv' z.sends)
              → LinkStage says k pv'.announce pu.held l'.frames
          by_lane (l, at_l, step) (pv, stood, answer) =
              let (f', among, said, soon) = tells_now says g n Tree Out top best next base depth t w.time w w' m' top
              in_top z
              holds_top not_top p u q leads.joins down.beyond
              (was_mine p u q leads.joins down) (stays0 says n0 n Tree Out top best next base depth t net0 w calm0
              invariant0 late0 same top p u q in_top leads.joins down)
              (refuses_top p u q leads.joins down) (let none = t.first in omega arith) l l' stand.lane step pv pv'
              stood there' answer in
              let more = room f in
              let now = z.time in
              subst (LinkStage says k pv'.announce pu.held) (sym step.behind)
              (begins says k pv'.announce pu.held l.frames step.news f' news among said
              (omega (arith, soon, more, now)))
            where
              from_top : l.from ≡ port_of top (suc p)
              from_top = (from_then top p u q leads.joins l l' stand.lane step).0

              news : AllFinal says k step.news
              news =
                  news_final says g n t.well t.left (before f) f next top p u q leads.joins (delay f) w' m'.kept
                  m'.fits.stations z.s' z.there pv' there'
                  (subst (λ (y : Station). TellerIsReady k y pv') one ready)
                  (subst (λ (y : Station). TellerIsSettled k y pv') one tells) z.sends z.reacts.tells z.s.clock l l'
                  from_top step

    pub settles_begin : TreeSettles says g n Tree Out top best next base depth t w.time before w'
    settles_begin f v p u q close in_v in_u leads = elim (ℕ_discrete v top) [
      | no apart ↦ not_ready says g n Tree Out top best next base depth t w.time before f v p u q close in_v in_u leads
          (delay f) w'
          (λ s at.
          let chose = chosen says n0 n Tree Out top best next base depth t net0 w calm0 invariant0 late0 same v in_v s
          (z.others v s (t.lives v in_v) (inl in_v) apart at) in (chose.root, chose.steps))
      | yes is ↦
          let here = subst (λ c. LeadsFarther n.graph f next c p u q) is leads in
          subst (λ c. LinkSettles says (telling n (before f) f next c p u q) w') (sym is)
          (elim (t.steps top u in_top in_u (suc p, suc q, here.joins)) [
            | inl deeper ↦ top_tells f p u q close in_u here deeper
            | inr higher ↦ absurd (let none = t.first in omega (arith, higher, none))
          ])
    ]
